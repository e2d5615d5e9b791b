use Rattle.rules.proofs.Races.{races_named}
use Rattle.rules.proofs.races_named.Goals as goal

pub returns : goal.returns
returns c = races_named
