use Rattle.rules.proofs.Fresh.{no_stale}
use Rattle.rules.proofs.no_stale.Goals as goal

pub returns : goal.returns
returns c = no_stale
