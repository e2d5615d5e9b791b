use Rattle.rules.proofs.Settled.{settled_pages}
use Rattle.rules.proofs.settled_pages.Goals as goal

pub returns : goal.returns
returns c = settled_pages
