use Rattle.rules.proofs.Examples.{old_copy_fetched}
use Rattle.rules.proofs.old_copy_fetched.Goals as goal

pub returns : goal.returns
returns c = old_copy_fetched
