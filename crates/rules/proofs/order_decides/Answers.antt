use Rattle.rules.proofs.Decides.{order_decides}
use Rattle.rules.proofs.order_decides.Goals as goal

pub returns : goal.returns
returns c = order_decides
