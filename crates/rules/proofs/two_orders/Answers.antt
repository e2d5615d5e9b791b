use Rattle.rules.proofs.Examples.{two_orders}
use Rattle.rules.proofs.two_orders.Goals as goal

pub returns : goal.returns
returns c = two_orders
