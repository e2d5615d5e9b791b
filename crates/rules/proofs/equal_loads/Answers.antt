use Rattle.rules.proofs.Equal.{equal_loads}
use Rattle.rules.proofs.equal_loads.Goals as goal

pub returns : goal.returns
returns c = equal_loads
