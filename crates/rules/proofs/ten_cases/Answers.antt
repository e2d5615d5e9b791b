use Rattle.rules.proofs.Examples.{all_cases}
use Rattle.rules.proofs.ten_cases.Goals as goal

pub returns : goal.returns
returns c = all_cases
