use Rattle.std.proofs.Common.{refl}
use Rattle.sets.proofs.Rows.{rows_empty}
use Rattle.signature.proofs.Same.{rows_blank}
use Rattle.signature.proofs.rows.Rows.new.Goals as goal

pub returns : goal.returns
returns g c = record { value = rows_blank _ refl; empty = rows_empty 8 g.row.WIDTH }
