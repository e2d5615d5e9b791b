use Rattle.std.proofs.Common.{replicate, ap}
use Rattle.page.proofs.table.Table.new.Goals as goal

pub returns : goal.returns
returns c = ap (replicate 4096) c.blank.ensures
