use Rattle.std.proofs.Common.{◌≡◌, true, length, arith}
use Rattle.std.proofs.lemmas.Bool.{le-leb}
use Rattle.lines.specs.Lines.{has_room}
use Rattle.lines.proofs.Writing.{from_first}
use Rattle.lines.proofs.write_lines.Goals as goal

pub returns-clause-after : goal.returns-clause-after
returns-clause-after c =
    let room : has_room (length c.args.out.now) (length c.args.records.now) ≡ true = le-leb _ _ (omega arith) in
    rw room (from_first c.put_lines.ensures).1
