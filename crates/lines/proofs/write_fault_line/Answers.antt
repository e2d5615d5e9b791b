use Rattle.std.proofs.Common.{◌≡◌, true, length, arith}
use Rattle.std.proofs.lemmas.Bool.{le-leb}
use Rattle.lines.specs.Lines.{fault_line, has_room}
use Rattle.lines.proofs.Writing.{in_front}
use Rattle.lines.proofs.write_fault_line.Goals as goal

pub returns-clause-after : goal.returns-clause-after
returns-clause-after c =
    let first = c.in_ok-field.ensures.cases in
    let room : has_room (length c.args.out.now) 1 ≡ true = le-leb _ _ (omega arith) in
    rw room (in_front c.args.out.now c.in_ok-field.field.now c.write_fault.new.field (fault_line c.args.fault) 48 first.same first.enough (omega arith) c.write_fault.ensures.after)
