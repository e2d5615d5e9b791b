use Rattle.std.proofs.Common.{arith}
use Rattle.std.proofs.lemmas.List.{append_assoc}
use Rattle.lines.proofs.Writing.{added_both}
use Rattle.lines.proofs.writer.Writer.refused.Goals as goal

pub returns : goal.returns
returns c =
    let number = added_both (omega arith) c.text.ensures c.field.ensures.added in
    let place = added_both (omega arith) number c.field-2.ensures.added in
    let whole = added_both (omega arith) place c.field-3.ensures.added in
    simp append_assoc at whole
