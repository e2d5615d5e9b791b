use Rattle.std.proofs.Common.{arith}
use Rattle.std.proofs.lemmas.List.{append_assoc}
use Rattle.lines.proofs.Writing.{added_both}
use Rattle.lines.proofs.writer.Writer.numbers.Goals as goal

pub returns : goal.returns
returns c =
    let letter = added_both (omega arith) c.field.ensures.added c.text.ensures in
    let refusal = added_both (omega arith) letter c.field-2.ensures.added in
    let small = added_both (omega arith) refusal c.field-3.ensures.added in
    let value = added_both (omega arith) small c.field-4.ensures.added in
    let whole = added_both (omega arith) value c.field-5.ensures.added in
    simp append_assoc at whole
