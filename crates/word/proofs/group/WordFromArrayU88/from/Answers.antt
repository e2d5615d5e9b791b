use Rattle.std.proofs.Common.{◌∙◌, Result, ap}
use Rattle.std.specs.Result.{result_unwrap_or}
use Rattle.word.specs.declared.mark.Mark.{Mark}
use Rattle.word.specs.declared.mark.NoMark.{NoMark}
use Rattle.word.proofs.Groups.{word_from_halves}
use Rattle.word.proofs.Marks.{mark_read_or}
use Rattle.word.proofs.group.WordFromArrayU88.from.Goals as goal

pub returns : goal.returns
returns c =
    let blank = c.blank.result in
    let read = ap (λ (r : Result Mark NoMark). result_unwrap_or r blank) c.try_from.ensures.value in
    word_from_halves c.args.group c.halves_of-value.result _ c.halves_of-value.ensures
    (c.unwrap_or-mark.ensures ∙ read ∙ mark_read_or c.halves_of-value.result.1 blank c.blank.ensures)
