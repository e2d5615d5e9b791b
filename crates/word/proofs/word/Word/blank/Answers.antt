use Rattle.std.proofs.Common.{refl}
use Rattle.word.proofs.Marks.{blank_from_zero}
use Rattle.word.proofs.word.Word.blank.Goals as goal

pub returns : goal.returns
returns c = blank_from_zero _ refl c.blank.ensures
