-- The size of a board that is opened: taking marks off leaves a page as long as it was. Assumes nothing.
use Rattle.std.proofs.Common.{◌≡◌, ℕ, min, List, length, ap, ◌∙◌}
use Rattle.call.specs.Figures.{Five}
use Rattle.rules.proofs.Opening.{opened_length}
use Rattle.rules.specs.State.{opened, size_of}
use Rattle.word.specs.declared.word.Word.{Word}

pub size_kept : (f g : Five) (n : ℕ) (page left : List Word) → g ≡ f → left ≡ opened n page → size_of g left ≡ size_of f page
size_kept f g n page left same e = λ i. min (same i).words ((ap length e ∙ opened_length n page) i)
