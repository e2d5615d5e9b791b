-- Figures that exist pass every row. Assumes nothing.
use Rattle.std.proofs.Common.{◌≡◌, Ok}
use Rattle.call.specs.Figures.{figures, checked}
use Rattle.call.specs.declared.figures.Figures.{Figures}

-- figures that exist are checked
pub figures_checked : (f : Figures) → checked (figures f) ≡ Ok (figures f)
figures_checked f = rw (f.cores_pass, f.slots_pass, f.words_pass, f.strip_pass, f.allowance_pass)
