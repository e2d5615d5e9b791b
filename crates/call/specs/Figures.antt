-- The five figures as numbers, their check row by row, and what is found by them: the strip and the slot of a word.
-- Contracts speak of these numbers and never of the inside of the checked type. Assumes nothing.
use Rattle.std.specs.Prelude.{◌≡◌, ℕ, ◌*◌, ◌/◌, ◌%◌, ◌<◌, cond, ◌⊎◌, Ok, Err, Result}
use Rattle.call.specs.Rows.{passes_cores, passes_slots, passes_words, passes_strip, passes_allowance}
use Rattle.call.specs.declared.figures.Figures.{Figures}
use Rattle.call.specs.declared.fault.FigureFault.{FigureFault}
use Rattle.call.specs.declared.fault.FigureFault.TheVariants.{Cores, Slots, Words, Strip, Allowance}

-- five numbers, checked or not
pub record Five : Type 0 where
  pub cores : ℕ
  pub slots : ℕ
  pub words : ℕ
  pub strip : ℕ
  pub allowance : ℕ

abbrev pub five : ℕ → ℕ → ℕ → ℕ → ℕ → Five
five cores slots words strip allowance =
    record { cores = cores; slots = slots; words = words; strip = strip; allowance = allowance }

-- the numbers of checked figures
abbrev pub figures : Figures → Five
figures f = five f.cores f.slots f.words f.strip f.allowance

-- the check, row by row: the first row that is broken refuses the figures
abbrev pub checked : Five → Result Five FigureFault
checked f =
    cond (passes_cores f.cores)
    (cond (passes_slots f.slots)
    (cond (passes_words f.words)
    (cond (passes_strip f.words f.strip) (cond (passes_allowance f.allowance) (Ok f) (Err Allowance)) (Err Strip))
    (Err Words))
    (Err Slots))
    (Err Cores)

-- a result of the check by its numbers
abbrev pub by_numbers : Result Figures FigureFault → Result Five FigureFault
by_numbers (Ok f) = Ok (figures f)
by_numbers (Err e) = Err e

-- what a broken row says of the figures
abbrev pub Broken : FigureFault → Five → Type 0
Broken Cores f = (f.cores ≡ 0) ⊎ (8 < f.cores)
Broken Slots f = (f.slots ≡ 0) ⊎ (64 < f.slots)
Broken Words f = (f.words ≡ 0) ⊎ (4096 < f.words)
Broken Strip f = ((f.strip ≡ 0) ⊎ (4096 < f.strip)) ⊎ (16 * f.strip < f.words)
Broken Allowance f = (f.allowance ≡ 0) ⊎ (1000000 < f.allowance)

-- the strip of a word
abbrev pub strip_of : Five → ℕ → ℕ
strip_of f word = word / f.strip

-- the slot of a word in each core's cache
abbrev pub slot_of : Five → ℕ → ℕ
slot_of f word = word % f.slots
