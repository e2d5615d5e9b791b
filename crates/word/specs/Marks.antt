-- What a mark tells: its number, its core and its count. Assumes nothing.
use Rattle.std.specs.Prelude.{◌≡◌, ℕ, ◌/◌, ◌%◌, Bool, true, false, cond, Some, None, Option, Ok, Err, Result, ◌==◌, refl}
use Rattle.word.specs.Lawful.{lawful}
use Rattle.word.specs.declared.mark.Mark.{Mark}
use Rattle.word.specs.declared.mark.NoMark.{NoMark}

-- the number of a mark
abbrev pub number : Mark → ℕ
number m = m.number

-- the core whose store a mark's number tells; a blank mark has none
abbrev pub core_of : ℕ → Option ℕ
core_of n = cond (n == 0) None (Some (n / 1048576))

-- the count of that store among its core's; 0 of a blank mark
abbrev pub count_of : ℕ → ℕ
count_of n = n % 1048576

-- the mark with a number; where the number is not lawful, the blank mark
abbrev pub mark_by : (n : ℕ) (b : Bool) → lawful n ≡ b → Mark
mark_by n true law = record { number = n; law = law }
mark_by n false law = record { number = 0; law = refl }

abbrev pub mark_at : ℕ → Mark
mark_at n = mark_by n (lawful n) refl

-- what a number reads as: its mark, or that it is none
abbrev pub mark_read : ℕ → Result Mark NoMark
mark_read n = cond (lawful n) (Ok (mark_at n)) (Err (record { number = n }))
