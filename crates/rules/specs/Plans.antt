-- Plans: the mode of each strip. Assumes nothing.
use Rattle.std.specs.Prelude.{ℕ, ◌-◌, ◌/◌, ◌%◌, ◌^◌, Bool, true, false, cond, ◌&&◌, ◌==◌, nat_le}
use Rattle.call.specs.Figures.{Five, strip_of}
use Rattle.rules.specs.Tables.{some_of, below}

-- how the words of a strip are shared in a phase: read only, each word written by one core, or mixed under a lock
pub data Mode : Type 0 where
  read_only : Mode
  written : Mode
  locked : ℕ → Mode

-- the four bits of a strip in a plan
abbrev pub bits_of : ℕ → ℕ → ℕ
bits_of plan strip = plan / 16 ^ strip % 16

-- what four bits say: 0 is read_only, 8 to 15 is locked under lock 0 to 7, else the strip is written. A plan with a
-- mode from 2 to 7 is refused, so that 1 is the only such number in a plan in force
abbrev pub mode_of_bits : ℕ → Mode
mode_of_bits bits = cond (bits == 0) read_only (cond (nat_le 8 bits) (locked (bits - 8)) written)

-- the mode of a word's strip under a plan
abbrev pub mode_of : Five → ℕ → ℕ → Mode
mode_of f plan word = mode_of_bits (bits_of plan (strip_of f word))

abbrev pub is_locked : Mode → Bool
is_locked read_only = false
is_locked written = false
is_locked (locked lock) = true

abbrev pub is_read_only : Mode → Bool
is_read_only read_only = true
is_read_only written = false
is_read_only (locked lock) = false

-- a plan with a mode from 2 to 7 in one of its sixteen strips
abbrev pub has_bad_mode : ℕ → Bool
has_bad_mode plan = some_of (λ strip. nat_le 2 (bits_of plan strip) && nat_le (bits_of plan strip) 7) (below 16)
