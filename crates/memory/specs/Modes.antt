-- A mode as the rules have it, and what a phase that ends does to an entry. Assumes nothing.
use Rattle.std.specs.Prelude.{ℕ, Bool, cond, not, ◌&&◌, nat_le}
use Rattle.call.specs.Figures.{Five}
use Rattle.rules.specs.Plans as rule
use Rattle.rules.specs.Plans.{read_only, written, locked, is_read_only, mode_of, bits_of}
use Rattle.memory.specs.Entries.{turned, done_by, is_dropped}
use Rattle.memory.specs.declared.entry.Entry.{Entry}
use Rattle.memory.specs.declared.entry.Event.TheVariants.{Fade}
use Rattle.memory.specs.declared.mode.Mode.{Mode}
use Rattle.memory.specs.declared.mode.Mode.TheVariants.{ReadOnly, Written, Locked}

abbrev pub mode_in : Mode → rule.Mode
mode_in ReadOnly = read_only
mode_in Written = written
mode_in (Locked lock) = locked lock

-- whether the four bits of a strip are from 2 to 7
abbrev pub bad_at : ℕ → ℕ → Bool
bad_at plan strip = nat_le 2 (bits_of plan strip) && nat_le (bits_of plan strip) 7

-- whether copies of a word go when a phase under this plan ends
abbrev pub goes : Five → ℕ → ℕ → Bool
goes f plan word = not (is_read_only (mode_of f plan word))

-- the entry that such an end leaves
abbrev pub left_by : Five → ℕ → Entry → Entry
left_by f plan e = cond (goes f plan e.place.number) (turned e Fade) e

-- whether it drops the entry's copy
abbrev pub drops : Five → ℕ → Entry → Bool
drops f plan e = goes f plan e.place.number && is_dropped (done_by e.state Fade)
