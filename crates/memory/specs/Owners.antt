-- Where an entry stands among the entries of all cores, and what an owner holds. Assumes nothing.
use Rattle.std.specs.Prelude.{ℕ, ◌+◌, ◌*◌, Bool, true, false, ◌&&◌, List, Some, None, Option, ◌==◌, slice_index_or}
use Rattle.call.specs.Figures.{Five, slot_of}
use Rattle.memory.specs.Entries.{empty}
use Rattle.memory.specs.declared.bounds.Below.{Below}
use Rattle.memory.specs.declared.bounds.Seat.{Seat}
use Rattle.memory.specs.declared.entry.Entry.{Entry}
use Rattle.memory.specs.declared.entry.State.{State}
use Rattle.memory.specs.declared.entry.State.TheVariants.{Invalid, Valid, Registered}

-- the number of a core
abbrev pub Core : Type 0
Core = Below 8

-- the place of a word on a page
abbrev pub Place : Type 0
Place = Below 4096

-- the place of a core's slot among all entries: 64 for each core
abbrev pub seat : ℕ → ℕ → ℕ
seat core slot = core * 64 + slot

-- the place of a seat among all entries
abbrev pub index_of : Seat → ℕ
index_of s = seat s.core.number s.slot.number

abbrev pub is_registered : State → Bool
is_registered Invalid = false
is_registered Valid = false
is_registered Registered = true

-- whether an entry is the registered copy of a word
abbrev pub counts_for : ℕ → Entry → Bool
counts_for word e = is_registered e.state && e.place.number == word

-- whether the owner of a word, if it has one, is a core whose entry for the word is its registered copy
abbrev pub holds : Five → List Entry → ℕ → Option Core → Bool
holds f entries word None = true
holds f entries word (Some core) = counts_for word (slice_index_or entries (seat core.number (slot_of f word)) empty)
