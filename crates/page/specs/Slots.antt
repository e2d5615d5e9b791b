-- The slots of a bank: what lies where, what the bank means, and what a write leaves in the slots and below.
-- Assumes nothing.
use Rattle.std.specs.Prelude.{ℕ, ◌%◌, Bool, true, cond, List, map, length, Some, None, Option, ◌==◌, nat_lt, slice_index_or, slice_set}
use Rattle.std.specs.Option.{unwrap_or}
use Rattle.std.specs.List.{range_with_len}
use Rattle.word.specs.declared.word.Word.{Word}
use Rattle.word.specs.Words.{blank_word}
use Rattle.page.specs.declared.change.Change.{Change}

-- what a slot holds: a changed word with its place, or nothing
abbrev pub Slot : Type 0
Slot = Option Change

-- what the slot of a place holds
abbrev pub slot_for : List Slot → ℕ → Slot
slot_for slots place = slice_index_or slots (place % 128) None

-- whether what a slot holds lies in it: only a word whose place is the slot's number mod 128
abbrev pub in_slot : ℕ → Slot → Bool
in_slot slot None = true
in_slot slot (Some change) = change.place % 128 == slot

-- the changed word that a slot holds for a place, if it holds one
abbrev pub changed : Slot → ℕ → Option Word
changed None place = None
changed (Some change) place = cond (change.place == place) (Some change.word) None

-- the word at a place: the changed word that its slot holds for it, else the word below
abbrev pub shown : Slot → ℕ → Word → Word
shown slot place below = unwrap_or (changed slot place) below

-- the list below with the changed words laid over it
abbrev pub laid : List Slot → List Word → List Word
laid slots below = map (λ place. shown (slot_for slots place) place (slice_index_or below place blank_word)) (range_with_len 0 (length below))

-- the list below once what a slot holds is written to it
abbrev pub flushed : Slot → List Word → List Word
flushed None below = below
flushed (Some change) below = slice_set below change.place change.word

-- the slots after a write: the slot of a place inside holds the word
abbrev pub slots_after : List Slot → List Word → ℕ → Word → List Slot
slots_after slots below place word =
    cond (nat_lt place (length below)) (slice_set slots (place % 128) (Some (record { place = place; word = word }))) slots

-- the list below after a slot has made way for a place: what it held for another place is written below
abbrev pub made_way : Slot → ℕ → List Word → List Word
made_way None place below = below
made_way (Some change) place below = cond (change.place == place) below (flushed (Some change) below)

-- the list below after a write: inside, the slot has made way for the place
abbrev pub below_after : List Slot → List Word → ℕ → List Word
below_after slots below place = cond (nat_lt place (length below)) (made_way (slot_for slots place) place below) below
