-- A cache entry as a copy of the rules, and the table of what an event does to an entry. Assumes nothing.
use Rattle.std.specs.Prelude.{ℕ, Bool, true, false, refl}
use Rattle.word.specs.declared.word.Word.{Word}
use Rattle.rules.specs.State.{Copy, invalid, valid, registered}
use Rattle.word.specs.Words.{blank_word}
use Rattle.memory.specs.declared.entry.State.{State}
use Rattle.memory.specs.declared.entry.State.TheVariants.{Invalid, Valid, Registered}
use Rattle.memory.specs.declared.entry.Event.{Event}
use Rattle.memory.specs.declared.entry.Event.TheVariants.{Settle, Evict, Taken, Fade}
use Rattle.memory.specs.declared.entry.Done.{Done}
use Rattle.memory.specs.declared.entry.Done.TheVariants.{Kept, Dropped, Written, Taken as Lost}
use Rattle.memory.specs.declared.entry.Entry.{Entry}
use Rattle.memory.specs.declared.entry.Owner.{Owner}
use Rattle.memory.specs.declared.entry.Owner.TheVariants.{Itself, Nobody, Another}

-- the copy of a state, a place and a word
abbrev pub copy_by : State → ℕ → Word → Copy
copy_by Invalid place word = invalid
copy_by Valid place word = valid place word
copy_by Registered place word = registered place word

-- the copy that an entry holds
abbrev pub copy_in : Entry → Copy
copy_in e = copy_by e.state e.place.number e.word

-- an entry that holds nothing
abbrev pub empty : Entry
empty = record { state = Invalid; place = record { number = 0; within = refl }; word = blank_word }

-- the number of a state, as an eviction answers it: 0 without a copy, 1 for a valid one, 2 for a registered one
abbrev pub number_of : State → ℕ
number_of Invalid = 0
number_of Valid = 1
number_of Registered = 2

-- the number of who owned a word, as a store answers it: 0 the core itself, 1 nobody, 2 another core
abbrev pub number_of_owner : Owner → ℕ
number_of_owner Itself = 0
number_of_owner Nobody = 1
number_of_owner Another = 2

-- the state that an event leaves: what counts is written and stays readable when it is settled, and goes when its core gives it
-- up or another core stores the word; what does not count goes but at a settle
abbrev pub state_after : State → Event → State
state_after Invalid event = Invalid
state_after Valid Settle = Valid
state_after Valid Evict = Invalid
state_after Valid Taken = Invalid
state_after Valid Fade = Invalid
state_after Registered Settle = Valid
state_after Registered Evict = Invalid
state_after Registered Taken = Invalid
state_after Registered Fade = Registered

-- the entry that an event leaves
abbrev pub turned : Entry → Event → Entry
turned e event = record { state = state_after e.state event; place = e.place; word = e.word }

-- what an event did
abbrev pub done_by : State → Event → Done
done_by Invalid event = Kept
done_by Valid Settle = Kept
done_by Valid Evict = Dropped
done_by Valid Taken = Dropped
done_by Valid Fade = Dropped
done_by Registered Settle = Written
done_by Registered Evict = Written
done_by Registered Taken = Lost
done_by Registered Fade = Kept

-- whether the word is due on the page
abbrev pub is_written : Done → Bool
is_written Kept = false
is_written Dropped = false
is_written Written = true
is_written Lost = false

-- whether a copy that did not count is gone
abbrev pub is_dropped : Done → Bool
is_dropped Kept = false
is_dropped Dropped = true
is_dropped Written = false
is_dropped Lost = false
