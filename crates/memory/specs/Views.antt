-- A memory as the rules see it: page, copies by core and slot, and owners. Assumes nothing.
use Rattle.std.specs.Prelude.{ℕ, cond, List, get_or, Some, None, Option, ◌==◌, nat_lt, slice_index_or, slice_set}
use Rattle.std.specs.Option.{option_map}
use Rattle.word.specs.declared.word.Word.{Word}
use Rattle.call.specs.Figures.{Five, figures, slot_of}
use Rattle.rules.specs.State.{Copy, invalid, Memory}
use Rattle.word.specs.Words.{blank_word}
use Rattle.memory.specs.Entries.{copy_in, empty, turned}
use Rattle.memory.specs.Owners.{Core, seat}
use Rattle.memory.specs.declared.entry.Done.{Done}
use Rattle.memory.specs.declared.entry.Done.TheVariants.{Kept, Dropped, Written, Taken as Lost}
use Rattle.memory.specs.declared.entry.Entry.{Entry}
use Rattle.memory.specs.declared.entry.Event.TheVariants.{Taken}
use Rattle.memory.specs.declared.entry.State.{State}
use Rattle.memory.specs.declared.entry.State.TheVariants.{Invalid}
use Rattle.memory.specs.declared.memory.Memory.{Memory as Tables}

-- each core's copies: a core has 64 slots, and there are as many cores as there are entries for
unfoldable pub copies_of : List Entry → ℕ → ℕ → Copy
copies_of entries core slot = cond (nat_lt slot 64) (copy_in (slice_index_or entries (seat core slot) empty)) invalid

-- the number of an owner
abbrev pub owner_number : Option Core → Option ℕ
owner_number = option_map (λ core. core.number)

-- each word's owner: a word past the table has none
unfoldable pub owners_of : List (Option Core) → ℕ → Option ℕ
owners_of owners word = owner_number (slice_index_or owners word None)

abbrev pub memory_of : List Word → List Entry → List (Option Core) → Memory
memory_of page entries owners = record { page = page; copies = copies_of entries; owners = owners_of owners }

-- what is on the page after an event: an entry that is due is written
abbrev pub page_after : Done → Entry → List Word → List Word
page_after Kept e page = page
page_after Dropped e page = page
page_after Written e page = slice_set page e.place.number e.word
page_after Lost e page = page

-- who owns what after an event: an entry that counted no more has no owner
abbrev pub owners_after : Done → Entry → List (Option Core) → List (Option Core)
owners_after Kept e owners = owners
owners_after Dropped e owners = owners
owners_after Written e owners = slice_set owners e.place.number None
owners_after Lost e owners = slice_set owners e.place.number None

-- the memory that its tables mean, by the list of words that its page means
abbrev pub view : {P : Type 0} → (P → List Word) → Tables P → Memory
view words m = memory_of (words m.page) m.entries m.owners

-- the numbers of its figures
abbrev pub five_of : {P : Type 0} → Tables P → Five
five_of m = figures m.figures

-- an entry's state as that of a word's copy: an entry of another word counts as invalid
abbrev pub state_for : ℕ → Entry → State
state_for word e = cond (e.place.number == word) e.state Invalid

-- a word as its owner has it or, without an owner, as it is on the page
abbrev pub word_by : Option Core → Five → List Word → List Entry → ℕ → Word
word_by None f page entries word = slice_index_or page word blank_word
word_by (Some owner) f page entries word = (get_or entries (seat owner.number (slot_of f word)) empty).word

-- where that word comes from: 1 the page, 2 the owner's copy
abbrev pub source_by : Option Core → ℕ
source_by None = 1
source_by (Some owner) = 2

-- the entries once a word is taken from its owner, if it has one
abbrev pub taken_by : Option Core → Five → List Entry → ℕ → List Entry
taken_by None f entries word = entries
taken_by (Some owner) f entries word =
    slice_set entries (seat owner.number (slot_of f word)) (turned (slice_index_or entries (seat owner.number (slot_of f word)) empty) Taken)
