-- A plain list of words under reads and writes: what it answers and what it becomes, for one access and for a list of
-- them. Assumes nothing.
use Rattle.std.specs.Prelude.{cond, List, [], ◌∷◌, length, Ok, Err, Result, nat_lt, slice_index_or, slice_set}
use Rattle.word.specs.declared.word.Word.{Word}
use Rattle.word.specs.Words.{blank_word}
use Rattle.page.specs.declared.access.Access.{Access}
use Rattle.page.specs.declared.access.Access.TheVariants.{Read, Write}
use Rattle.page.specs.declared.access.Reply.{Reply}
use Rattle.page.specs.declared.access.Reply.TheVariants.{Gave, Written}
use Rattle.page.specs.declared.outside.Outside.{Outside}
use Rattle.page.specs.Pages.{outside}

-- a plain list answers a read by the word at the place and a write by taking it, and refuses a place past its end
abbrev pub reply_of : List Word → Access → Result Reply Outside
reply_of words (Read place) = cond (nat_lt place (length words)) (Ok (Gave (slice_index_or words place blank_word))) (Err outside)
reply_of words (Write place word) = cond (nat_lt place (length words)) (Ok Written) (Err outside)

-- a read leaves the list, and a write replaces the word at its place
abbrev pub list_after : List Word → Access → List Word
list_after words (Read place) = words
list_after words (Write place word) = slice_set words place word

-- the answers to a list of accesses, each on what the list has become by those before it
abbrev pub replies_of : List Word → List Access → List (Result Reply Outside)
replies_of words [] = []
replies_of words (access ∷ rest) = reply_of words access ∷ replies_of (list_after words access) rest

-- what the list has become after all of them
abbrev pub list_after_all : List Word → List Access → List Word
list_after_all words [] = words
list_after_all words (access ∷ rest) = list_after_all (list_after words access) rest
