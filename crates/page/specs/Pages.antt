-- A page as a list of words: what a read and a write answer at each place. What a write leaves is `set`, which past
-- the end changes nothing. Assumes nothing.
use Rattle.std.specs.Prelude.{ℕ, cond, List, length, Ok, Err, Result, nat_lt, slice_index_or}
use Rattle.word.specs.Words.{blank_word}
use Rattle.word.specs.declared.word.Word.{Word}
use Rattle.page.specs.declared.outside.Outside.{Outside}

-- the one value of the refusal
abbrev pub outside : Outside
outside = record {}

-- a read at a place gives the word there, or tells that the place is outside the page
abbrev pub read_answer : List Word → ℕ → Result Word Outside
read_answer words place = cond (nat_lt place (length words)) (Ok (slice_index_or words place blank_word)) (Err outside)

-- a write at a place is done, or tells that the place is outside the page
abbrev pub write_answer : List Word → ℕ → Result (Unit {0}) Outside
write_answer words place = cond (nat_lt place (length words)) (Ok tt) (Err outside)
