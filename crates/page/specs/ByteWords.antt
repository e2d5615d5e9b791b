-- A page in bytes: which words the bytes spell, and which bytes a write leaves. Assumes nothing.
use Rattle.std.specs.Prelude.{ℕ, ◌+◌, ◌*◌, ◌/◌, min, cond, List, ◌++◌, map, length, take, drop, nat_lt}
use Rattle.std.specs.List.{range_with_len}
use Rattle.word.specs.declared.word.Word.{Word}
use Rattle.word.specs.Groups.{group_bytes, group_word}

-- the group of 8 bytes at a place: the bytes from 8 times the place on
abbrev pub group_at : List ℕ → ℕ → List ℕ
group_at bytes place = take 8 (drop (place * 8) bytes)

-- the number of whole groups, 4,096 at most
abbrev pub byte_size : List ℕ → ℕ
byte_size bytes = min (length bytes / 8) 4096

-- the words that bytes spell, a word for each of these groups
abbrev pub byte_words : List ℕ → List Word
byte_words bytes = map (λ place. group_word (group_at bytes place)) (range_with_len 0 (byte_size bytes))

-- the bytes after a write: the group at the place is the word's, every other byte is kept; past the last group all are
abbrev pub bytes_after : List ℕ → ℕ → Word → List ℕ
bytes_after bytes place word =
    cond (nat_lt place (byte_size bytes))
    (take (place * 8) bytes ++ (group_bytes word ++ drop (place * 8 + 8) bytes))
    bytes
