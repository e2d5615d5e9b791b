-- The group of 8 bytes that spells a word: the value, then the mark's number, 4 bytes each, the highest byte first.
-- Assumes nothing.
use Rattle.std.specs.Prelude.{ℕ, ◌+◌, ◌*◌, ◌/◌, ◌%◌, List, [], ◌∷◌, ◌++◌, slice_index}
use Rattle.word.specs.Marks.{number, mark_at}
use Rattle.word.specs.declared.word.Word.{Word}

-- the four bytes of a number, the highest first
abbrev pub four_bytes : ℕ → List ℕ
four_bytes n = (n / 16777216 % 256) ∷ (n / 65536 % 256) ∷ (n / 256 % 256) ∷ (n % 256) ∷ []

-- the number that four bytes from a place on make, the highest first
abbrev pub four_number : List ℕ → ℕ → ℕ
four_number bytes at =
    slice_index bytes at * 16777216 + slice_index bytes (at + 1) * 65536 + slice_index bytes (at + 2) * 256 + slice_index bytes (at + 3)

-- the group of a word
abbrev pub group_bytes : Word → List ℕ
group_bytes x = four_bytes x.value ++ four_bytes (number x.mark)

-- the word of a group; a mark that is not lawful reads as the blank one
abbrev pub group_word : List ℕ → Word
group_word bytes = record { value = four_number bytes 0; mark = mark_at (four_number bytes 4) }
