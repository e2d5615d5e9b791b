-- What the exact and the Bloom signature leave where the sentences leave it open: eight rows, one a core, of members, and what
-- a row gains or loses. A row's members are words in the exact signature and bits in the Bloom signature. Assumes nothing.
use Rattle.std.specs.Prelude.{ℕ, ◌+◌, ◌*◌, ◌/◌, ◌%◌, Bool, cond, not, ◌&&◌, ◌||◌, ◌==◌, nat_lt}
use Rattle.sets.specs.Sentences.{Sets}

-- the rows with one member more in one row
abbrev pub added : Sets → ℕ → ℕ → Sets
added rows core member d x = rows d x || (d == core && x == member)

-- the rows with all members of the other core's row in the core's row too
abbrev pub joined : Sets → ℕ → ℕ → Sets
joined rows core other d x = rows d x || (d == core && rows other x)

-- the rows with no member in the core's row
abbrev pub emptied : Sets → ℕ → Sets
emptied rows core d x = not (d == core) && rows d x

-- the test of the ranges: a core 0 to 7 and a word 0 to 4,095
abbrev pub in_range : ℕ → ℕ → Bool
in_range core word = nat_lt core 8 && nat_lt word 4096

-- what take in leaves in both signatures: the rows joined, and out of range the rows as they were
abbrev pub rows_taken_in : Sets → ℕ → ℕ → Sets
rows_taken_in rows core other = cond (nat_lt core 8 && nat_lt other 8) (joined rows core other) rows

-- what clear leaves in both signatures: the core's row emptied, and out of range the rows as they were
abbrev pub rows_cleared : Sets → ℕ → Sets
rows_cleared rows core = cond (nat_lt core 8) (emptied rows core) rows

-- what put leaves in the exact signature: the named word added, and out of range the rows as they were
abbrev pub words_put : Sets → ℕ → ℕ → Sets
words_put rows core word = cond (in_range core word) (added rows core word) rows

-- the first of the two bits of a word in the Bloom signature
abbrev pub first_bit : ℕ → ℕ
first_bit word = word % 256

-- the second of the two bits of a word in the Bloom signature
abbrev pub second_bit : ℕ → ℕ
second_bit word = (word / 16 + 7 * word) % 256

-- what put leaves in the Bloom signature: the word's two bits set, and out of range the bits as they were
abbrev pub bits_put : Sets → ℕ → ℕ → Sets
bits_put rows core word = cond (in_range core word) (added (added rows core (first_bit word)) core (second_bit word)) rows

-- the words that the Bloom signature holds by its bits: those of the range whose two bits are both set
abbrev pub words_of_bits : Sets → Sets
words_of_bits rows core word = nat_lt word 4096 && (rows core (first_bit word) && rows core (second_bit word))
