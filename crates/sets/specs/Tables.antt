-- Eight rows of bits in a table, each row a list of 64-bit words: which bit is where, and what the table is after a bit is set, a
-- row joined to another or a row emptied. Assumes nothing.
use Rattle.std.specs.Prelude.{ℕ, ◌/◌, ◌%◌, ◌^◌, Bool, List, [], ◌==◌, bit_or, length, map, set, replicate, slice_index, slice_index_or, slice_set}
use Rattle.std.specs.Int.{bit_at}
use Rattle.std.specs.List.{range_with_len}
use Rattle.sets.specs.Sentences.{Sets}

-- whether bit i of a number is set, the lowest being bit 0
abbrev pub bit : ℕ → ℕ → Bool
bit n i = bit_at n i == 1

-- whether bit x of a row is set
abbrev pub row_bit : List ℕ → ℕ → Bool
row_bit row x = bit (slice_index row (x / 64)) (x % 64)

-- the row of a core
abbrev pub row_of : List (List ℕ) → ℕ → List ℕ
row_of table core = slice_index_or table core []

-- the rows that a table means
unfoldable pub rows_of : List (List ℕ) → Sets
rows_of table core = row_bit (row_of table core)

-- the row with bit x set
abbrev pub row_with : List ℕ → ℕ → List ℕ
row_with row x = slice_set row (x / 64) (bit_or (slice_index row (x / 64)) (2 ^ (x % 64)))

-- the row joined with another, word by word
unfoldable pub row_joined : List ℕ → List ℕ → List ℕ
row_joined row other = map (λ i. bit_or (slice_index row i) (slice_index other i)) (range_with_len 0 (length row))

-- the table with bit x of a core's row set
abbrev pub with_bit : List (List ℕ) → ℕ → ℕ → List (List ℕ)
with_bit table core x = set table core (row_with (row_of table core) x)

-- the table with a core's row joined with another core's
abbrev pub with_joined : List (List ℕ) → ℕ → ℕ → List (List ℕ)
with_joined table core other = set table core (row_joined (row_of table core) (row_of table other))

-- the table with a core's row emptied, a row of so many words
abbrev pub with_emptied : ℕ → List (List ℕ) → ℕ → List (List ℕ)
with_emptied width table core = set table core (replicate width 0)
