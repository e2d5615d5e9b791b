-- How many of a row's bits are set. Assumes nothing.
use Rattle.std.specs.Prelude.{ℕ, Bool, cond, nat_lt, count_by}
use Rattle.std.specs.List.{range_with_len}
use Rattle.sets.specs.Sentences.{Sets}

-- how many of the first n bits of a row are set
unfoldable pub bits_set : (ℕ → Bool) → ℕ → ℕ
bits_set row n = count_by row (range_with_len 0 n)

-- the fill of a core: how many of its row's 256 bits are set, 0 above core 7
abbrev pub fill : Sets → ℕ → ℕ
fill rows core = cond (nat_lt core 8) (bits_set (rows core) 256) 0
