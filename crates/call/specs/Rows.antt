-- When each of the five figures passes its row of the check. It stands apart from Figures.antt since the type of
-- checked figures cites it. Assumes nothing.
use Rattle.std.specs.Prelude.{ℕ, ◌*◌, Bool, ◌&&◌, nat_le}

-- 1 to 8 cores
abbrev pub passes_cores : ℕ → Bool
passes_cores cores = nat_le 1 cores && nat_le cores 8

-- 1 to 64 slots
abbrev pub passes_slots : ℕ → Bool
passes_slots slots = nat_le 1 slots && nat_le slots 64

-- 1 to 4,096 words
abbrev pub passes_words : ℕ → Bool
passes_words words = nat_le 1 words && nat_le words 4096

-- a strip of 1 to 4,096 words, and sixteen of them hold all the words
abbrev pub passes_strip : ℕ → ℕ → Bool
passes_strip words strip = (nat_le 1 strip && nat_le strip 4096) && nat_le words (16 * strip)

-- an allowance of 1 to 1,000,000 stores
abbrev pub passes_allowance : ℕ → Bool
passes_allowance allowance = nat_le 1 allowance && nat_le allowance 1000000
