-- Which bits a number has that is joined of two, or is a power of two, as tests. Assumes nothing.
use Rattle.std.proofs.Common.{◌≡◌, ℕ, ◌^◌, ◌||◌, eqb, arith}
use lib.Bits.{bit_or}
use Rattle.std.proofs.lemmas.Nat.Bits.{bit_at_or, bit_at-lt, bit_at-pow_same, bit_at-pow_other}
use Rattle.sets.specs.Tables.{bit}

-- a bit of two numbers joined is set where it is set in one of them
pub bit_of_or : (a b i : ℕ) → bit (bit_or a b) i ≡ (bit a i || bit b i)
bit_of_or a b i = grind (arith, bit_at_or a b i, bit_at-lt a i, bit_at-lt b i)

-- the one bit of a power of two
pub bit_power : (j i : ℕ) → bit (2 ^ j) i ≡ eqb i j
bit_power j i = grind (arith, bit_at-pow_same, bit_at-pow_other)
