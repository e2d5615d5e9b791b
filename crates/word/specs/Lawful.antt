-- Which numbers are marks. It stands apart from Marks.antt since the type of a mark cites it.
-- Assumes nothing.
use Rattle.std.specs.Prelude.{◌≡◌, ℕ, ◌+◌, ◌*◌, ◌%◌, ◌<◌, ◌≤◌, Bool, ◌&&◌, ◌||◌, ◌⊎◌, ◌==◌, nat_le, nat_lt}

-- a core that can store, and its count of accepted stores with the marked one included
abbrev pub Stores : ℕ → ℕ → Type 0
Stores core count = (core < 8) × (1 ≤ count) × (count ≤ 1000000)

-- the mark of a core's store: the core's number above twenty bits of its count
abbrev pub mark_of : ℕ → ℕ → ℕ
mark_of core count = core * 1048576 + count

-- a number is a mark when it is blank, 0, or that of some core's store
abbrev pub Lawful : ℕ → Type 0
Lawful n = (n ≡ 0) ⊎ ((core : ℕ) × (count : ℕ) × Stores core count × (n ≡ mark_of core count))

-- the same as a test on the number's two parts
abbrev pub lawful : ℕ → Bool
lawful n = n == 0 || (nat_lt n 8388608 && (nat_le 1 (n % 1048576) && nat_le (n % 1048576) 1000000))
