-- The numbers that stand at a place among bytes, the most significant byte first. Assumes nothing.
use Rattle.std.specs.Prelude.{ℕ, zero, suc, List, [], ◌∷◌, slice_index}
use Rattle.std.specs.Int.{Width, byte_len, from_be_bytes}

-- so many bytes from a place on; past the end they are zero
abbrev pub part : List ℕ → ℕ → ℕ → List ℕ
part bytes place zero = []
part bytes place (suc size) = slice_index bytes place ∷ part bytes (suc place) size

-- the number of this width that they are
abbrev pub field : Width → List ℕ → ℕ → ℕ
field w bytes place = from_be_bytes w (part bytes place (byte_len w))
