-- The bytes at a place are those of the number that stands there. Assumes nothing.
use Rattle.std.proofs.Common.{◌≡◌, ℕ, zero, suc, ◌<◌, List, [], ◌∷◌, get_or, refl, arith}
use Rattle.std.proofs.lemmas.Nat.{be_bytes_2, be_bytes_4, be_bytes_8}
use Rattle.std.specs.Int.{w16, w32, w64, to_be_bytes}
use Rattle.std.specs.Int.Digits.{AllBelowBase}
use Rattle.job.specs.Bytes.{part, field}

get_or_under : (bytes : List ℕ) (i : ℕ) → AllBelowBase 256 bytes → get_or bytes i 0 < 256
get_or_under [] i u = omega arith
get_or_under (b ∷ bs) zero u = u.0
get_or_under (b ∷ bs) (suc i) u = get_or_under bs i u.1

under_part : (bytes : List ℕ) (place size : ℕ) → AllBelowBase 256 bytes → (i : ℕ) → get_or (part bytes place size) i 0 < 256
under_part bytes place zero u i = omega arith
under_part bytes place (suc size) u zero = get_or_under bytes place u
under_part bytes place (suc size) u (suc i) = under_part bytes (suc place) size u i

module _ (bytes : List ℕ) (place : ℕ) (u : AllBelowBase 256 bytes) where
  pub field_back_2 : to_be_bytes w16 (field w16 bytes place) ≡ part bytes place 2
  field_back_2 = be_bytes_2 (part bytes place 2) _ refl (under_part bytes place 2 u) refl

  pub field_back_4 : to_be_bytes w32 (field w32 bytes place) ≡ part bytes place 4
  field_back_4 = be_bytes_4 (part bytes place 4) _ refl (under_part bytes place 4 u) refl

  pub field_back_8 : to_be_bytes w64 (field w64 bytes place) ≡ part bytes place 8
  field_back_8 = be_bytes_8 (part bytes place 8) _ refl (under_part bytes place 8 u) refl
