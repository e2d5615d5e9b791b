-- What a table means after a bit is set, a row joined or a row emptied: just what the rows' definitions say, bit by bit. The row
-- that is written has the bits, and the other rows are as they were. Assumes nothing.
use Rattle.std.proofs.Common.{◌≡◌, ℕ, ◌/◌, ◌%◌, ◌^◌, ◌<◌, Bool, true, false, cond, ◌||◌, eqb, List, [], length, get_or, replicate, set, sym, refl, ap, ◌∙◌, ⊎_elim, arith, length-set}
use Rattle.std.proofs.lemmas.Bool.{cases_eq, cases_lt, false_from_ne_true}
use Rattle.std.proofs.lemmas.Grind.{common_steps, get_or-set_at}
use Rattle.std.proofs.lemmas.List.{get_or-replicate, get_or-set_other, get_or_past, length-replicate}
use Rattle.std.proofs.lemmas.List.FromFn.{get_or-map-range_with_len, length-map-range_with_len}
use Rattle.std.proofs.lemmas.Nat.{div-add-mod'}
use Rattle.std.proofs.lemmas.Nat.Bits.{bit_at-zero}
use Rattle.std.specs.List.{All}
use Rattle.sets.specs.Sentences.{Sets}
use Rattle.sets.specs.Rows.{added, joined, emptied}
use Rattle.sets.specs.Tables.{bit, row_bit, row_of, rows_of, row_with, row_joined, with_bit, with_joined, with_emptied}
use Rattle.sets.proofs.Bits.{bit_of_or, bit_power}

-- what a signature means that is altered where a test is met only
pub chosen_holds : {S : Type 0} (holds : S → Sets) (b : Bool) (after before : S) (sets : Sets) →
    (b ≡ true → (d v : ℕ) → holds after d v ≡ sets d v) → (d v : ℕ) → holds (cond b after before) d v ≡ (cond b sets (holds before)) d v
chosen_holds holds true after before sets h d v = h refl d v
chosen_holds holds false after before sets h d v = refl

-- two bits of one word are one bit where they stand at one place of it
same_bit : (x y : ℕ) → y / 64 ≡ x / 64 → eqb (y % 64) (x % 64) ≡ eqb y x
same_bit x y e = grind (arith, div-add-mod' x 64, div-add-mod' y 64)

-- a bit of a row in which one bit was set
bit_of_with : (row : List ℕ) (x y : ℕ) → x / 64 < length row → row_bit (row_with row x) y ≡ (row_bit row y || eqb y x)
bit_of_with row x y within =
    grind (arith, common_steps, bit_of_or (get_or row (x / 64) 0) (2 ^ (x % 64)) (y % 64), bit_power (x % 64) (y % 64), same_bit x y)

-- two rows joined are as long as the first
pub length_joined : (row other : List ℕ) → length (row_joined row other) ≡ length row
unfolding row_joined
length_joined row other = length-map-range_with_len _ 0 (length row)

-- a bit of two rows joined
bit_of_joined : (row other : List ℕ) (y : ℕ) → length other ≡ length row → row_bit (row_joined row other) y ≡ (row_bit row y || row_bit other y)
unfolding row_joined
bit_of_joined row other y even =
    ⊎_elim
    (λ h. ap (λ n. bit n (y % 64)) (get_or-map-range_with_len _ 0 (length row) (y / 64) (y / 64) 0 h (omega arith)) ∙
    bit_of_or (get_or row (y / 64) 0) (get_or other (y / 64) 0) (y % 64))
    (λ h. grind (arith, get_or_past, length-map-range_with_len, bit_at-zero (y % 64))) (cases_lt (y / 64) (length row))

-- a row of zeros has no bit
bit_of_zeros : (n y : ℕ) → row_bit (replicate n 0) y ≡ false
bit_of_zeros n y = grind (arith, get_or-replicate, get_or_past, length-replicate, bit_at-zero)

-- a table in which one row is written keeps the width of its rows
pub wide : (width c : ℕ) (table : List (List ℕ)) (row : List ℕ) → All (λ r. length r ≡ width) table → (c < length table → length row ≡ width) →
    All (λ r. length r ≡ width) (set table c row)
wide width c table row all fits k d h =
    let within : k < length table = omega (arith, h, length-set table c row) in
    ⊎_elim
    (λ e. let here : c < length table = omega (arith, e, within) in ap length (get_or-set_at table c k row d e here) ∙ fits here)
    (λ ne. ap length (get_or-set_other table c k row d ne) ∙ all k d within)
    (cases_eq k c)

-- of a table of eight rows of one width
module _ (width : ℕ) (table : List (List ℕ)) (eight : length table ≡ 8) (even : All (λ r. length r ≡ width) table) (c : ℕ) (low : c < 8) where
  within : (e : ℕ) → e < 8 → e < length table
  within e h = omega (arith, h, eight)

  long : (e : ℕ) → e < 8 → length (row_of table e) ≡ width
  long e h = even e [] (within e h)

  -- the rows after one bit is set
  pub rows_with_bit : (x : ℕ) → x / 64 < width → (d y : ℕ) → rows_of (with_bit table c x) d y ≡ added (rows_of table) c x d y
  unfolding rows_of
  rows_with_bit x h d y =
      let here = within c low in
      let fits : x / 64 < length (row_of table c) = omega (arith, h, long c low) in
      grind (arith, common_steps, bit_of_with (row_of table c) x y fits)

  -- the rows after a row is joined with another
  pub rows_joined : (e : ℕ) → e < 8 → (d y : ℕ) → rows_of (with_joined table c e) d y ≡ joined (rows_of table) c e d y
  unfolding rows_of
  rows_joined e h d y =
      let here = within c low in
      grind (arith, common_steps, bit_of_joined (row_of table c) (row_of table e) y (long e h ∙ sym (long c low)))

  -- the rows after a row is emptied
  pub rows_emptied : (d y : ℕ) → rows_of (with_emptied width table c) d y ≡ emptied (rows_of table) c d y
  unfolding rows_of
  rows_emptied d y = let here = within c low in grind (arith, common_steps, bit_of_zeros width y)

-- a table of zeros means empty rows
pub rows_empty : (n width d y : ℕ) → rows_of (replicate n (replicate width 0)) d y ≡ false
unfolding rows_of
rows_empty n width d y = grind (arith, common_steps, get_or-replicate, get_or_past, length-replicate, bit_of_zeros width y, bit_of_zeros 0 y)

-- a bit that is set lies in a row of the table, and within the row
pub bit_lies : (table : List (List ℕ)) (d y : ℕ) → rows_of table d y ≡ true → (d < length table) × (y / 64 < length (row_of table d))
unfolding rows_of
bit_lies table d y is = (grind (arith, get_or_past, bit_at-zero (y % 64)), grind (arith, get_or_past, bit_at-zero (y % 64)))

-- elsewhere no bit is set
pub rows_apart : (table : List (List ℕ)) (d y : ℕ) → ((d < length table) × (y / 64 < length (row_of table d)) → ⊥) → rows_of table d y ≡ false
rows_apart table d y apart = false_from_ne_true _ (λ is. apart (bit_lies table d y is))
