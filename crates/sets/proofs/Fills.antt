-- The ones of a word are the bits of it that are set, and a row's bits are those of its words one after another. So the fill of a row
-- is the sum of its words' ones. Assumes nothing.
use Rattle.std.proofs.Common.{◌≡◌, ℕ, zero, suc, ◌+◌, ◌*◌, ◌/◌, ◌%◌, ◌^◌, ◌<◌, ◌≤◌, Bool, cond, eqb, List, [], ◌∷◌, ◌++◌, length, get_or, sym, refl, ap, ◌∙◌, add-zero, add_assoc, zero-add, div-one, add-one, arith}
use lib.Count.{ones, ones_step, ones-le}
use Rattle.std.proofs.lemmas.List.Sums.{count_by-le-length, sum_by-cons, sum_by-append}
use Rattle.std.proofs.lemmas.List.FromFn.{length-range_with_len}
use Rattle.std.proofs.lemmas.Nat.{shr-shr, shr_below}
use Rattle.std.specs.List.{count_by, range_with_len, sum_by}
use Rattle.sets.specs.Fills.{bits_set}
use Rattle.sets.specs.Tables.{bit, row_bit}

-- tests that answer alike count alike
count_alike : (f g : ℕ → Bool) (a b n : ℕ) → ((i : ℕ) → i < n → f (a + i) ≡ g (b + i)) → count_by f (range_with_len a n) ≡ count_by g (range_with_len b n)
count_alike f g a b zero h = refl
count_alike f g a b (suc n) h =
    let head : f a ≡ g b = ap f (sym (add-zero a)) ∙ h 0 (omega arith) ∙ ap g (add-zero b) in
    let tail = count_alike f g (a + 1) (b + 1) n (λ i l. ap f (add_assoc a 1 i) ∙ h (1 + i) (omega arith) ∙ ap g (sym (add_assoc b 1 i))) in
    sum_by-cons _ a (range_with_len (a + 1) n) ∙ (λ i. cond {A = ℕ} (head i) 1 0 + tail i) ∙ sym (sum_by-cons _ b (range_with_len (b + 1) n))

-- a range in two parts
range_parts : (a m n : ℕ) → range_with_len a (m + n) ≡ range_with_len a m ++ range_with_len (a + m) n
range_parts a zero n = grind arith
range_parts a (suc m) n = let more : suc m + n ≡ suc (m + n) = omega arith in rw more (grind (arith, range_parts (a + 1) m n))

-- the ones of a number of k bits are its bits that are set
pub ones_count : (k n : ℕ) → n < 2 ^ k → ones n ≡ count_by (bit n) (range_with_len 0 k)
ones_count zero n h = omega (arith, ones-le 0 n h)
ones_count (suc k) n h =
    let half : n / 2 < 2 ^ k = shr_below n k 1 (rw add-one h) in
    let shifted : (i : ℕ) → i < k → bit (n / 2) (0 + i) ≡ bit n (1 + i) =
    λ i l. ap (λ j. bit (n / 2) j) (zero-add i) ∙ ap (λ m. eqb (m % 2) 1) (shr-shr n 1 i) in
    let rest : ones (n / 2) ≡ count_by (bit n) (range_with_len 1 k) =
    ones_count k (n / 2) half ∙ count_alike (bit (n / 2)) (bit n) 0 1 k shifted in
    let first : cond {A = ℕ} (bit n 0) 1 0 ≡ n % 2 = grind (arith, div-one n) in
    ones_step n ∙ (λ i. sym first i + rest i) ∙ sym (sum_by-cons _ 0 (range_with_len 1 k))

-- the ones of a row's words are the row's bits that are set
pub row_count : (row : List ℕ) → ((k : ℕ) → k < length row → get_or row k 0 < 2 ^ 64) →
    sum_by ones row ≡ bits_set (row_bit row) (64 * length row)
unfolding bits_set
row_count [] fit = refl
row_count (word ∷ row) fit =
    let size : 64 + 64 * length row ≡ 64 * suc (length row) = omega arith in
    sum_by-cons ones word row ∙
    (λ i. (ones_count 64 word (fit 0 (omega arith)) ∙ count_alike (bit word) (row_bit (word ∷ row)) 0 0 64 here) i +
    (row_count row (λ k l. fit (suc k) (omega arith)) ∙ count_alike (row_bit row) (row_bit (word ∷ row)) 0 64 (64 * length row) later) i) ∙
    sym (sum_by-append _ (range_with_len 0 64) (range_with_len 64 (64 * length row))) ∙
    ap (count_by (row_bit (word ∷ row))) (sym (range_parts 0 64 (64 * length row)) ∙ ap (range_with_len 0) size)
  where
    here : (i : ℕ) → i < 64 → bit word (0 + i) ≡ row_bit (word ∷ row) (0 + i)
    here i l =
        let word_at : 0 ≡ (0 + i) / 64 = omega arith in
        let place : 0 + i ≡ (0 + i) % 64 = omega arith in
        λ j. bit (get_or (word ∷ row) (word_at j) 0) (place j)

    later : (i : ℕ) → i < 64 * length row → row_bit row (0 + i) ≡ row_bit (word ∷ row) (64 + i)
    later i l =
        let word_at : suc ((0 + i) / 64) ≡ (64 + i) / 64 = omega arith in
        let place : (0 + i) % 64 ≡ (64 + i) % 64 = omega arith in
        λ j. bit (get_or (word ∷ row) (word_at j) 0) (place j)

-- no more bits are set than there are
pub bits_set_bound : (row : ℕ → Bool) (n : ℕ) → bits_set row n ≤ n
unfolding bits_set
bits_set_bound row n = omega (arith, count_by-le-length row (range_with_len 0 n), length-range_with_len 0 n)
