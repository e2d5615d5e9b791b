-- Distinct numbers below n are at most n, as the library has it of a list of which no two are equal. So a queue has room for a
-- core that neither waits nor holds the lock. Assumes nothing.
use Rattle.std.proofs.Common.{◌≡◌, ℕ, ◌<◌, ◌≤◌, false, eqb, List, [], ◌∷◌, length, refl, ⊎_elim, arith}
use Rattle.std.proofs.lemmas.Bool.{eq-eqb, cases_lt}
use Rattle.std.proofs.lemmas.Bool.Decides.{nat_tests}
use Rattle.std.proofs.lemmas.Map.Steps.{length-le_from_distinct_below}
use Rattle.std.specs.List.{AllByRecursion, IsDistinct, list_any}
use Rattle.locks.specs.Ties.{occurs}

-- a number that does not occur differs from each that does, and is no member
differs : (x : ℕ) (xs : List ℕ) → occurs x xs ≡ 0 → AllByRecursion (λ y. eqb x y ≡ false) xs
differs x [] h = tt
differs x (y ∷ xs) h = (grind (arith, nat_tests), differs x xs (omega arith))

no_member : (x : ℕ) (xs : List ℕ) → occurs x xs ≡ 0 → list_any (eqb x) xs ≡ false
no_member x [] h = refl
no_member x (y ∷ xs) h = let n = no_member x xs (omega arith) in grind (arith, nat_tests)

distinct : (xs : List ℕ) → ((c : ℕ) → occurs c xs ≤ 1) → IsDistinct eqb xs
unfolding IsDistinct
distinct [] h = tt
distinct (x ∷ xs) h =
    (differs x xs (let once = h x in let same = eq-eqb x x refl in grind (arith, nat_tests)), distinct xs (λ c. omega (arith, h c)))

-- distinct numbers below n are at most n
pub distinct_few : (n : ℕ) (xs : List ℕ) → ((c : ℕ) → n ≤ c → occurs c xs ≡ 0) → ((c : ℕ) → occurs c xs ≤ 1) → length xs ≤ n
distinct_few n xs below once =
    length-le_from_distinct_below xs n (distinct xs once) (λ q m. ⊎_elim (λ l. l) (λ l. let none = no_member q xs (below q l) in absurd (cc)) (cases_lt q n))

-- a core that neither waits for a lock nor holds it finds room in its queue, where the holder does not wait and all are below 8
pub room : (q : List ℕ) (holder core : ℕ) → ((c : ℕ) → 8 ≤ c → occurs c (holder ∷ core ∷ q) ≡ 0) → ((c : ℕ) → occurs c (holder ∷ core ∷ q) ≤ 1) → length q < 7
room q holder core below once = let e = distinct_few 8 (holder ∷ core ∷ q) below once in omega arith
