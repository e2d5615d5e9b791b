-- Tables kept as lists, read as functions of their index: a list changed at one place is the table changed at that place.
-- Assumes nothing.
use Rattle.std.proofs.Common.{◌≡◌, ℕ, ◌<◌, eqb, Bool, true, false, cond, List, length, get_or, set, sym, refl, ap, ◌∙◌, ⊎_elim}
use Rattle.std.proofs.lemmas.Bool.{cases_lt}
use Rattle.std.proofs.lemmas.List.{get_or_past, get_or-set_same, get_or-set_other}
use Rattle.rules.proofs.Tables.{upd_cases}
use Rattle.rules.specs.Tables.{upd}

-- a list changed at a place, at any index
pub set_upd : {X : Type 0} (xs : List X) (k : ℕ) (x d : X) → k < length xs → (j : ℕ) → get_or (set xs k x) j d ≡ upd (λ i. get_or xs i d) k x j
set_upd xs k x d l j =
    ⊎_elim (λ s. ap (λ (i : ℕ). get_or (set xs k x) i d) s.0 ∙ get_or-set_same xs k x d l ∙ sym s.1) (λ o. get_or-set_other xs k j x d o.0 ∙ sym o.1) (upd_cases (λ i. get_or xs i d) k x j)

-- a list read as a table
abbrev pub table : {X : Type 0} → X → List X → ℕ → X
table d xs j = get_or xs j d

pub table_set : {X : Type 0} (d : X) (xs : List X) (k : ℕ) (x : X) → k < length xs → table d (set xs k x) ≡ upd (table d xs) k x
table_set d xs k x l = λ i j. set_upd xs k x d l j i

-- a list whose every element is the default
pub constant : {X : Type 0} (d : X) (xs : List X) → ((j : ℕ) → j < length xs → get_or xs j d ≡ d) → (j : ℕ) → get_or xs j d ≡ d
constant d xs h j = ⊎_elim (h j) (get_or_past xs j d) (cases_lt j (length xs))

-- a table read at the changed place, and one changed twice at a place
pub upd_same : {X : Type 0} (f : ℕ → X) (k : ℕ) (x : X) → upd f k x k ≡ x
upd_same f k x = ⊎_elim (λ s. s.1) (λ o. absurd (o.0 refl)) (upd_cases f k x k)

pub upd_twice : {X : Type 0} (f : ℕ → X) (k : ℕ) (x y : X) → upd (upd f k x) k y ≡ upd f k y
unfolding upd
upd_twice f k x y = λ i j. by_test j (eqb j k) i
  where
    by_test : (j : ℕ) (t : Bool) → cond t y (cond t x (f j)) ≡ cond t y (f j)
    by_test j true = refl
    by_test j false = refl
