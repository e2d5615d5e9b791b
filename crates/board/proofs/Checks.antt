-- The first of some rows that is met, where the rows come in parts one after another. Assumes nothing.
use Rattle.std.proofs.Common.{◌≡◌, List, [], ◌∷◌, ◌++◌, IfOk, Some, None, Ok, Err, Option, Result, refl, arith}
use Rattle.rules.specs.Tables.{first}

-- a row that is met in the first part is the first of all
pub first_met : {X : Type 0} (xs ys : List (Option X)) (x : X) → Some x ≡ first xs → Some x ≡ first (xs ++ ys)
first_met [] ys x e = grind arith
first_met (Some y ∷ xs) ys x e = e
first_met (None ∷ xs) ys x e = first_met xs ys x e

-- where none is met in the first part, the second part decides
pub first_past : {X : Type 0} (xs ys : List (Option X)) → None ≡ first xs → first ys ≡ first (xs ++ ys)
first_past [] ys e = refl
first_past (Some y ∷ xs) ys e = grind arith
first_past (None ∷ xs) ys e = first_past xs ys e

-- the same where the first part is one row
pub row_met : {X : Type 0} (x : Option X) (ys : List (Option X)) (y : X) → Some y ≡ x → Some y ≡ first (x ∷ ys)
row_met None ys y e = grind arith
row_met (Some x) ys y e = e

pub row_past : {X : Type 0} (x : Option X) (ys : List (Option X)) → None ≡ x → first ys ≡ first (x ∷ ys)
row_past None ys e = refl
row_past (Some x) ys e = grind arith

-- a part of one row, which is the last
pub row_last : {X : Type 0} (x : Option X) → x ≡ first (x ∷ [])
row_last None = refl
row_last (Some y) = refl

-- what holds anyway holds where a check passes
pub where_passed : {X E : Type 0} (r : Result X E) {Holds : Type 0} → Holds → IfOk r (λ _. Holds)
where_passed (Ok x) h = h
where_passed (Err e) h = tt
