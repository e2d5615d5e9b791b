-- Tables as functions of their index, changed at one place; and small helpers on lists. Assumes nothing.
use Rattle.std.specs.Prelude.{ℕ, zero, suc, Bool, true, false, cond, ◌&&◌, ◌||◌, List, [], ◌∷◌, ◌++◌, Some, None, Option, ◌==◌}

-- the table with x at place k
unfoldable pub upd : {X : Type 0} → (ℕ → X) → ℕ → X → ℕ → X
upd f k x j = cond (j == k) x (f j)

-- the table of rows with x in row r at place k
unfoldable pub upd2 : {X : Type 0} → (ℕ → ℕ → X) → ℕ → ℕ → X → ℕ → ℕ → X
upd2 f r k x q j = cond (q == r && j == k) x (f q j)

-- the first of some answers that is there
abbrev pub first : {X : Type 0} → List (Option X) → Option X
first [] = None
first (Some x ∷ rest) = Some x
first (None ∷ rest) = first rest

-- x where the test is met
abbrev pub when : {X : Type 0} → Bool → X → Option X
when true x = Some x
when false x = None

-- whether some member passes the test
abbrev pub some_of : {X : Type 0} → (X → Bool) → List X → Bool
some_of p [] = false
some_of p (x ∷ xs) = p x || some_of p xs

-- whether an optional number is this one
abbrev pub is : Option ℕ → ℕ → Bool
is None n = false
is (Some m) n = m == n

-- the numbers below n, rising
abbrev pub below : ℕ → List ℕ
below zero = []
below (suc n) = below n ++ (n ∷ [])
