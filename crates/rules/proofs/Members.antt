-- Membership in a list, and that every slot of every core is among the places. Assumes nothing.
use Rattle.std.proofs.Common.{◌≡◌, ℕ, zero, suc, ◌<◌, ◌⊎◌, List, [], ◌∷◌, ◌++◌, map, ap, inl, inr, ⊎_elim, arith}
use Rattle.std.specs.List.{flat_map}
use Rattle.call.specs.Figures.{Five}
use Rattle.rules.specs.Effects.{places}
use Rattle.rules.specs.Tables.{below}

abbrev pub In : {X : Type 0} → X → List X → Type 0
In x [] = ⊥
In x (y ∷ ys) = (x ≡ y) ⊎ In x ys

pub in_left : {X : Type 0} (x : X) (xs ys : List X) → In x xs → In x (xs ++ ys)
in_left x [] ys h = absurd h
in_left x (y ∷ xs) ys h = ⊎_elim (λ e. inl e) (λ r. inr (in_left x xs ys r)) h

pub in_right : {X : Type 0} (x : X) (xs ys : List X) → In x ys → In x (xs ++ ys)
in_right x [] ys h = h
in_right x (y ∷ xs) ys h = inr (in_right x xs ys h)

pub in_map : {X Y : Type 0} (g : X → Y) (x : X) (xs : List X) → In x xs → In (g x) (map g xs)
in_map g x [] h = absurd h
in_map g x (y ∷ xs) h = ⊎_elim (λ e. inl (ap g e)) (λ r. inr (in_map g x xs r)) h

pub in_joined : {X Y : Type 0} (g : X → List Y) (x : X) (y : Y) (xs : List X) → In x xs → In y (g x) → In y (flat_map g xs)
in_joined g x y [] h k = absurd h
in_joined g x y (z ∷ xs) h k =
    ⊎_elim (λ e. in_left y (g z) (flat_map g xs) (rw e at k)) (λ r. in_right y (g z) (flat_map g xs) (in_joined g x y xs r k)) h

pub lt_or_eq : (j m : ℕ) → j < suc m → (j < m) ⊎ (j ≡ m)
lt_or_eq j m h = grind arith

pub in_below : (i n : ℕ) → i < n → In i (below n)
in_below i zero l = absurd (omega arith)
in_below i (suc n) l =
    ⊎_elim (λ h. in_left i (below n) (n ∷ []) (in_below i n h)) (λ e. in_right i (below n) (n ∷ []) (inl e)) (lt_or_eq i n l)

pub in_places : (f : Five) (core slot : ℕ) → core < f.cores → slot < f.slots → In (record { core = core; slot = slot }) (places f)
in_places f core slot c s =
    in_joined (λ k. map (λ i. record { core = k; slot = i }) (below f.slots)) core (record { core = core; slot = slot }) (below f.cores) (in_below core f.cores c)
    (in_map (λ i. record { core = core; slot = i }) slot (below f.slots) (in_below slot f.slots s))

pub in_parts : {X : Type 0} (x : X) (xs ys : List X) → In x (xs ++ ys) → In x xs ⊎ In x ys
in_parts x [] ys h = inr h
in_parts x (y ∷ xs) ys h = ⊎_elim (λ e. inl (inl e)) (λ r. ⊎_elim (λ p. inl (inr p)) (λ q. inr q) (in_parts x xs ys r)) h
