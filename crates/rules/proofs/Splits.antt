-- Moments of a history as splits of it: two splits of one list, the last member that passes a test, a property along a
-- history, and gatherings, which go through an append. Assumes nothing.
use Rattle.std.proofs.Common.{◌≡◌, Bool, true, false, ◌||◌, ◌⊎◌, List, [], ◌∷◌, ◌++◌, sym, refl, ap, ◌∙◌, subst, inl, inr, ⊎_elim, append_assoc, arith}
use Rattle.std.proofs.lemmas.List.Concat.{flat_map-append}
use Rattle.std.specs.List.{flat_map}
use Rattle.std.proofs.lemmas.List.{append-nil}
use Rattle.std.proofs.lemmas.Bool.{both_ways, cases_Bool, or_parts}
use Rattle.rules.specs.Tables.{some_of}

-- a member of a list, with what stands before and after it
pub record Spot {X : Type 0} (h : List X) : Type 0 where
  pub before : List X
  pub event : X
  pub after : List X
  pub stands : h ≡ before ++ (event ∷ after)

-- two members of one list: the first earlier, the same, or the second earlier
pub data Placed {X : Type 0} (A : List X) (x : X) (C : List X) (y : X) : Type 0 where
  earlier : (M : List X) → C ≡ A ++ (x ∷ M) → Placed A x C y
  same : A ≡ C → x ≡ y → Placed A x C y
  later : (M : List X) → A ≡ C ++ (y ∷ M) → Placed A x C y

pub head_same : {X : Type 0} (x y : X) (xs ys : List X) → x ∷ xs ≡ y ∷ ys → x ≡ y
head_same x y xs ys e = cc

pub tail_same : {X : Type 0} (x y : X) (xs ys : List X) → x ∷ xs ≡ y ∷ ys → xs ≡ ys
tail_same x y xs ys e = cc

placed_under : {X : Type 0} (a c : X) (A C : List X) (x y : X) → a ≡ c → Placed A x C y → Placed (a ∷ A) x (c ∷ C) y
placed_under a c A C x y e (earlier M p) = earlier M (λ i. sym e i ∷ p i)
placed_under a c A C x y e (same p q) = same (λ i. e i ∷ p i) q
placed_under a c A C x y e (later M p) = later M (λ i. e i ∷ p i)

pub two_splits : {X : Type 0} (A : List X) (x : X) (B C : List X) (y : X) (D : List X) → A ++ (x ∷ B) ≡ C ++ (y ∷ D) → Placed A x C y
two_splits [] x B [] y D e = same refl (head_same x y B D e)
two_splits [] x B (c ∷ C) y D e = earlier C (λ i. sym (head_same x c B (C ++ (y ∷ D)) e) i ∷ C)
two_splits (a ∷ A) x B [] y D e = later A (λ i. head_same a y (A ++ (x ∷ B)) D e i ∷ A)
two_splits (a ∷ A) x B (c ∷ C) y D e =
    placed_under a c A C x y (head_same a c (A ++ (x ∷ B)) (C ++ (y ∷ D)) e)
    (two_splits A x B C y D (tail_same a c (A ++ (x ∷ B)) (C ++ (y ∷ D)) e))

-- ── members that pass a test ──

-- the last member that passes
pub record Last {X : Type 0} (p : X → Bool) (h : List X) : Type 0 where
  pub before : List X
  pub event : X
  pub after : List X
  pub stands : h ≡ before ++ (event ∷ after)
  pub passes : p event ≡ true
  pub none_later : some_of p after ≡ false

pub last_of : {X : Type 0} (p : X → Bool) (h : List X) → some_of p h ≡ true → Last p h
last_of p [] e = absurd (both_ways false refl e)
last_of p (x ∷ h) e =
    ⊎_elim
    (λ more. let r = last_of p h more in record { before = x ∷ r.before; event = r.event; after = r.after; stands = ap (λ (k : List _). x ∷ k) r.stands; passes = r.passes; none_later = r.none_later })
    (λ none. record { before = []; event = x; after = h; stands = refl; passes = here (p x) (some_of p h) none e; none_later = none })
    (cases_Bool (some_of p h))
  where
    here : (a b : Bool) → b ≡ false → (a || b) ≡ true → a ≡ true
    here a b n t = grind arith

-- a member of the middle passes no test that no member passes
pub none_at : {X : Type 0} (p : X → Bool) (A : List X) (x : X) (B : List X) → some_of p (A ++ (x ∷ B)) ≡ false → p x ≡ false
none_at p [] x B e = (or_parts (p x) (some_of p B) e).0
none_at p (a ∷ A) x B e = none_at p A x B (or_parts (p a) (some_of p (A ++ (x ∷ B))) e).1

-- ── along a history ──

-- what holds at the start and is kept by each event holds at every moment
pub along : {X : Type 0} (h : List X) (P : List X → Type 0) → P [] → ((before : List X) (e : X) (after : List X) → h ≡ before ++ (e ∷ after) → P before → P (before ++ (e ∷ []))) → (first rest : List X) → h ≡ first ++ rest → P first
along {X} h P start keep first rest split = go [] first split start
  where
    go : (done more : List X) → h ≡ done ++ (more ++ rest) → P done → P (done ++ more)
    go done [] e p = subst P (sym (append-nil done)) p
    go done (x ∷ more) e p =
        subst P (append_assoc done (x ∷ []) more)
        (go (done ++ (x ∷ [])) more (e ∙ sym (append_assoc done (x ∷ []) (more ++ rest))) (keep done x (more ++ rest) e p))

-- ── gatherings ──

pub joined_push : {X Y : Type 0} (f : X → List Y) (xs : List X) (x : X) → flat_map f (xs ++ (x ∷ [])) ≡ flat_map f xs ++ f x
joined_push f xs x = flat_map-append f xs (x ∷ []) ∙ ap (λ (k : List _). flat_map f xs ++ k) (append-nil (f x))

-- each member gives one or none
abbrev pub OneOrNone : {X Y : Type 0} → (X → List Y) → Type 0
OneOrNone {X} {Y} f = (x : X) → (f x ≡ []) ⊎ ((y : Y) × (f x ≡ y ∷ []))

-- the member that gives the one behind the front of a gathering
pub record Source {X Y : Type 0} (f : X → List Y) (front : List Y) (y : Y) (h : List X) : Type 0 where
  pub spot : Spot h
  pub same : flat_map f spot.before ≡ front
  pub gives : f spot.event ≡ y ∷ []

source_under : {X Y : Type 0} (f : X → List Y) (x : X) (h : List X) (own front : List Y) (y : Y) → f x ≡ own → Source f front y h → Source f (own ++ front) y (x ∷ h)
source_under f x h own front y q p =
    record {
      spot = record { before = x ∷ p.spot.before; event = p.spot.event; after = p.spot.after; stands = ap (λ (k : List _). x ∷ k) p.spot.stands };
      same = (λ i. q i ++ p.same i);
      gives = p.gives;
    }

pub source : {X Y : Type 0} (f : X → List Y) → OneOrNone f → (h : List X) (front : List Y) (y : Y) (back : List Y) → flat_map f h ≡ front ++ (y ∷ back) → Source f front y h
source f few [] [] y back e = absurd cc
source f few [] (z ∷ front) y back e = absurd cc
source {X} {Y} f few (x ∷ h) front y back e = go (few x) (λ m s. source f few h m y back s)
  where
    given : (m : List Y) (z : Y) → f x ≡ z ∷ [] → z ∷ flat_map f h ≡ m ++ (y ∷ back) → ((n : List Y) → flat_map f h ≡ n ++ (y ∷ back) → Source f n y h) → Source f m y (x ∷ h)
    given [] z t s more =
        let eq : z ≡ y = cc in
        record { spot = record { before = []; event = x; after = h; stands = refl }; same = refl; gives = t ∙ (λ i. eq i ∷ []) }
    given (v ∷ m) z t s more =
        let head : z ≡ v = cc in
        let tail : flat_map f h ≡ m ++ (y ∷ back) = cc in
        source_under f x h (v ∷ []) m y (t ∙ (λ i. head i ∷ [])) (more m tail)

    go : ((f x ≡ []) ⊎ ((z : Y) × (f x ≡ z ∷ []))) → ((n : List Y) → flat_map f h ≡ n ++ (y ∷ back) → Source f n y h) → Source f front y (x ∷ h)
    go (inl none) more = source_under f x h [] front y none (more front (ap (λ (k : List Y). k ++ flat_map f h) (sym none) ∙ e))
    go (inr (z, one)) more = given front z one (ap (λ (k : List Y). k ++ flat_map f h) (sym one) ∙ e) more
