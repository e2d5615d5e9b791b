-- The walk through all 512 entries passes the slots of all cores in the order of the rules: row by row, and in each row slot by
-- slot; what lies past a row's slots or past the last core is skipped. Assumes nothing.
use Rattle.std.proofs.Common.{◌≡◌, ℕ, zero, suc, ◌+◌, ◌-◌, ◌*◌, ◌/◌, ◌%◌, ◌<◌, ◌≤◌, Bool, true, false, cond, ltb, List, [], ◌∷◌, ◌++◌, map, sym, refl, ap, ◌∙◌, ⊎_elim, add-zero, add-suc, arith}
use Rattle.std.proofs.lemmas.Nat.{div-mul-add, mod-mul-add, le-div}
use Rattle.std.proofs.lemmas.List.{append-nil, append_assoc, map-append, flat_map_more}
use Rattle.std.proofs.lemmas.Bool.{lt-ltb, le-ltb, and_from, and_left, and_right, cases_eq, cond-false, cond-true}
use Rattle.std.specs.Int.{from_bool}
use Rattle.std.specs.List.{flat_map}
use Rattle.call.specs.Figures.{Five}
use Rattle.rules.specs.Effects.{Place, places, tally}
use Rattle.rules.specs.Tables.{below}
use Rattle.memory.specs.Owners.{seat}
use Rattle.memory.specs.Walks.{place_at, within, walked}

-- one step of the walk
pub walked_in : (f : Five) (at : ℕ) → within f at ≡ true → walked f (suc at) ≡ walked f at ++ (place_at at ∷ [])
unfolding walked
walked_in f at h = ap (λ (l : List Place). walked f at ++ l) (cond-true (within f at) (place_at at ∷ []) [] h)

pub walked_past : (f : Five) (at : ℕ) → within f at ≡ false → walked f (suc at) ≡ walked f at
unfolding walked
walked_past f at h =
    ap (λ (l : List Place). walked f at ++ l) (cond-false (within f at) (place_at at ∷ []) [] h) ∙ append-nil (walked f at)

-- places that the figures do not have are skipped
skipped : (f : Five) (from to : ℕ) → from ≤ to → ((k : ℕ) → from ≤ k → k < to → within f k ≡ false) → walked f to ≡ walked f from
skipped f from zero h none = ap (walked f) (omega arith)
skipped f from (suc to) h none =
    ⊎_elim
    (λ e. ap (walked f) (sym e))
    (λ ne. walked_past f to (none to (omega arith) (omega arith)) ∙ skipped f from to (omega arith) (λ k a b. none k a (omega arith)))
    (cases_eq from (suc to))

abbrev row_of : ℕ → ℕ → Place
row_of core slot = record { core = core; slot = slot }

placed : (c s : ℕ) → s < 64 → place_at (seat c s) ≡ row_of c s
placed c s h = λ i. record { core = div-mul-add c 64 s h i; slot = mod-mul-add c 64 s h i }

has : (f : Five) (c s : ℕ) → s < 64 → c < f.cores → s < f.slots → within f (seat c s) ≡ true
has f c s h a b =
    and_from (ltb (seat c s / 64) f.cores) (ltb (seat c s % 64) f.slots) (ap (λ (k : ℕ). ltb k f.cores) (div-mul-add c 64 s h) ∙ lt-ltb c f.cores a) (ap (λ (k : ℕ). ltb k f.slots) (mod-mul-add c 64 s h) ∙ lt-ltb s f.slots b)

-- the slots of one core
row : (f : Five) (c s : ℕ) → f.slots ≤ 64 → c < f.cores → s ≤ f.slots → walked f (seat c s) ≡ walked f (c * 64) ++ map (row_of c) (below s)
row f c zero l a h = ap (walked f) (add-zero (c * 64)) ∙ sym (append-nil (walked f (c * 64)))
row f c (suc s) l a h =
    let s64 : s < 64 = omega arith in
    ap (walked f) (add-suc (c * 64) s)
    ∙ (walked_in f (seat c s) (has f c s s64 a (omega arith))
    ∙ (ap (λ (p : Place). walked f (seat c s) ++ (p ∷ [])) (placed c s s64)
    ∙ (ap (λ (ps : List Place). ps ++ (row_of c s ∷ [])) (row f c s l a (omega arith))
    ∙ (append_assoc (walked f (c * 64)) (map (row_of c) (below s)) (row_of c s ∷ [])
    ∙ ap (λ (ps : List Place). walked f (c * 64) ++ ps) (sym (map-append (row_of c) (below s) (s ∷ [])))))))

past_slots : (f : Five) (c k : ℕ) → seat c f.slots ≤ k → k < seat c 64 → within f k ≡ false
past_slots f c k a b =
    let s = k - c * 64 in
    let h : s < 64 = omega arith in
    let e : seat c s ≡ k = omega arith in
    and_right (ltb (k / 64) f.cores) (ltb (k % 64) f.slots) (ap (λ (n : ℕ). ltb (n % 64) f.slots) (sym e) ∙ (ap (λ (n : ℕ). ltb n f.slots) (mod-mul-add c 64 s h) ∙ le-ltb s f.slots (omega arith)))

past_cores : (f : Five) (k : ℕ) → f.cores * 64 ≤ k → within f k ≡ false
past_cores f k a =
    and_left (ltb (k / 64) f.cores) (ltb (k % 64) f.slots) (le-ltb (k / 64) f.cores (le-div f.cores k 64 (omega arith) a))

-- the slots of the first cores
rows : (f : Five) (c : ℕ) → f.slots ≤ 64 → c ≤ f.cores → walked f (c * 64) ≡ flat_map (λ core. map (row_of core) (below f.slots)) (below c)
unfolding walked
rows f zero l h = refl
rows f (suc c) l h =
    let next : suc c * 64 ≡ seat c 64 = omega arith in
    ap (walked f) next
    ∙ (skipped f (seat c f.slots) (seat c 64) (omega arith) (past_slots f c)
    ∙ (row f c f.slots l (omega arith) (omega arith)
    ∙ (ap (λ (ps : List Place). ps ++ map (row_of c) (below f.slots)) (rows f c l (omega arith))
    ∙ flat_map_more (λ core. map (row_of core) (below f.slots)) [] (below c) c)))

-- the walk through all entries passes all places
pub walked_all : (f : Five) → f.slots ≤ 64 → f.cores ≤ 8 → walked f 512 ≡ places f
walked_all f l m =
    skipped f (f.cores * 64) 512 (omega arith) (λ k a b. past_cores f k a) ∙ rows f f.cores l (omega arith)

-- what a test that passes adds to a count
pub one_of : (b : Bool) → from_bool b ≡ cond {A = ℕ} b 1 0
one_of true = refl
one_of false = refl

pub one_most : (b : Bool) → from_bool b ≤ 1
one_most true = omega arith
one_most false = omega arith

-- one more place counts one more if it passes
pub tally_more : (test : Place → Bool) (ps : List Place) (p : Place) → tally test (ps ++ (p ∷ [])) ≡ tally test ps + cond {A = ℕ} (test p) 1 0
tally_more test [] p = omega arith
tally_more test (q ∷ ps) p = omega (arith, tally_more test ps p)
