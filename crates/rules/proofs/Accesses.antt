-- This phase's stores in the list of accesses, what a call that is not refused tells of them, and what a row that is not met
-- says. Assumes nothing.
use Rattle.std.proofs.Common.{◌≡◌, ℕ, Bool, true, false, ◌&&◌, ◌||◌, eqb, ◌⊎◌, List, [], ◌∷◌, ◌++◌, Some, None, Option, sym, refl, ap, ◌∙◌, inl, inr, ⊎_elim, arith}
use mathlib.Core.Bool.{or_assoc}
use Rattle.std.proofs.Math.Bool.{or-false}
use Rattle.std.proofs.lemmas.Bool.Decides.{nat_tests}
use Rattle.std.proofs.lemmas.Bool.{eqb-true, eq-eqb, and_parts, or_cases, or_left, or_right, both_ways, and_from}
use Rattle.call.specs.declared.refusal.Access.{Access}
use Rattle.call.specs.declared.refusal.Access.TheVariants.{Load, Store}
use Rattle.rules.specs.Refusals.{same_access, earliest, as_race}
use Rattle.rules.specs.State.{Accessed}
use Rattle.rules.specs.Tables.{first, when, some_of}

-- ── rows that are not met ──

pub first_none : {X : Type 0} (r : Option X) (rs : List (Option X)) → first (r ∷ rs) ≡ None → (r ≡ None) × (first rs ≡ None)
first_none None rs e = (refl, e)
first_none (Some x) rs e = absurd cc

pub when_none : {X : Type 0} (t : Bool) (x : X) → when t x ≡ None → t ≡ false
when_none t x e = grind arith

-- ── a test on some member ──

pub some_of_append : {X : Type 0} (p : X → Bool) (xs ys : List X) → some_of p (xs ++ ys) ≡ (some_of p xs || some_of p ys)
some_of_append p [] ys = refl
some_of_append p (x ∷ xs) ys =
    ap (λ (t : Bool). p x || t) (some_of_append p xs ys) ∙ sym (or_assoc (p x) (some_of p xs) (some_of p ys))

-- ── stores of this phase ──

abbrev pub store_by : ℕ → ℕ → Accessed → Bool
store_by d w a = same_access a.access Store && (eqb a.word w && eqb a.core d)

-- whether core d stored word w
abbrev pub stored_in : List Accessed → ℕ → ℕ → Bool
stored_in accesses d w = some_of (store_by d w) accesses

-- one more load is no store
pub stored_after_load : (accesses : List Accessed) (core word d w : ℕ) → stored_in (accesses ++ (record { core = core; word = word; access = Load } ∷ [])) d w ≡ stored_in accesses d w
stored_after_load accesses core word d w =
    some_of_append (store_by d w) accesses (record { core = core; word = word; access = Load } ∷ []) ∙ or-false (stored_in accesses d w)

-- one more store is that store, and leaves those before
pub stored_before : (accesses : List Accessed) (core word d w : ℕ) → stored_in accesses d w ≡ true → stored_in (accesses ++ (record { core = core; word = word; access = Store } ∷ [])) d w ≡ true
stored_before accesses core word d w e =
    some_of_append (store_by d w) accesses (record { core = core; word = word; access = Store } ∷ []) ∙ or_left _ _ e

pub stored_now : (accesses : List Accessed) (core word : ℕ) → stored_in (accesses ++ (record { core = core; word = word; access = Store } ∷ [])) core word ≡ true
stored_now accesses core word =
    some_of_append (store_by core word) accesses (record { core = core; word = word; access = Store } ∷ [])
    ∙ or_right (stored_in accesses core word) _ (or_left _ false (and_from _ _ (eq-eqb word word refl) (eq-eqb core core refl)))

pub stored_after : (accesses : List Accessed) (core word d w : ℕ) → stored_in (accesses ++ (record { core = core; word = word; access = Store } ∷ [])) d w ≡ true → (stored_in accesses d w ≡ true) ⊎ ((w ≡ word) × (d ≡ core))
stored_after accesses core word d w e =
    ⊎_elim (λ old. inl old) (λ new. inr (told (⊎_elim (λ h. h) (λ h. absurd (both_ways false refl h)) (or_cases _ _ new))))
    (or_cases _ _ (sym (some_of_append (store_by d w) accesses (record { core = core; word = word; access = Store } ∷ [])) ∙ e))
  where
    told : (eqb word w && eqb core d) ≡ true → (w ≡ word) × (d ≡ core)
    told h =
        let parts = and_parts _ _ h in
        (sym (eqb-true word w parts.0), sym (eqb-true core d parts.1))

-- ── races ──

pub no_race : (access : Access) (o : Option ℕ) → as_race access o ≡ None → o ≡ None
no_race access o e = grind arith

-- where no other core's store is found, each store is the core's own
pub only_own : (accesses : List Accessed) (core word d : ℕ) → earliest Store core word accesses ≡ None → stored_in accesses d word ≡ true → d ≡ core
only_own [] core word d none e = absurd (both_ways false refl e)
only_own (a ∷ more) core word d none e = grind (arith, nat_tests, only_own more core word d)
