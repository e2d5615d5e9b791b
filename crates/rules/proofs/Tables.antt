-- A table changed at one place: the two cases of a look-up. Assumes nothing.
use Rattle.std.proofs.Common.{◌≡◌, ℕ, ◌&&◌, eqb, ◌⊎◌, inl, inr, ⊎_elim, arith}
use Rattle.std.proofs.lemmas.Bool.{eqb-true, and_parts, eq-eqb, cond-true, cond-false, cases_Bool}
use Rattle.std.proofs.lemmas.Bool.Decides.{eqb_tells}
use Rattle.rules.specs.Tables.{upd, upd2}

-- at the changed place the new entry, elsewhere the old one
pub upd_cases : {X : Type 0} (f : ℕ → X) (k : ℕ) (x : X) (j : ℕ) → ((j ≡ k) × (upd f k x j ≡ x)) ⊎ ((j ≡ k → ⊥) × (upd f k x j ≡ f j))
unfolding upd
upd_cases f k x j =
    ⊎_elim (λ t. inl (t.1, cond-true _ x (f j) t.0)) (λ t. inr (t.1, cond-false _ x (f j) t.0)) (eqb_tells j k)

pub upd2_cases : {X : Type 0} (f : ℕ → ℕ → X) (r k : ℕ) (x : X) (q j : ℕ) → ((q ≡ r) × (j ≡ k) × (upd2 f r k x q j ≡ x)) ⊎ (((q ≡ r) → (j ≡ k) → ⊥) × (upd2 f r k x q j ≡ f q j))
unfolding upd2
upd2_cases f r k x q j =
    ⊎_elim
    (λ t. let both = and_parts _ _ t in inl (eqb-true q r both.0, eqb-true j k both.1, cond-true _ x (f q j) t))
    (λ t. inr ((λ a b. grind (arith, eq-eqb q r a, eq-eqb j k b)), cond-false _ x (f q j) t))
    (cases_Bool (eqb q r && eqb j k))
