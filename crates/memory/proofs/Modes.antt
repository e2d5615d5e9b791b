-- The four bits of a strip by a shift: 4 places a strip are the powers of 16, and past sixteen strips a plan of 64 bits has none.
-- Assumes nothing.
use Rattle.std.proofs.Common.{◌≡◌, ℕ, zero, suc, ◌+◌, ◌*◌, ◌/◌, ◌%◌, ◌^◌, ◌<◌, ◌≤◌, Bool, true, false, ◌||◌, [], ◌∷◌, sym, refl, ap, ◌∙◌, ⊎_elim, pow-suc, arith}
use native.Mathlib.Nat.{pow-le-pow_right, div-eq_of_lt}
use Rattle.std.proofs.lemmas.Nat.{pow-add}
use Rattle.std.proofs.lemmas.Bool.{or_left, or_right}
use Rattle.rules.specs.Plans.{bits_of}
use Rattle.rules.specs.Tables.{some_of, below}
use Rattle.rules.proofs.Accesses.{some_of_append}
use Rattle.rules.proofs.Members.{lt_or_eq}

sixteen : (s : ℕ) → 2 ^ (4 * s) ≡ 16 ^ s
sixteen zero = refl
sixteen (suc s) =
    let more : 4 * suc s ≡ 4 * s + 4 = omega arith in
    ap (λ (k : ℕ). 2 ^ k) more ∙ (pow-add 2 (4 * s) 4 ∙ (ap (λ (k : ℕ). k * 16) (sixteen s) ∙ sym (pow-suc 16 s)))

-- below sixteen strips
pub bits_shifted : (plan strip : ℕ) → plan / 2 ^ (4 * strip) % 16 ≡ bits_of plan strip
bits_shifted plan strip = ap (λ (k : ℕ). plan / k % 16) (sixteen strip)

-- past them
pub bits_past : (plan strip : ℕ) → plan < 2 ^ 64 → 16 ≤ strip → 0 ≡ bits_of plan strip
bits_past plan strip fits past =
    let large : 16 ^ 16 ≤ 16 ^ strip = pow-le-pow_right (omega arith) past in
    let less : plan < 16 ^ strip = omega arith in
    ap (λ (k : ℕ). k % 16) (sym (div-eq_of_lt less))

-- a number that passes the test is among those below any larger one
pub some_below : (test : ℕ → Bool) (n m : ℕ) → n < m → test n ≡ true → some_of test (below m) ≡ true
some_below test n zero less here = let no_way : ⊥ = omega arith in absurd no_way
some_below test n (suc m) less here =
    some_of_append test (below m) (m ∷ [])
    ∙ ⊎_elim (λ l. or_left _ _ (some_below test n m l here)) (λ e. or_right (some_of test (below m)) (test m || false) (or_left _ _ (ap test (sym e) ∙ here))) (lt_or_eq n m less)
