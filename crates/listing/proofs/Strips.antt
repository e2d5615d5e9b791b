-- The strips of a plan, one more at a time: the next one's mode is in the plan's next four bits. Assumes nothing.
use Rattle.std.proofs.Common.{◌≡◌, ℕ, zero, suc, ◌+◌, ◌*◌, ◌/◌, ◌%◌, ◌^◌, eqb, List, ◌++◌, ap, ◌∙◌, sym, append_assoc, zero-add, arith}
use Rattle.std.proofs.lemmas.List.{append-nil}
use Rattle.std.proofs.lemmas.Bool.{cond-false, ne_eqb}
use Rattle.std.proofs.lemmas.Nat.{pow-add}
use Rattle.std.proofs.Math.Nat.{div-div-eq-div-mul}
use Rattle.listing.specs.Lines.{strip_text, strips_text, modes, plan_text}

strip_more : (strip plan i : ℕ) → strips_text strip (modes i plan) ++ strip_text (strip + i) (plan / 2 ^ (4 * i) % 16) ≡ strips_text strip (modes (i + 1) plan)
strip_more strip plan zero =
    let place : strip + 0 ≡ strip = omega arith in
    let digit : plan / 1 ≡ plan = omega arith in
    (λ j. strip_text (place j) (digit j % 16)) ∙ sym (append-nil (strip_text strip (plan % 16)))
strip_more strip plan (suc i) =
    let front = strip_text strip (plan % 16) in
    let place : strip + suc i ≡ strip + 1 + i = omega arith in
    let four : 4 * suc i ≡ 4 + 4 * i = omega arith in
    let digit : plan / 2 ^ (4 * suc i) ≡ plan / 16 / 2 ^ (4 * i) =
    ap (λ (k : ℕ). plan / 2 ^ k) four
    ∙ ap (λ (p : ℕ). plan / p) (pow-add 2 4 (4 * i))
    ∙ sym (div-div-eq-div-mul plan 16 (2 ^ (4 * i))) in
    let next : suc (i + 1) ≡ suc i + 1 = omega arith in
    append_assoc front (strips_text (strip + 1) (modes i (plan / 16))) (strip_text (strip + suc i) (plan / 2 ^ (4 * suc i) % 16))
    ∙ (λ j. front ++ (strips_text (strip + 1) (modes i (plan / 16)) ++ strip_text (place j) (digit j % 16)))
    ∙ ap (λ (t : List ℕ). front ++ t) (strip_more (strip + 1) (plan / 16) i)
    ∙ ap (λ (k : ℕ). strips_text strip (modes k plan)) next

pub next_strip : (plan i : ℕ) → strips_text 0 (modes i plan) ++ strip_text i (plan / 2 ^ (4 * i) % 16) ≡ strips_text 0 (modes (i + 1) plan)
next_strip plan i =
    ap (λ (k : ℕ). strips_text 0 (modes i plan) ++ strip_text k (plan / 2 ^ (4 * i) % 16)) (sym (zero-add i)) ∙ strip_more 0 plan i

-- a plan that is not 0 has sixteen strips
pub all_strips : (plan : ℕ) → (plan ≡ 0 → ⊥) → plan_text plan ≡ strips_text 0 (modes 16 plan)
unfolding plan_text
all_strips plan some = cond-false (eqb plan 0) _ _ (ne_eqb plan 0 some)
