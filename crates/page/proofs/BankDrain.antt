-- A drain goes through the slots: each step writes one slot's word below and empties the slot, which keeps what the
-- bank means, and slots that are all empty are the slots of a fresh bank, which means the list below.
-- Assumes nothing.
use Rattle.std.proofs.Common.{◌≡◌, ℕ, ◌+◌, ◌<◌, ◌≤◌, true, List, length, get_or, set, replicate, None, sym, refl, ap, ◌∙◌, ⊎_elim, arith, below_more}
use Rattle.std.proofs.lemmas.Bool.{cases_eq}
use Rattle.std.proofs.lemmas.List.{ext_get_or, get_or_default, length-set, get_or-set_same, get_or-set_other, get_or-replicate, length-replicate}
use Rattle.word.specs.declared.word.Word.{Word}
use Rattle.page.specs.Slots.{Slot, in_slot, laid, flushed}
use Rattle.page.proofs.Slots.{emptied}

-- a drain that has come to slot i of a bank: what the slots hold lies in them, those passed are empty, and the bank
-- means what it meant
abbrev pub Drained : List Slot → List Word → ℕ → List Word → Type 0
Drained slots below i meant =
    (length slots ≡ 128) × ((k : ℕ) → in_slot k (get_or slots k None) ≡ true)
    × ((k : ℕ) → k < i → get_or slots k None ≡ None)
    × (laid slots below ≡ meant)

-- it begins with no slot passed
pub drain_start : (slots : List Slot) (below : List Word) → length slots ≡ 128 → ((k : ℕ) → in_slot k (get_or slots k None) ≡ true) → Drained slots below 0 (laid slots below)
drain_start slots below full lies =
    (full, lies, (λ k h. let no_way : ⊥ = omega arith in absurd no_way), refl)

-- one step writes below what the slot held, and empties the slot
pub drain_step : (slots : List Slot) (below : List Word) (i : ℕ) (meant : List Word) (d : Slot) → Drained slots below i meant → (left : Slot) (below' : List Word) (held : Slot) → i < length slots → held ≡ get_or slots i d → left ≡ None → below' ≡ flushed held below → Drained (set slots i left) below' (i + 1) meant
drain_step slots below i meant d so_far left below' held few is gone written =
    (length-set slots i left ∙ so_far.0, lies, below_more _ _ passed (here i refl), kept)
  where
    here : (k : ℕ) → k ≡ i → get_or (set slots i left) k None ≡ None
    here k e =
        ap (λ (j : ℕ). get_or (set slots i left) j None) e ∙ get_or-set_same slots i left None few ∙ gone

    lies : (k : ℕ) → in_slot k (get_or (set slots i left) k None) ≡ true
    lies k =
        ⊎_elim (λ e. ap (in_slot k) (here k e)) (λ ne. ap (in_slot k) (get_or-set_other slots i k left None ne) ∙ so_far.1 k)
        (cases_eq k i)

    passed : (k : ℕ) → k < i → get_or (set slots i left) k None ≡ None
    passed k h = get_or-set_other slots i k left None (λ e. omega arith) ∙ so_far.2 k h

    kept : laid (set slots i left) below' ≡ meant
    kept =
        ap (λ (s : Slot). laid (set slots i s) below') gone
        ∙ ap (laid (set slots i None)) (written ∙ ap (λ (s : Slot). flushed s below) (is ∙ get_or_default slots i d None few))
        ∙ emptied slots below so_far.0 so_far.1 i (omega (arith, so_far.0))
        ∙ so_far.3

-- at the end the slots are those of a fresh bank
pub drain_end : (slots : List Slot) (below : List Word) (i : ℕ) (meant : List Word) → Drained slots below i meant → 128 ≤ i → slots ≡ replicate 128 None
drain_end slots below i meant so_far all =
    ext_get_or None slots (replicate 128 None) (so_far.0 ∙ sym (length-replicate {A = Slot} 128 None))
    (λ k h.
    let lt : k < 128 = omega (arith, so_far.0) in
    so_far.2 k (omega arith) ∙ sym (get_or-replicate 128 k None None lt))
