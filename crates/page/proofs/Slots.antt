-- What a bank means, place by place: the changed word that the place's slot holds for it, else the word below. Since a
-- slot holds only places that lie in it, a change of one slot or a write below of its word touches no place of another.
-- So writing a slot's word below and emptying the slot keeps the meaning, and filling it replaces one word.
-- Assumes nothing.
use Rattle.std.proofs.Common.{◌≡◌, ℕ, ◌%◌, ◌<◌, ◌≤◌, true, eqb, ◌≢◌, List, length, get_or, set, replicate, Some, None, Option, unwrap_or, sym, refl, ap, ◌∙◌, ⊎_elim, mod-lt, arith}
use Rattle.std.proofs.lemmas.List.FromFn.{length-map-range_with_len, get_or-map-range_with_len}
use Rattle.std.proofs.lemmas.List.{ext_get_or, length-set, get_or-set_same, get_or-set_other, get_or-replicate, get_or_past, length-replicate}
use Rattle.std.proofs.lemmas.Bool.{cases_eq, cases_lt, cond_both, cond-true, cond-false, eq-eqb, ne_eqb, eqb-true}
use Rattle.word.specs.declared.word.Word.{Word}
use Rattle.word.specs.Words.{blank_word}
use Rattle.page.specs.Slots.{Slot, slot_for, in_slot, shown, flushed, laid, made_way}
use Rattle.page.specs.declared.change.Change.{Change}

-- a bank has as many words as the list below
pub length_laid : (slots : List Slot) (below : List Word) → length (laid slots below) ≡ length below
length_laid slots below = length-map-range_with_len (λ k. shown (slot_for slots k) k (get_or below k blank_word)) 0 (length below)

-- the word at a place is the one its slot shows
pub laid_at : (slots : List Slot) (below : List Word) (k : ℕ) (d : Word) → k < length below → get_or (laid slots below) k d ≡ shown (slot_for slots k) k (get_or below k blank_word)
laid_at slots below k d h =
    get_or-map-range_with_len (λ p. shown (slot_for slots p) p (get_or below p blank_word)) 0 (length below) k k d h (omega arith)

-- two banks with equal lengths below mean one list where each place shows one word
pub same_laid : (slots slots' : List Slot) (below below' : List Word) → length below ≡ length below' → ((k : ℕ) → k < length below → shown (slot_for slots k) k (get_or below k blank_word) ≡ shown (slot_for slots' k) k (get_or below' k blank_word)) → laid slots below ≡ laid slots' below'
same_laid slots slots' below below' long each =
    ext_get_or blank_word _ _ (length_laid slots below ∙ long ∙ sym (length_laid slots' below'))
    (λ k h.
    let lt : k < length below = omega (arith, length_laid slots below) in
    let lt' : k < length below' = omega arith in
    laid_at slots below k blank_word lt ∙ each k lt ∙ sym (laid_at slots' below' k blank_word lt'))

-- a bank with empty slots means the list below
pub laid_empty : (slots : List Slot) (below : List Word) → slots ≡ replicate 128 None → laid slots below ≡ below
laid_empty slots below e =
    ap (λ (ss : List Slot). laid ss below) e
    ∙ ext_get_or blank_word _ _ (length_laid (replicate 128 None) below)
    (λ k h.
    let lt : k < length below = omega (arith, length_laid (replicate 128 None) below) in
    laid_at (replicate 128 None) below k blank_word lt
    ∙ ap (λ (s : Slot). shown s k (get_or below k blank_word)) (get_or-replicate 128 (k % 128) None None (mod-lt k (omega arith))))

-- in empty slots everything lies where it must
pub empty_lies : (slots : List Slot) → slots ≡ replicate 128 None → (i : ℕ) → in_slot i (get_or slots i None) ≡ true
empty_lies slots e i = ap (λ (ss : List Slot). in_slot i (get_or ss i None)) e ∙ ⊎_elim inside past (cases_lt i 128)
  where
    inside : i < 128 → in_slot i (get_or (replicate 128 None) i None) ≡ true
    inside h = ap (in_slot i) (get_or-replicate 128 i None None h)

    past : 128 ≤ i → in_slot i (get_or (replicate 128 None) i None) ≡ true
    past h = ap (in_slot i) (get_or_past (replicate 128 None) i None (omega (arith, length-replicate {A = Slot} 128 None)))

-- a slot shows its word at the word's place
pub shown_here : (change : Change) (j : ℕ) (w : Word) → change.place ≡ j → shown (Some change) j w ≡ change.word
shown_here change j w e =
    ap (λ (o : Option Word). unwrap_or o w) (cond-true (eqb change.place j) (Some change.word) None (eq-eqb _ _ e))

-- and the word below at any other place
pub shown_apart : (change : Change) (j : ℕ) (w : Word) → (change.place ≡ j → ⊥) → shown (Some change) j w ≡ w
shown_apart change j w ne =
    ap (λ (o : Option Word). unwrap_or o w) (cond-false (eqb change.place j) (Some change.word) None (ne_eqb _ _ ne))

-- writing what a slot holds below keeps the length
pub length_flushed : (s : Slot) (below : List Word) → length (flushed s below) ≡ length below
length_flushed None below = refl
length_flushed (Some change) below = length-set below change.place change.word

-- so does making way
pub length_made_way : (s : Slot) (k : ℕ) (below : List Word) → length (made_way s k below) ≡ length below
length_made_way None k below = refl
length_made_way (Some change) k below =
    cond_both (eqb change.place k) below (flushed (Some change) below) (λ ws. length ws ≡ length below) (λ _. refl)
    (λ _. length_flushed (Some change) below)

-- written below, the slot's word is at each place the one that the slot showed there
pub flushed_shows : (s : Slot) (below : List Word) (j : ℕ) → j < length below → get_or (flushed s below) j blank_word ≡ shown s j (get_or below j blank_word)
flushed_shows None below j h = refl
flushed_shows (Some change) below j h = ⊎_elim here apart (cases_eq change.place j)
  where
    here : change.place ≡ j → get_or (set below change.place change.word) j blank_word ≡ shown (Some change) j (get_or below j blank_word)
    here e =
        ap (λ (p : ℕ). get_or (set below p change.word) j blank_word) e
        ∙ get_or-set_same below j change.word blank_word h
        ∙ sym (shown_here change j (get_or below j blank_word) e)

    apart : (change.place ≡ j → ⊥) → get_or (set below change.place change.word) j blank_word ≡ shown (Some change) j (get_or below j blank_word)
    apart ne =
        get_or-set_other below change.place j change.word blank_word (λ e. ne (sym e))
        ∙ sym (shown_apart change j (get_or below j blank_word) ne)

-- and a place that lies in another slot keeps its word
pub flushed_other : (s : Slot) (i : ℕ) (below : List Word) (j : ℕ) → in_slot i s ≡ true → j % 128 ≢ i → get_or (flushed s below) j blank_word ≡ get_or below j blank_word
flushed_other None i below j lies apart = refl
flushed_other (Some change) i below j lies apart =
    get_or-set_other below change.place j change.word blank_word
    (λ e. apart (ap (λ (p : ℕ). p % 128) e ∙ eqb-true _ _ lies))

-- the same of making way for a place: at any other place of the slot
pub made_way_shows : (s : Slot) (k : ℕ) (below : List Word) (j : ℕ) → j < length below → j ≢ k → get_or (made_way s k below) j blank_word ≡ shown s j (get_or below j blank_word)
made_way_shows None k below j h ne = refl
made_way_shows (Some change) k below j h ne = ⊎_elim here apart (cases_eq change.place k)
  where
    here : change.place ≡ k → get_or (made_way (Some change) k below) j blank_word ≡ shown (Some change) j (get_or below j blank_word)
    here e =
        ap (λ (ws : List Word). get_or ws j blank_word) (cond-true (eqb change.place k) below _ (eq-eqb _ _ e))
        ∙ sym (shown_apart change j (get_or below j blank_word) (λ q. ne (sym q ∙ e)))

    apart : (change.place ≡ k → ⊥) → get_or (made_way (Some change) k below) j blank_word ≡ shown (Some change) j (get_or below j blank_word)
    apart no_k =
        ap (λ (ws : List Word). get_or ws j blank_word) (cond-false (eqb change.place k) below _ (ne_eqb _ _ no_k))
        ∙ flushed_shows (Some change) below j h

-- and at a place that lies in another slot
pub made_way_other : (s : Slot) (i k : ℕ) (below : List Word) (j : ℕ) → in_slot i s ≡ true → j % 128 ≢ i → get_or (made_way s k below) j blank_word ≡ get_or below j blank_word
made_way_other None i k below j lies apart = refl
made_way_other (Some change) i k below j lies apart =
    cond_both (eqb change.place k) below (flushed (Some change) below) (λ ws. get_or ws j blank_word ≡ get_or below j blank_word)
    (λ _. refl)
    (λ _. flushed_other (Some change) i below j lies apart)

module _ (slots : List Slot) (below : List Word) (full : length slots ≡ 128) (lies : (i : ℕ) → in_slot i (get_or slots i None) ≡ true) where
  -- the slot of a place in a changed slot, and in another
  slot_same : (i j : ℕ) (s : Slot) → i < 128 → j % 128 ≡ i → slot_for (set slots i s) j ≡ s
  slot_same i j s h e = ap (λ (p : ℕ). get_or (set slots i s) p None) e ∙ get_or-set_same slots i s None (omega arith)

  slot_other : (i j : ℕ) (s : Slot) → j % 128 ≢ i → slot_for (set slots i s) j ≡ slot_for slots j
  slot_other i j s ne = get_or-set_other slots i (j % 128) s None ne

  -- a slot written below and emptied shows what it showed
  pub emptied : (i : ℕ) → i < 128 → laid (set slots i None) (flushed (get_or slots i None) below) ≡ laid slots below
  emptied i few =
      same_laid (set slots i None) slots (flushed s below) below (length_flushed s below)
      (λ j h.
      let lt : j < length below = omega (arith, length_flushed s below) in
      ⊎_elim (here j lt) (apart j) (cases_eq (j % 128) i))
    where
      s : Slot
      s = get_or slots i None

      here : (j : ℕ) → j < length below → j % 128 ≡ i → shown (slot_for (set slots i None) j) j (get_or (flushed (get_or slots i None) below) j blank_word) ≡ shown (slot_for slots j) j (get_or below j blank_word)
      here j h e =
          ap (λ (t : Slot). shown t j (get_or (flushed (get_or slots i None) below) j blank_word)) (slot_same i j None few e)
          ∙ flushed_shows (get_or slots i None) below j h
          ∙ ap (λ (p : ℕ). shown (get_or slots p None) j (get_or below j blank_word)) (sym e)

      apart : (j : ℕ) → (j % 128 ≡ i → ⊥) → shown (slot_for (set slots i None) j) j (get_or (flushed (get_or slots i None) below) j blank_word) ≡ shown (slot_for slots j) j (get_or below j blank_word)
      apart j ne =
          ap (λ (t : Slot). shown t j (get_or (flushed (get_or slots i None) below) j blank_word)) (slot_other i j None ne)
          ∙ ap (shown (slot_for slots j) j) (flushed_other (get_or slots i None) i below j (lies i) ne)

  -- a slot that has made way for a place and holds its new word shows that word there, and else what it showed
  filled_at : (k : ℕ) (x : Word) (j : ℕ) → j < length below → k < length below → shown (slot_for (set slots (k % 128) (Some (record { place = k; word = x }))) j) j (get_or (made_way (slot_for slots k) k below) j blank_word) ≡ get_or (set (laid slots below) k x) j blank_word
  filled_at k x j h inside = ⊎_elim here (λ ne. ⊎_elim (beside ne) (apart ne) (cases_eq (j % 128) (k % 128))) (cases_eq j k)
    where
      new : Slot
      new = Some (record { place = k; word = x })

      below' : Word
      below' = get_or (made_way (slot_for slots k) k below) j blank_word

      few : k % 128 < 128
      few = mod-lt k (omega arith)

      kept : j ≢ k → shown (slot_for slots j) j (get_or below j blank_word) ≡ get_or (set (laid slots below) k x) j blank_word
      kept ne = sym (laid_at slots below j blank_word h) ∙ sym (get_or-set_other (laid slots below) k j x blank_word ne)

      here : j ≡ k → shown (slot_for (set slots (k % 128) new) j) j below' ≡ get_or (set (laid slots below) k x) j blank_word
      here e =
          let lt : k < length (laid slots below) = omega (arith, length_laid slots below) in
          ap (λ (t : Slot). shown t j below') (slot_same (k % 128) j new few (ap (λ (p : ℕ). p % 128) e))
          ∙ shown_here (record { place = k; word = x }) j below' (sym e)
          ∙ sym (get_or-set_same (laid slots below) k x blank_word lt)
          ∙ ap (λ (p : ℕ). get_or (set (laid slots below) k x) p blank_word) (sym e)

      beside : (j ≡ k → ⊥) → j % 128 ≡ k % 128 → shown (slot_for (set slots (k % 128) new) j) j below' ≡ get_or (set (laid slots below) k x) j blank_word
      beside ne e =
          ap (λ (t : Slot). shown t j below') (slot_same (k % 128) j new few e)
          ∙ shown_apart (record { place = k; word = x }) j below' (λ q. ne (sym q))
          ∙ made_way_shows (slot_for slots k) k below j h ne
          ∙ ap (λ (p : ℕ). shown (get_or slots p None) j (get_or below j blank_word)) (sym e)
          ∙ kept ne

      apart : (j ≡ k → ⊥) → (j % 128 ≡ k % 128 → ⊥) → shown (slot_for (set slots (k % 128) new) j) j below' ≡ get_or (set (laid slots below) k x) j blank_word
      apart ne other =
          ap (λ (t : Slot). shown t j below') (slot_other (k % 128) j new other)
          ∙ ap (shown (slot_for slots j) j) (made_way_other (slot_for slots k) (k % 128) k below j (lies (k % 128)) other)
          ∙ kept ne

  -- so a write inside replaces one word of the bank's list
  pub filled : (k : ℕ) (x : Word) → k < length below → laid (set slots (k % 128) (Some (record { place = k; word = x }))) (made_way (slot_for slots k) k below) ≡ set (laid slots below) k x
  filled k x inside =
      ext_get_or blank_word _ _ (length_laid new way ∙ long ∙ sym (length_laid slots below) ∙ sym (length-set (laid slots below) k x))
      (λ j h.
      let lt : j < length way = omega (arith, length_laid new way) in
      laid_at new way j blank_word lt ∙ filled_at k x j (omega (arith, long)) inside)
    where
      new : List Slot
      new = set slots (k % 128) (Some (record { place = k; word = x }))

      way : List Word
      way = made_way (slot_for slots k) k below

      long : length (made_way (slot_for slots k) k below) ≡ length below
      long = length_made_way (slot_for slots k) k below
