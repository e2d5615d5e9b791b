-- A load on the lists is the rules' load: after the write back the word comes from its owner's registered entry, or from the
-- page, and fills the slot. Assumes nothing.
use Rattle.std.proofs.Common.{◌≡◌, ℕ, ◌<◌, true, false, eqb, List, length, get_or, set, Some, None, Option, sym, refl, ap, ◌∙◌, arith}
use Rattle.std.proofs.lemmas.List.{get_or-set_same}
use Rattle.std.proofs.lemmas.Bool.{and_parts, eqb-true, eq-eqb, cond-true}
use Rattle.word.specs.declared.word.Word.{Word}
use Rattle.call.specs.Figures.{Five, slot_of}
use Rattle.rules.specs.Effects.{Got, write_back, fetch, fetch_by, fetch_into, filled, word_in, with_copy}
use Rattle.rules.specs.State.{Copy, invalid, valid, registered, Memory, of_word, copy_of, page_word}
use Rattle.memory.specs.Entries.{copy_in, copy_by, empty, turned, state_after}
use Rattle.memory.specs.Owners.{Core, Place, seat, index_of, is_registered, counts_for, holds}
use Rattle.memory.specs.Views.{copies_of, owner_number, owners_of, memory_of, word_by, source_by}
use Rattle.memory.specs.declared.bounds.Seat.{Seat}
use Rattle.memory.specs.declared.entry.Entry.{Entry}
use Rattle.memory.specs.declared.entry.Event.TheVariants.{Settle}
use Rattle.memory.specs.declared.entry.State.{State}
use Rattle.memory.specs.declared.entry.State.TheVariants.{Invalid, Valid, Registered}
use Rattle.memory.proofs.Owned.{Owned}
use Rattle.memory.proofs.Views.{copies_at, copies_set, same_memory, seated, limited}

-- no registered copy is left where one was settled
pub settled_idle : (es es' : List Entry) (at : ℕ) → at < length es → es' ≡ set es at (turned (get_or es at empty) Settle) → is_registered (get_or es' at empty).state ≡ false
settled_idle es es' at inside e =
    ap (λ (l : List Entry). is_registered (get_or l at empty).state) e
    ∙ (ap (λ (x : Entry). is_registered x.state) (get_or-set_same es at (turned (get_or es at empty) Settle) empty inside) ∙ go (get_or es at empty).state)
  where
    go : (s : State) → is_registered (state_after s Settle) ≡ false
    go Invalid = refl
    go Valid = refl
    go Registered = refl

-- an entry that counts for a word is its registered copy
pub counted_copy : (w : ℕ) (e : Entry) → counts_for w e ≡ true → of_word w (copy_in e) ≡ registered w e.word
counted_copy w e h = go e.state (and_parts (is_registered e.state) (eqb e.place.number w) h).0
  where
    own : e.place.number ≡ w
    own = eqb-true e.place.number w (and_parts (is_registered e.state) (eqb e.place.number w) h).1

    go : (s : State) → is_registered s ≡ true → of_word w (copy_by s e.place.number e.word) ≡ registered w e.word
    go Invalid t = let z : ◌≡◌ {A = ℕ} 0 1 = cc in let no_way : ⊥ = omega arith in absurd no_way
    go Valid t = let z : ◌≡◌ {A = ℕ} 0 1 = cc in let no_way : ⊥ = omega arith in absurd no_way
    go Registered t =
        cond-true (eqb e.place.number w) (registered e.place.number e.word) invalid (eq-eqb e.place.number w own)
        ∙ ap (λ (n : ℕ). registered n e.word) own

-- an owner has the word, registered
pub owner_copy : (f : Five) (ps : List Word) (es : List Entry) (os : List (Option Core)) (w : ℕ) (c : Core) → slot_of f w < 64 → holds f es w (Some c) ≡ true → copy_of f (memory_of ps es os) c.number w ≡ registered w (get_or es (seat c.number (slot_of f w)) empty).word
owner_copy f ps es os w c few h =
    ap (of_word w) (copies_at es c.number (slot_of f w) few) ∙ counted_copy w (get_or es (seat c.number (slot_of f w)) empty) h

module _ (f : Five) (ps : List Word) (es : List Entry) (os : List (Option Core)) (c : ℕ) (w : Place) (few : slot_of f w.number < 64) (inside : seat c (slot_of f w.number) < length es) (owned : Owned f es os) where
  -- what the rules fetch is the word as it is now, and fills the slot
  pub fetched : fetch_into f (memory_of ps es os) c w.number ≡ filled f (memory_of ps es os) c w.number (word_by (get_or os w.number None) f ps es w.number) (source_by (get_or os w.number None))
  unfolding owners_of
  fetched = go (get_or os w.number None) (owned w.number)
    where
      go : (o : Option Core) → holds f es w.number o ≡ true → fetch_by (owner_number o) f (memory_of ps es os) c w.number ≡ filled f (memory_of ps es os) c w.number (word_by o f ps es w.number) (source_by o)
      go None h = refl
      go (Some d) h = ap (λ (k : Copy). filled f (memory_of ps es os) c w.number (word_in k (page_word (memory_of ps es os) w.number)) 2) (owner_copy f ps es os w.number d few h)

  pub filled_slot : (x : Word) → memory_of ps (set es (seat c (slot_of f w.number)) (record { state = Valid; place = w; word = x })) os ≡ with_copy (memory_of ps es os) c (slot_of f w.number) (valid w.number x)
  filled_slot x =
      same_memory _ _ _ _ _ _ refl (copies_set es c (slot_of f w.number) (record { state = Valid; place = w; word = x }) inside few) refl

-- the three steps of a fetch, by what each leaves: figures f as it began, g after the write back
pub fetch_steps : (f g : Five) (m : Memory) (ps ps' : List Word) (es eb es' : List Entry) (os os' : List (Option Core)) (at : Seat) (c : ℕ) (w : Place) (source : ℕ) (x : Word) → g ≡ f → at.core.number ≡ c → at.slot.number ≡ slot_of f w.number → index_of at < length es → Owned g es os → memory_of ps es os ≡ write_back m at.core.number at.slot.number → x ≡ word_by (get_or os w.number None) g ps es w.number → source ≡ source_by (get_or os w.number None) → ps' ≡ ps → eb ≡ es → es' ≡ set eb (index_of at) (record { state = Valid; place = w; word = x }) → os' ≡ os → record { word : x ≡ (fetch f m c w.number).word; source : source ≡ (fetch f m c w.number).source; after : memory_of ps' es' os' ≡ (fetch f m c w.number).memory }
fetch_steps f g m ps ps' es eb es' os os' at c w source x gf cf sf inside owned made xe se pe be ee oe =
    let here : index_of at ≡ seat c (slot_of f w.number) = seated at c (slot_of f w.number) cf sf in
    let fw : slot_of f w.number < 64 = rw (sym sf) (limited at.slot) in
    let in_f : seat c (slot_of f w.number) < length es = rw (sym here) inside in
    let owned_f : Owned f es os = rw (sym gf) owned in
    let base : memory_of ps es os ≡ write_back m c (slot_of f w.number) = made ∙ (ap (λ (k : ℕ). write_back m k at.slot.number) cf ∙ ap (write_back m c) sf) in
    let got : fetch f m c w.number ≡ filled f (memory_of ps es os) c w.number (word_by (get_or os w.number None) f ps es w.number) (source_by (get_or os w.number None)) = ap (λ (n : Memory). fetch_into f n c w.number) (sym base) ∙ fetched f ps es os c w fw in_f owned_f in
    let x_f : x ≡ word_by (get_or os w.number None) f ps es w.number = xe ∙ ap (λ (k : Five). word_by (get_or os w.number None) k ps es w.number) gf in
    let es_f : es' ≡ set es (seat c (slot_of f w.number)) (record { state = Valid; place = w; word = x }) = ee ∙ ap (λ (l : List Entry). set l (index_of at) (record { state = Valid; place = w; word = x })) be ∙ ap (λ (k : ℕ). set es k (record { state = Valid; place = w; word = x })) here in
    record {
      word = x_f ∙ sym (ap (λ (k : Got). k.word) got);
      source = se ∙ sym (ap (λ (k : Got). k.source) got);
      after =
          same_memory _ _ _ _ _ _ pe (ap copies_of es_f) (ap owners_of oe)
          ∙ (filled_slot f ps es os c w fw in_f owned_f x ∙ (ap (λ (y : Word). with_copy (memory_of ps es os) c (slot_of f w.number) (valid w.number y)) x_f ∙ sym (ap (λ (k : Got). k.memory) got)));
    }
