-- A store on the lists is the rules' store. After the write back the slot holds no registered copy, so its core is not the
-- word's owner, and whoever is loses the copy. Assumes nothing.
use Rattle.std.proofs.Common.{◌≡◌, ℕ, ◌<◌, Bool, true, false, cond, ◌&&◌, eqb, List, length, get_or, set, Some, None, Option, sym, refl, ap, ◌∙◌, ⊎_elim, arith, length-set}
use Rattle.std.proofs.lemmas.List.{get_or-set_same, set-set}
use Rattle.std.proofs.lemmas.Bool.{eq-eqb, ne_eqb, cond-false, both_ways}
use Rattle.word.specs.declared.word.Word.{Word}
use Rattle.call.specs.Figures.{Five, slot_of}
use Rattle.rules.specs.Effects.{Put, write_back, claim, claim_by, claim_from, claimed, with_copy, write_back_by, is_registered as counts}
use Rattle.rules.specs.State.{Copy, invalid, valid, registered, Memory, of_word, copy_of}
use Rattle.rules.specs.Tables.{upd, upd2}
use Rattle.rules.proofs.Tables.{upd2_cases}
use Rattle.memory.specs.Entries.{copy_in, copy_by, empty, turned, state_after, done_by}
use Rattle.memory.specs.Owners.{Core, Place, seat, index_of, is_registered, counts_for, holds}
use Rattle.memory.specs.Views.{copies_of, owner_number, owners_of, memory_of, source_by, taken_by, page_after, owners_after, view}
use Rattle.memory.specs.declared.bounds.Seat.{Seat}
use Rattle.memory.specs.declared.entry.Entry.{Entry}
use Rattle.memory.specs.declared.entry.Event.TheVariants.{Evict, Taken}
use Rattle.memory.specs.declared.entry.State.{State}
use Rattle.memory.specs.declared.entry.State.TheVariants.{Invalid, Valid, Registered}
use Rattle.memory.specs.declared.memory.Memory.{Memory as Tables}
use Rattle.memory.proofs.Owned.{Owned, owned_kept, owned_set, kept_set, counts_not, counts_own}
use Rattle.memory.proofs.Views.{copies_at, copies_set, owners_set, same_memory, seat_below, limited}

-- the registered copy of a word
abbrev pub stored_in : Place → Word → Entry
stored_in w x = record { state = Registered; place = w; word = x }

module _ (f : Five) (es : List Entry) (os : List (Option Core)) (c : Core) (w : Place) (at : ℕ) (x : Word) (inside : at < length es) (owned : Owned f es os) (seated : at ≡ seat c.number (slot_of f w.number)) where
  -- another word in the registered copy
  pub rewrite_owned : counts_for w.number (get_or es (seat c.number (slot_of f w.number)) empty) ≡ true → Owned f (set es at (stored_in w x)) os
  rewrite_owned here =
      owned_kept f es (set es at (stored_in w x)) os
      (λ v. kept_set es at (stored_in w x) v inside (λ h. eq-eqb w.number v (sym (counts_own w.number (get_or es at empty) (ap (λ (k : ℕ). counts_for w.number (get_or es k empty)) seated ∙ here)) ∙ counts_own v (get_or es at empty) h)))
      owned

  -- a registered copy where there was none, and its owner
  pub register_owned : length os ≡ 4096 → is_registered (get_or es at empty).state ≡ false → Owned f (set es at (stored_in w x)) (set os w.number (Some c))
  register_owned long idle =
      owned_set f es (set es at (stored_in w x)) os w.number (Some c) (omega (arith, limited w))
      (λ v ne. kept_set es at (stored_in w x) v inside (λ h. counts_not v (get_or es at empty) idle h))
      (ap (λ (k : ℕ). counts_for w.number (get_or (set es at (stored_in w x)) k empty)) (sym seated) ∙ (ap (counts_for w.number) (get_or-set_same es at (stored_in w x) empty inside) ∙ eq-eqb w.number w.number refl))
      owned

taken_state : (s : State) → state_after s Taken ≡ Invalid
taken_state Invalid = refl
taken_state Valid = refl
taken_state Registered = refl

-- an entry that is taken holds nothing
taken_copy : (e : Entry) → copy_in (turned e Taken) ≡ invalid
taken_copy e = ap (λ (s : State). copy_by s e.place.number e.word) (taken_state e.state)

module _ (f : Five) (ps : List Word) (es : List Entry) (os : List (Option Core)) (c : Core) (w : Place) (x : Word) (few : slot_of f w.number < 64) (long : length es ≡ 512) (fits : w.number < length os) (owned : Owned f es os) (idle : is_registered (get_or es (seat c.number (slot_of f w.number)) empty).state ≡ false) where
  owners_left : owners_of (set (set os w.number None) w.number (Some c)) ≡ upd (owners_of os) w.number (Some c.number)
  owners_left = ap owners_of (set-set os w.number None (Some c)) ∙ owners_set os w.number (Some c) fits

  -- the core itself is not the owner
  other : (d : Core) → holds f es w.number (Some d) ≡ true → eqb d.number c.number ≡ false
  other d h =
      ne_eqb d.number c.number
      (λ e.
      counts_not w.number (get_or es (seat c.number (slot_of f w.number)) empty) idle (ap (λ (k : ℕ). counts_for w.number (get_or es (seat k (slot_of f w.number)) empty)) (sym e) ∙ h))

  -- what the rules claim
  pub claimed_lists : (memory_of ps (set (taken_by (get_or os w.number None) f es w.number) (seat c.number (slot_of f w.number)) (stored_in w x)) (set (set os w.number None) w.number (Some c)) ≡ (claim_from f (memory_of ps es os) c.number w.number x).memory) × (source_by (get_or os w.number None) ≡ (claim_from f (memory_of ps es os) c.number w.number x).answer)
  unfolding owners_of
  claimed_lists = go (get_or os w.number None) (owned w.number)
    where
      c8 : c.number < 8
      c8 = limited c

      go : (o : Option Core) → holds f es w.number o ≡ true → (memory_of ps (set (taken_by o f es w.number) (seat c.number (slot_of f w.number)) (stored_in w x)) (set (set os w.number None) w.number (Some c)) ≡ (claim_by (owner_number o) f (memory_of ps es os) c.number w.number x).memory) × (source_by o ≡ (claim_by (owner_number o) f (memory_of ps es os) c.number w.number x).answer)
      go None h =
          (same_memory _ _ _ _ _ _ refl (copies_set es c.number (slot_of f w.number) (stored_in w x) (omega (arith, c8)) few) owners_left, refl)
      go (Some d) h =
          let d8 = limited d in
          let e = turned (get_or es (seat d.number (slot_of f w.number)) empty) Taken in
          let es₁ = set es (seat d.number (slot_of f w.number)) e in
          let in₁ : seat c.number (slot_of f w.number) < length es₁ = rw length-set (omega (arith, c8)) in
          let two : copies_of (set es₁ (seat c.number (slot_of f w.number)) (stored_in w x)) ≡ upd2 (upd2 (copies_of es) d.number (slot_of f w.number) invalid) c.number (slot_of f w.number) (registered w.number x) = copies_set es₁ c.number (slot_of f w.number) (stored_in w x) in₁ few ∙ ap (λ (t : ℕ → ℕ → Copy). upd2 t c.number (slot_of f w.number) (registered w.number x)) (copies_set es d.number (slot_of f w.number) e (omega arith) few ∙ ap (upd2 (copies_of es) d.number (slot_of f w.number)) (taken_copy (get_or es (seat d.number (slot_of f w.number)) empty))) in
          let put : claim_by (Some d.number) f (memory_of ps es os) c.number w.number x ≡ claimed 2 f (with_copy (memory_of ps es os) d.number (slot_of f w.number) invalid) c.number w.number x = cond-false (eqb d.number c.number) _ _ (other d h) in
          (same_memory _ _ _ _ _ _ refl two owners_left ∙ ap (λ (k : Put). k.memory) (sym put), ap (λ (k : Put). k.answer) (sym put))

-- the three steps of a claim, by what each leaves: figures f as it began, g after the write back
pub claim_steps : (f g : Five) (m : Memory) (ps pt ps' : List Word) (es et es' : List Entry) (os ot os' : List (Option Core)) (at : Seat) (c : ℕ) (w : Place) (answer : ℕ) (x : Word) → g ≡ f → at.core.number ≡ c → at.slot.number ≡ slot_of f w.number → length es ≡ 512 → length os ≡ 4096 → Owned g es os → is_registered (get_or es (index_of at) empty).state ≡ false → memory_of ps es os ≡ write_back m at.core.number at.slot.number → answer ≡ source_by (get_or os w.number None) → pt ≡ ps → et ≡ taken_by (get_or os w.number None) g es w.number → ot ≡ set os w.number None → ps' ≡ pt → es' ≡ set et (index_of at) (stored_in w x) → os' ≡ set ot w.number (Some at.core) → record { answer : answer ≡ (claim f m c w.number x).answer; after : memory_of ps' es' os' ≡ (claim f m c w.number x).memory }
claim_steps f g m ps pt ps' es et es' os ot os' at c w answer x gf cf sf caches words owned idle made ae pe ee oe pe' ee' oe' =
    let k = at.core.number in
    let here : index_of at ≡ seat k (slot_of f w.number) = ap (seat k) sf in
    let fw : slot_of f w.number < 64 = rw (sym sf) (limited at.slot) in
    let idle_f : is_registered (get_or es (seat k (slot_of f w.number)) empty).state ≡ false = ap (λ (j : ℕ). is_registered (get_or es j empty).state) (sym here) ∙ idle in
    let owned_f : Owned f es os = rw (sym gf) owned in
    let base : memory_of ps es os ≡ write_back m k (slot_of f w.number) = made ∙ ap (write_back m k) sf in
    let both = claimed_lists f ps es os at.core w x fw caches (omega (arith, words, limited w)) owned_f idle_f in
    let et_f : et ≡ taken_by (get_or os w.number None) f es w.number = ee ∙ ap (λ (j : Five). taken_by (get_or os w.number None) j es w.number) gf in
    let es_f : es' ≡ set (taken_by (get_or os w.number None) f es w.number) (seat k (slot_of f w.number)) (stored_in w x) = ee' ∙ ap (λ (j : ℕ). set et j (stored_in w x)) here ∙ ap (λ (l : List Entry). set l (seat k (slot_of f w.number)) (stored_in w x)) et_f in
    let os_f : os' ≡ set (set os w.number None) w.number (Some at.core) = oe' ∙ ap (λ (l : List (Option Core)). set l w.number (Some at.core)) oe in
    record {
      answer =
          ae ∙ (both.1 ∙ (ap (λ (n : Memory). (claim_from f n k w.number x).answer) base ∙ ap (λ (j : ℕ). (claim f m j w.number x).answer) cf));
      after =
          same_memory _ _ _ _ _ _ (pe' ∙ pe) (ap copies_of es_f) (ap owners_of os_f)
          ∙ (both.0 ∙ (ap (λ (n : Memory). (claim_from f n k w.number x).memory) base ∙ ap (λ (j : ℕ). (claim f m j w.number x).memory) cf));
    }

-- the registered copy of a word is an entry that counts for it
pub counted_from : (w : ℕ) (e : Entry) → counts (of_word w (copy_in e)) ≡ true → counts_for w e ≡ true
counted_from w e h = go e.state h
  where
    none : {P : Type 0} → ◌≡◌ {A = Bool} false true → P
    none z = let no_way : ⊥ = both_ways true (sym z) refl in absurd no_way

    own : (b : Bool) → eqb e.place.number w ≡ b → (k : Copy) → counts (cond b k invalid) ≡ true → eqb e.place.number w ≡ true
    own true e k h = e
    own false e k h = none h

    go : (s : State) → counts (of_word w (copy_by s e.place.number e.word)) ≡ true → (is_registered s && eqb e.place.number w) ≡ true
    go Invalid t = none t
    go Valid t = none (sym (idle (eqb e.place.number w)) ∙ t)
      where
        idle : (b : Bool) → counts (cond b (valid e.place.number e.word) invalid) ≡ false
        idle true = refl
        idle false = refl
    go Registered t = own (eqb e.place.number w) refl (registered e.place.number e.word) t

-- the same, by core and slot
pub counted_at : (f : Five) (ps : List Word) (es : List Entry) (os : List (Option Core)) (c w : ℕ) → slot_of f w < 64 → counts (copy_of f (memory_of ps es os) c w) ≡ true → counts_for w (get_or es (seat c (slot_of f w)) empty) ≡ true
counted_at f ps es os c w few h =
    counted_from w (get_or es (seat c (slot_of f w)) empty) (ap (λ (k : Copy). counts (of_word w k)) (sym (copies_at es c (slot_of f w) few)) ∙ h)

-- a registered copy in a slot, as the rules see it
pub stored_at : (f : Five) (ps : List Word) (es : List Entry) (os : List (Option Core)) (c : ℕ) (w : Place) (at : ℕ) (x : Word) → slot_of f w.number < 64 → at ≡ seat c (slot_of f w.number) → at < length es → memory_of ps (set es at (stored_in w x)) os ≡ with_copy (memory_of ps es os) c (slot_of f w.number) (registered w.number x)
stored_at f ps es os c w at x few seated inside =
    let in_f : seat c (slot_of f w.number) < length es = rw (sym seated) inside in
    same_memory _ _ _ _ _ _ refl (ap (λ (k : ℕ). copies_of (set es k (stored_in w x))) seated ∙ copies_set es c (slot_of f w.number) (stored_in w x) in_f few) refl

-- a copy changed twice
upd2_twice : (t : ℕ → ℕ → Copy) (c i : ℕ) (a b : Copy) → upd2 (upd2 t c i a) c i b ≡ upd2 t c i b
upd2_twice t c i a b = λ k q j. at q j k
  where
    at : (q j : ℕ) → upd2 (upd2 t c i a) c i b q j ≡ upd2 t c i b q j
    at q j =
        ⊎_elim
        (λ p. p.2 ∙ sym (upd2_same p.0 p.1))
        (λ p. p.1 ∙ (upd2_other a p.0 ∙ sym (upd2_other b p.0)))
        (upd2_cases (upd2 t c i a) c i b q j)
      where
        upd2_same : q ≡ c → j ≡ i → upd2 t c i b q j ≡ b
        upd2_same x y = ⊎_elim (λ p. p.2) (λ p. absurd (p.0 x y)) (upd2_cases t c i b q j)

        upd2_other : (d : Copy) → ((q ≡ c) → (j ≡ i) → ⊥) → upd2 t c i d q j ≡ t q j
        upd2_other d apart = ⊎_elim (λ p. absurd (apart p.0 p.1)) (λ p. p.1) (upd2_cases t c i d q j)

-- an entry that is given up
pub cleared : (ps : List Word) (es : List Entry) (os : List (Option Core)) (c i : ℕ) → seat c i < length es → i < 64 → (get_or es (seat c i) empty).place.number < length os → memory_of (page_after (done_by (get_or es (seat c i) empty).state Evict) (get_or es (seat c i) empty) ps) (set es (seat c i) (turned (get_or es (seat c i) empty) Evict)) (owners_after (done_by (get_or es (seat c i) empty).state Evict) (get_or es (seat c i) empty) os) ≡ with_copy (write_back (memory_of ps es os) c i) c i invalid
cleared ps es os c i inside few fits =
    go was.state ∙ ap (λ (k : Copy). with_copy (write_back_by k (memory_of ps es os) c i) c i invalid) (sym (copies_at es c i few))
  where
    was : Entry
    was = get_or es (seat c i) empty

    gone : Entry
    gone = record { state = Invalid; place = was.place; word = was.word }

    go : (s : State) → memory_of (page_after (done_by s Evict) was ps) (set es (seat c i) (record { state = state_after s Evict; place = was.place; word = was.word })) (owners_after (done_by s Evict) was os) ≡ with_copy (write_back_by (copy_by s was.place.number was.word) (memory_of ps es os) c i) c i invalid
    go Invalid = same_memory _ _ _ _ _ _ refl (copies_set es c i gone inside few) refl
    go Valid = same_memory _ _ _ _ _ _ refl (copies_set es c i gone inside few) refl
    go Registered =
        same_memory _ _ _ _ _ _ refl
        (copies_set es c i gone inside few ∙ sym (upd2_twice (copies_of es) c i (valid was.place.number was.word) invalid))
        (owners_set os was.place.number None fits)

-- the same, of the lists that a turn of a memory leaves
pub cleared_after : {P : Type 0} (words : P → List Word) (m : Tables P) (ps : List Word) (es : List Entry) (os : List (Option Core)) (at : Seat) → ps ≡ page_after (done_by (get_or m.entries (index_of at) empty).state Evict) (get_or m.entries (index_of at) empty) (words m.page) → es ≡ set m.entries (index_of at) (turned (get_or m.entries (index_of at) empty) Evict) → os ≡ owners_after (done_by (get_or m.entries (index_of at) empty).state Evict) (get_or m.entries (index_of at) empty) m.owners → memory_of ps es os ≡ with_copy (write_back (view words m) at.core.number at.slot.number) at.core.number at.slot.number invalid
cleared_after words m ps es os at a b d =
    same_memory _ _ _ _ _ _ a (ap copies_of b) (ap owners_of d)
    ∙ cleared (words m.page) m.entries m.owners at.core.number at.slot.number (omega (arith, m.caches, seat_below at)) (limited at.slot) (omega (arith, m.words, limited (get_or m.entries (index_of at) empty).place))
