-- What a write to the entries or to the owners is to the rules: a table changed at one place. With that a turn of an entry
-- that is to be settled is the rules' write back. Assumes nothing.
use Rattle.std.proofs.Common.{◌≡◌, ℕ, ◌<◌, ◌≤◌, Bool, true, false, cond, eqb, ltb, leb, ◌≢◌, List, length, get_or, set, None, Option, sym, refl, ap, ◌∙◌, ⊎_elim, arith}
use Rattle.std.proofs.lemmas.Nat.{mod_below}
use Rattle.std.proofs.lemmas.List.{get_or-set_same, get_or-set_other, get_or_default, set-get_or}
use Rattle.std.proofs.lemmas.Bool.{ltb-true, lt-ltb, leb-true, eqb-true, and_parts, cond-true, cond_both}
use Rattle.word.specs.declared.word.Word.{Word}
use Rattle.call.specs.Figures.{Five, figures, slot_of}
use Rattle.call.specs.declared.figures.Figures.{Figures}
use Rattle.rules.specs.Effects.{write_back, write_back_by}
use Rattle.rules.specs.State.{Copy, invalid, valid, registered, Memory, of_word, copy_of}
use Rattle.rules.specs.Tables.{upd, upd2}
use Rattle.rules.proofs.Tables.{upd_cases, upd2_cases}
use Rattle.memory.specs.Entries.{copy_in, copy_by, empty, turned, state_after, done_by}
use Rattle.memory.specs.Owners.{Core, seat, index_of}
use Rattle.memory.specs.Views.{copies_of, owner_number, owners_of, memory_of, page_after, owners_after, state_for, view}
use Rattle.memory.specs.declared.bounds.Below.{Below}
use Rattle.memory.specs.declared.bounds.Seat.{Seat}
use Rattle.memory.specs.declared.entry.Entry.{Entry}
use Rattle.memory.specs.declared.entry.Event.TheVariants.{Settle}
use Rattle.memory.specs.declared.entry.State.{State}
use Rattle.memory.specs.declared.entry.State.TheVariants.{Invalid, Valid, Registered}
use Rattle.memory.specs.declared.memory.Memory.{Memory as Tables}

-- a core's copy is in its seat
pub copies_at : (es : List Entry) (c i : ℕ) → i < 64 → copies_of es c i ≡ copy_in (get_or es (seat c i) empty)
unfolding copies_of
copies_at es c i h = cond-true (ltb i 64) (copy_in (get_or es (seat c i) empty)) invalid (lt-ltb i 64 h)

-- memories with equal parts are equal
pub same_memory : (p p' : List Word) (c c' : ℕ → ℕ → Copy) (o o' : ℕ → Option ℕ) → p ≡ p' → c ≡ c' → o ≡ o' → ◌≡◌ {A = Memory} (record { page = p; copies = c; owners = o }) (record { page = p'; copies = c'; owners = o' })
same_memory p p' c c' o o' a b d = λ i. record { page = a i; copies = b i; owners = d i }

module _ (es : List Entry) (c i : ℕ) (e : Entry) (inside : seat c i < length es) (few : i < 64) where
  set_at : (q j : ℕ) → copies_of (set es (seat c i) e) q j ≡ upd2 (copies_of es) c i (copy_in e) q j
  unfolding copies_of
  set_at q j =
      ⊎_elim
      (λ p. ap (λ (n : ℕ). copies_of (set es (seat c i) e) n j) p.0 ∙ (ap (copies_of (set es (seat c i) e) c) p.1 ∙ (copies_at (set es (seat c i) e) c i few ∙ (ap copy_in (get_or-set_same es (seat c i) e empty inside) ∙ sym p.2))))
      (λ p. go p (ltb j 64) refl ∙ sym p.1)
      (upd2_cases (copies_of es) c i (copy_in e) q j)
    where
      go : (((q ≡ c) → (j ≡ i) → ⊥) × (upd2 (copies_of es) c i (copy_in e) q j ≡ copies_of es q j)) → (b : Bool) → ltb j 64 ≡ b → cond b (copy_in (get_or (set es (seat c i) e) (seat q j) empty)) invalid ≡ cond b (copy_in (get_or es (seat q j) empty)) invalid
      go p false h = refl
      go p true h =
          let lt = ltb-true j 64 h in
          let apart : seat q j ≢ seat c i = λ z. p.0 (omega arith) (omega arith) in
          ap copy_in (get_or-set_other es (seat c i) (seat q j) e empty apart)

  -- an entry set is a copy changed
  pub copies_set : copies_of (set es (seat c i) e) ≡ upd2 (copies_of es) c i (copy_in e)
  copies_set = λ t q j. set_at q j t

module _ (os : List (Option Core)) (w : ℕ) (o : Option Core) (inside : w < length os) where
  owner_at : (v : ℕ) → owners_of (set os w o) v ≡ upd (owners_of os) w (owner_number o) v
  unfolding owners_of
  owner_at v =
      ⊎_elim
      (λ p. ap (λ (n : ℕ). owner_number (get_or (set os w o) n None)) p.0 ∙ (ap owner_number (get_or-set_same os w o None inside) ∙ sym p.1))
      (λ p. ap owner_number (get_or-set_other os w v o None p.0) ∙ sym p.1)
      (upd_cases (owners_of os) w (owner_number o) v)

  -- an owner set is the table of owners changed
  pub owners_set : owners_of (set os w o) ≡ upd (owners_of os) w (owner_number o)
  owners_set = λ t v. owner_at v t

-- an entry left as it is
pub left_same : (es : List Entry) (at : ℕ) (s : State) → (get_or es at empty).state ≡ s → set es at (record { state = s; place = (get_or es at empty).place; word = (get_or es at empty).word }) ≡ es
left_same es at s e =
    ap (λ (t : State). set es at (record { state = t; place = (get_or es at empty).place; word = (get_or es at empty).word })) (sym e)
    ∙ set-get_or es at empty

-- a settled entry is written back
pub settled : (ps : List Word) (es : List Entry) (os : List (Option Core)) (c i : ℕ) → seat c i < length es → i < 64 → (get_or es (seat c i) empty).place.number < length os → memory_of (page_after (done_by (get_or es (seat c i) empty).state Settle) (get_or es (seat c i) empty) ps) (set es (seat c i) (turned (get_or es (seat c i) empty) Settle)) (owners_after (done_by (get_or es (seat c i) empty).state Settle) (get_or es (seat c i) empty) os) ≡ write_back (memory_of ps es os) c i
settled ps es os c i inside few fits =
    go was.state refl ∙ ap (λ (k : Copy). write_back_by k (memory_of ps es os) c i) (sym (copies_at es c i few))
  where
    was : Entry
    was = get_or es (seat c i) empty

    go : (s : State) → was.state ≡ s → memory_of (page_after (done_by s Settle) was ps) (set es (seat c i) (record { state = state_after s Settle; place = was.place; word = was.word })) (owners_after (done_by s Settle) was os) ≡ write_back_by (copy_by s was.place.number was.word) (memory_of ps es os) c i
    go Invalid e =
        same_memory ps ps _ (copies_of es) (owners_of os) (owners_of os) refl (ap copies_of (left_same es (seat c i) Invalid e)) refl
    go Valid e =
        same_memory ps ps _ (copies_of es) (owners_of os) (owners_of os) refl (ap copies_of (left_same es (seat c i) Valid e)) refl
    go Registered e =
        same_memory _ _ _ _ _ _ refl (copies_set es c i (record { state = Valid; place = was.place; word = was.word }) inside few) (owners_set os was.place.number None fits)

-- the seat of a core and a slot
pub seated : (at : Seat) (c i : ℕ) → at.core.number ≡ c → at.slot.number ≡ i → index_of at ≡ seat c i
seated at c i a b = ap (λ (k : ℕ). seat k at.slot.number) a ∙ ap (seat c) b

-- a number below a limit
pub limited : {limit : ℕ} (n : Below limit) → n.number < limit
limited {limit = limit} n = ltb-true n.number limit n.within

-- a seat is one of 512
pub seat_below : (at : Seat) → index_of at < 512
seat_below at = omega (arith, limited at.core, limited at.slot)

-- the same, of the lists that a turn of a memory leaves
pub settled_after : {P : Type 0} (words : P → List Word) (m : Tables P) (ps : List Word) (es : List Entry) (os : List (Option Core)) (at : Seat) → ps ≡ page_after (done_by (get_or m.entries (index_of at) empty).state Settle) (get_or m.entries (index_of at) empty) (words m.page) → es ≡ set m.entries (index_of at) (turned (get_or m.entries (index_of at) empty) Settle) → os ≡ owners_after (done_by (get_or m.entries (index_of at) empty).state Settle) (get_or m.entries (index_of at) empty) m.owners → memory_of ps es os ≡ write_back (view words m) at.core.number at.slot.number
settled_after words m ps es os at a b d =
    same_memory _ _ _ _ _ _ a (ap copies_of b) (ap owners_of d)
    ∙ settled (words m.page) m.entries m.owners at.core.number at.slot.number (omega (arith, m.caches, seat_below at)) (limited at.slot) (omega (arith, m.words, limited (get_or m.entries (index_of at) empty).place))

-- an entry looked at for a word
pub copy_for : (w : ℕ) (e : Entry) → of_word w (copy_in e) ≡ copy_by (state_for w e) w e.word
copy_for w e = go e.state (eqb e.place.number w) refl
  where
    go : (s : State) (b : Bool) → eqb e.place.number w ≡ b → of_word w (copy_by s e.place.number e.word) ≡ copy_by (cond (eqb e.place.number w) s Invalid) w e.word
    go Invalid b h = ap (λ (s : State). copy_by s w e.word) (sym (cond_both (eqb e.place.number w) Invalid Invalid (λ s. s ≡ Invalid) (λ _. refl) (λ _. refl)))
    go Valid true h = rw h (ap (λ (n : ℕ). valid n e.word) (eqb-true e.place.number w h))
    go Valid false h = rw h refl
    go Registered true h = rw h (ap (λ (n : ℕ). registered n e.word) (eqb-true e.place.number w h))
    go Registered false h = rw h refl

-- the copy of a word in a core's cache
pub copy_found : (f : Five) (ps : List Word) (es : List Entry) (os : List (Option Core)) (c w at : ℕ) (d : Entry) (s : State) → slot_of f w < 64 → at ≡ seat c (slot_of f w) → at < length es → s ≡ state_for w (get_or es at d) → copy_of f (memory_of ps es os) c w ≡ copy_by s w (get_or es at d).word
copy_found f ps es os c w at d s few seated inside is =
    ap (of_word w) (copies_at es c (slot_of f w) few ∙ ap copy_in (ap (λ (k : ℕ). get_or es k empty) (sym seated) ∙ get_or_default es at empty d inside))
    ∙ (copy_for w (get_or es at d) ∙ ap (λ (t : State). copy_by t w (get_or es at d).word) (sym is))

-- checked figures have 64 slots and 8 cores at most
pub slots_most : (f : Figures) → (figures f).slots ≤ 64
slots_most f = leb-true f.slots 64 (and_parts (leb 1 f.slots) (leb f.slots 64) f.slots_pass).1

pub cores_most : (f : Figures) → (figures f).cores ≤ 8
cores_most f = leb-true f.cores 8 (and_parts (leb 1 f.cores) (leb f.cores 8) f.cores_pass).1

-- a slot is one of 64
pub slot_below : (f : Figures) (w : ℕ) → slot_of (figures f) w < 64
slot_below f w =
    let parts = and_parts (leb 1 f.slots) (leb f.slots 64) f.slots_pass in
    let some = leb-true 1 f.slots parts.0 in
    omega (arith, leb-true f.slots 64 parts.1, mod_below w f.slots some)
