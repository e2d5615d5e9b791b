-- An owner's entry holds its word, registered. That stays so where every entry that counts for a word still counts for it, but
-- for the one word whose owner is set anew; a turn of the table by which an entry counts no more takes the owner from the word.
-- Assumes nothing.
use Rattle.std.proofs.Common.{◌≡◌, ℕ, ◌<◌, true, false, ◌&&◌, eqb, ◌≢◌, List, length, get_or, set, Some, None, Option, sym, refl, ap, ◌∙◌, ⊎_elim, arith}
use Rattle.std.proofs.lemmas.List.{get_or-set_same, get_or-set_other, get_or_default}
use Rattle.std.proofs.lemmas.Bool.{and_parts, cases_eq, eqb-true, both_ways}
use Rattle.call.specs.Figures.{Five, slot_of}
use Rattle.memory.specs.Entries.{empty, turned, state_after, done_by}
use Rattle.memory.specs.Owners.{Core, seat, is_registered, counts_for, holds}
use Rattle.memory.specs.Views.{owners_after}
use Rattle.memory.specs.declared.entry.Done.{Done}
use Rattle.memory.specs.declared.entry.Entry.{Entry}
use Rattle.memory.specs.declared.entry.State.{State}
use Rattle.memory.specs.declared.entry.State.TheVariants.{Invalid, Valid, Registered}
use Rattle.memory.specs.declared.entry.Event.{Event}
use Rattle.memory.specs.declared.entry.Event.TheVariants.{Settle, Evict, Taken, Fade}
use Rattle.memory.proofs.Views.{limited}

abbrev pub Owned : Five → List Entry → List (Option Core) → Type 0
Owned f es os = (word : ℕ) → holds f es word (get_or os word None) ≡ true

-- every entry that counts for a word still counts for it
abbrev pub Kept : ℕ → List Entry → List Entry → Type 0
Kept w es es' = (k : ℕ) → counts_for w (get_or es k empty) ≡ true → counts_for w (get_or es' k empty) ≡ true

pub owned_kept : (f : Five) (es es' : List Entry) (os : List (Option Core)) → ((w : ℕ) → Kept w es es') → Owned f es os → Owned f es' os
owned_kept f es es' os keep owned w = go (get_or os w None) (owned w)
  where
    go : (o : Option Core) → holds f es w o ≡ true → holds f es' w o ≡ true
    go None h = refl
    go (Some c) h = keep w (seat c.number (slot_of f w)) h

-- the owner of one word set anew
pub owned_set : (f : Five) (es es' : List Entry) (os : List (Option Core)) (v : ℕ) (o : Option Core) → v < length os → ((w : ℕ) → w ≢ v → Kept w es es') → holds f es' v o ≡ true → Owned f es os → Owned f es' (set os v o)
owned_set f es es' os v o inside keep here owned w =
    ⊎_elim
    (λ e. ap (λ (u : ℕ). holds f es' u (get_or (set os v o) u None)) e ∙ (ap (holds f es' v) (get_or-set_same os v o None inside) ∙ here))
    (λ ne. ap (holds f es' w) (get_or-set_other os v w o None ne) ∙ go ne (get_or os w None) (owned w))
    (cases_eq w v)
  where
    go : w ≢ v → (p : Option Core) → holds f es w p ≡ true → holds f es' w p ≡ true
    go ne None h = refl
    go ne (Some c) h = keep w ne (seat c.number (slot_of f w)) h

-- one entry set anew
pub kept_set : (es : List Entry) (at : ℕ) (e : Entry) (w : ℕ) → at < length es → (counts_for w (get_or es at empty) ≡ true → counts_for w e ≡ true) → Kept w es (set es at e)
kept_set es at e w inside still k h =
    ⊎_elim
    (λ p. ap (λ (j : ℕ). counts_for w (get_or (set es at e) j empty)) p ∙ (ap (counts_for w) (get_or-set_same es at e empty inside) ∙ still (ap (λ (j : ℕ). counts_for w (get_or es j empty)) (sym p) ∙ h)))
    (λ ne. ap (counts_for w) (get_or-set_other es at k e empty ne) ∙ h)
    (cases_eq k at)

-- an entry that is not registered counts for no word
pub counts_not : (w : ℕ) (e : Entry) → is_registered e.state ≡ false → counts_for w e ≡ true → {P : Type 0} → P
counts_not w e free h =
    let z : ⊥ = both_ways (is_registered e.state) free (and_parts (is_registered e.state) (eqb e.place.number w) h).0 in
    absurd z

-- an entry counts for its own place alone
pub counts_own : (w : ℕ) (e : Entry) → counts_for w e ≡ true → e.place.number ≡ w
counts_own w e h = eqb-true e.place.number w (and_parts (is_registered e.state) (eqb e.place.number w) h).1

-- a turn of the table keeps what an owner holds
pub turn_owned : (f : Five) (es : List Entry) (os : List (Option Core)) (at : ℕ) (event : Event) → at < length es → length os ≡ 4096 → Owned f es os → Owned f (set es at (turned (get_or es at empty) event)) (owners_after (done_by (get_or es at empty).state event) (get_or es at empty) os)
turn_owned f es os at event inside long owned = go (get_or es at empty).state refl event
  where
    was : Entry
    was = get_or es at empty

    left : State → Entry
    left s = record { state = s; place = was.place; word = was.word }

    free : (s : State) → is_registered was.state ≡ false → Owned f (set es at (left s)) os
    free s idle =
        owned_kept f es (set es at (left s)) os (λ w. kept_set es at (left s) w inside (λ h. counts_not w was idle h)) owned

    lost : (s : State) → Owned f (set es at (left s)) (set os was.place.number None)
    lost s =
        owned_set f es (set es at (left s)) os was.place.number None (omega (arith, limited was.place))
        (λ w ne. kept_set es at (left s) w inside (λ h. let z : ⊥ = ne (sym (counts_own w was h)) in absurd z))
        refl
        owned

    go : (s : State) → was.state ≡ s → (event : Event) → Owned f (set es at (left (state_after s event))) (owners_after (done_by s event) was os)
    go Invalid e event = free Invalid (ap is_registered e)
    go Valid e Settle = free Valid (ap is_registered e)
    go Valid e Evict = free Invalid (ap is_registered e)
    go Valid e Taken = free Invalid (ap is_registered e)
    go Valid e Fade = free Invalid (ap is_registered e)
    go Registered e Settle = lost Valid
    go Registered e Evict = lost Invalid
    go Registered e Taken = lost Invalid
    go Registered e Fade =
        owned_kept f es (set es at (left Registered)) os
        (λ w. kept_set es at (left Registered) w inside (λ h. ap (λ (s : State). is_registered s && eqb was.place.number w) (sym e) ∙ h))
        owned

-- the same of what it leaves, by what it did: that is d, which is e in the arm of the code that has come to its end
pub turned_owned : (f : Five) (es es' : List Entry) (os os' : List (Option Core)) (at : ℕ) (x : Entry) (event : Event) (d e : Done) → at < length es → length os ≡ 4096 → Owned f es os → es' ≡ set es at (turned (get_or es at empty) event) → d ≡ done_by (get_or es at empty).state event → d ≡ e → os' ≡ owners_after e (get_or es at x) os → Owned f es' os'
turned_owned f es es' os os' at x event d e inside long owned a told is b =
    let here : get_or es at x ≡ get_or es at empty = get_or_default es at x empty inside in
    let left : os' ≡ owners_after (done_by (get_or es at empty).state event) (get_or es at empty) os = b ∙ (ap (λ (k : Done). owners_after k (get_or es at x) os) (sym is ∙ told) ∙ ap (λ (k : Entry). owners_after (done_by (get_or es at empty).state event) k os) here) in
    rw (a, left) (turn_owned f es os at event inside long owned)
