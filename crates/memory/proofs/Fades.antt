-- The end of a phase goes through all entries, and what it leaves of each is what the rules leave of its copy. Registered
-- entries stay, so every owner still holds its word. Assumes nothing.
use Rattle.std.proofs.Common.{◌≡◌, ℕ, zero, suc, ◌+◌, ◌<◌, ◌≤◌, Bool, true, false, cond, ◌&&◌, ltb, List, [], ◌∷◌, ◌++◌, map, length, get_or, set, Option, sym, refl, ap, ◌∙◌, add-one, arith, below_more}
use Rattle.std.proofs.lemmas.List.{length-map, length-set, get_or-set_same, get_or-set_other, get_or_default, ext_get_or}
use Rattle.std.specs.Int.{from_bool}
use Rattle.word.specs.declared.word.Word.{Word}
use Rattle.call.specs.Figures.{Five}
use Rattle.rules.specs.Effects as effect
use Rattle.rules.specs.Effects.{Place, places, tally, dropped, faded}
use Rattle.rules.specs.State.{invalid, valid, registered}
use Rattle.memory.specs.Entries.{copy_in, copy_by, empty, turned, state_after, done_by, is_dropped}
use Rattle.memory.specs.Modes.{goes, left_by, drops}
use Rattle.memory.specs.Owners.{Core, seat}
use Rattle.memory.specs.Views.{copies_of, memory_of}
use Rattle.memory.specs.Walks.{place_at, within, walked}
use Rattle.memory.specs.declared.entry.Entry.{Entry}
use Rattle.memory.specs.declared.entry.Event.TheVariants.{Fade}
use Rattle.memory.specs.declared.entry.State.{State}
use Rattle.memory.specs.declared.entry.State.TheVariants.{Invalid, Valid, Registered}
use Rattle.memory.proofs.Settles.{copy_at}
use Rattle.memory.proofs.Views.{same_memory}
use Rattle.memory.proofs.Walks.{walked_in, walked_past, tally_more, one_of, one_most}

module _ (f : Five) (plan : ℕ) where
  -- what is left of an entry is what is left of its copy
  left_copy : (e : Entry) → copy_in (left_by f plan e) ≡ faded f plan (copy_in e)
  left_copy e = shape (goes f plan e.place.number) ∙ go e.state
    where
      shape : (b : Bool) → copy_in (cond b (turned e Fade) e) ≡ copy_by (cond b (state_after e.state Fade) e.state) e.place.number e.word
      shape true = refl
      shape false = refl

      go : (s : State) → copy_by (cond (goes f plan e.place.number) (state_after s Fade) s) e.place.number e.word ≡ faded f plan (copy_by s e.place.number e.word)
      go Invalid = same (goes f plan e.place.number)
        where
          same : (b : Bool) → copy_by (cond b Invalid Invalid) e.place.number e.word ≡ invalid
          same true = refl
          same false = refl
      go Valid = same (goes f plan e.place.number)
        where
          same : (b : Bool) → copy_by (cond b Invalid Valid) e.place.number e.word ≡ cond b invalid (valid e.place.number e.word)
          same true = refl
          same false = refl
      go Registered = same (goes f plan e.place.number)
        where
          same : (b : Bool) → copy_by (cond b Registered Registered) e.place.number e.word ≡ registered e.place.number e.word
          same true = refl
          same false = refl

  -- what is counted of an entry is what is counted of its copy
  drops_copy : (e : Entry) → drops f plan e ≡ dropped f plan (copy_in e)
  drops_copy e = go e.state
    where
      none : (b : Bool) → (b && false) ≡ false
      none true = refl
      none false = refl

      all : (b : Bool) → (b && true) ≡ b
      all true = refl
      all false = refl

      go : (s : State) → (goes f plan e.place.number && is_dropped (done_by s Fade)) ≡ dropped f plan (copy_by s e.place.number e.word)
      go Invalid = none (goes f plan e.place.number)
      go Valid = all (goes f plan e.place.number)
      go Registered = none (goes f plan e.place.number)

  left_empty : left_by f plan empty ≡ empty
  left_empty = go (goes f plan 0)
    where
      go : (b : Bool) → cond b (turned empty Fade) empty ≡ empty
      go true = refl
      go false = refl

  at_left : (es : List Entry) (k : ℕ) → get_or (map (left_by f plan) es) k empty ≡ left_by f plan (get_or es k empty)
  at_left [] k = sym left_empty
  at_left (e ∷ es) zero = refl
  at_left (e ∷ es) (suc k) = at_left es k

  faded_at : (es : List Entry) (c i : ℕ) → copies_of (map (left_by f plan) es) c i ≡ faded f plan (copies_of es c i)
  unfolding copies_of
  faded_at es c i = go (ltb i 64)
    where
      go : (b : Bool) → cond b (copy_in (get_or (map (left_by f plan) es) (seat c i) empty)) invalid ≡ faded f plan (cond b (copy_in (get_or es (seat c i) empty)) invalid)
      go true = ap copy_in (at_left es (seat c i)) ∙ left_copy (get_or es (seat c i) empty)
      go false = refl

  -- the memory after the end of a phase
  pub faded_memory : (ps : List Word) (es es' : List Entry) (os : List (Option Core)) → es' ≡ map (left_by f plan) es → memory_of ps es' os ≡ (effect.fade f plan (memory_of ps es os)).memory
  faded_memory ps es es' os e =
      same_memory _ _ _ _ _ _ refl (ap copies_of e ∙ (λ t c i. faded_at es c i t)) refl

  abbrev test : List Entry → Place → Bool
  test es p = dropped f plan (copies_of es p.core p.slot)

  -- what holds when the walk has come to an entry: es as it began, fs now
  pub record Fading (es fs : List Entry) (at count : ℕ) : Type 0 where
    pub done : (k : ℕ) → k < at → get_or fs k empty ≡ left_by f plan (get_or es k empty)
    pub rest : (k : ℕ) → at ≤ k → get_or fs k empty ≡ get_or es k empty
    pub counted : count ≡ tally (test es) (walked f at)
    pub small : count ≤ at
    pub long : length fs ≡ length es

  pub fading_none : (es : List Entry) → Fading es es 0 0
  unfolding walked
  fading_none es = record { done = λ k h. absurd (omega arith); rest = λ k h. refl; counted = refl; small = omega arith; long = refl }

  pub fading_more : (es fs : List Entry) (at count : ℕ) (gone : Bool) (held d : Entry) → at < length es → held ≡ left_by f plan (get_or fs at d) → gone ≡ (drops f plan (get_or fs at d) && within f at) → Fading es fs at count → Fading es (set fs at held) (at + 1) (count + from_bool gone)
  fading_more es fs at count gone held d inside he ge s =
      record {
        done =
            below_more _ _
            (λ k h. get_or-set_other fs at k held empty (λ e. omega arith) ∙ s.done k h)
            (get_or-set_same fs at held empty in_fs ∙ (he ∙ ap (left_by f plan) now));
        rest = λ k h. get_or-set_other fs at k held empty (λ e. omega arith) ∙ s.rest k (omega arith);
        counted = ap (λ (n : ℕ). count + n) told ∙ rw add-one (go (within f at) refl);
        small = omega (arith, s.small, one_most gone);
        long = length-set fs at held ∙ s.long;
      }
    where
      in_fs : at < length fs
      in_fs = omega (arith, s.long)

      now : get_or fs at d ≡ get_or es at empty
      now = get_or_default fs at d empty in_fs ∙ s.rest at (omega arith)

      told : from_bool gone ≡ cond {A = ℕ} (test es (place_at at) && within f at) 1 0
      told =
          one_of gone ∙ ap (λ (b : Bool). cond {A = ℕ} b 1 0) ge
          ∙ ap (λ (b : Bool). cond {A = ℕ} (b && within f at) 1 0) (ap (drops f plan) now ∙ (drops_copy (get_or es at empty) ∙ ap (dropped f plan) (sym (copy_at es at))))

      only : (b : Bool) → (b && true) ≡ b
      only true = refl
      only false = refl

      never : (b : Bool) → (b && false) ≡ false
      never true = refl
      never false = refl

      go : (b : Bool) → within f at ≡ b → count + cond {A = ℕ} (test es (place_at at) && within f at) 1 0 ≡ tally (test es) (walked f (suc at))
      go true e =
          let one : cond {A = ℕ} (test es (place_at at) && within f at) 1 0 ≡ cond {A = ℕ} (test es (place_at at)) 1 0 = ap (λ (b : Bool). cond {A = ℕ} (test es (place_at at) && b) 1 0) e ∙ ap (λ (b : Bool). cond {A = ℕ} b 1 0) (only (test es (place_at at))) in
          let grown = tally_more (test es) (walked f at) (place_at at) in
          let walk : tally (test es) (walked f (suc at)) ≡ tally (test es) (walked f at ++ (place_at at ∷ [])) = ap (tally (test es)) (walked_in f at e) in
          omega (arith, s.counted, grown, walk, one)
      go false e =
          let nil : cond {A = ℕ} (test es (place_at at) && within f at) 1 0 ≡ 0 = ap (λ (b : Bool). cond {A = ℕ} (test es (place_at at) && b) 1 0) e ∙ ap (λ (b : Bool). cond {A = ℕ} b 1 0) (never (test es (place_at at))) in
          let walk : tally (test es) (walked f (suc at)) ≡ tally (test es) (walked f at) = ap (tally (test es)) (walked_past f at e) in
          omega (arith, s.counted, walk, nil)

  pub fading_all : (es fs : List Entry) (at count : ℕ) → at ≡ 512 → length es ≡ 512 → Fading es fs at count → fs ≡ map (left_by f plan) es
  fading_all es fs at count e long s =
      ext_get_or empty fs (map (left_by f plan) es) (s.long ∙ sym (length-map es (left_by f plan)))
      (λ k h. s.done k (omega (arith, s.long)) ∙ sym (at_left es k))
