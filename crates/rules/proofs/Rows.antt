-- Each row of the rules keeps page, caches and owners sound, and a load gives the word that the history says.
-- A load, a store or a write back is made of the small steps of Memories.antt; settle is the write back of each place in
-- turn, and after it no word has an owner. Assumes nothing.
use Rattle.std.proofs.Common.{◌≡◌, ℕ, ◌<◌, Bool, true, false, cond, eqb, length, Some, None, Option, sym, refl, ap, ◌∙◌, subst, arith, length-set}
use Rattle.std.proofs.lemmas.Bool.{eq-eqb, eqb-true, cond-true}
use Rattle.std.proofs.lemmas.Bool.Decides.{nat_tests}
use Rattle.call.specs.Figures.{Five, slot_of}
use Rattle.word.specs.declared.word.Word.{Word}
use Rattle.rules.specs.Effects as effect
use Rattle.rules.specs.Effects.{Got, Put, Place, with_copy, write_back, write_back_by, word_in, fetch, fetch_into, fetch_by, load_row, hit, claim, claim_from, claim_by, store_row, evict_row, places, dropped, faded}
use Rattle.rules.specs.State.{Copy, invalid, valid, registered, Memory, page_word, of_word, copy_of}
use Rattle.rules.specs.Tables.{upd}
use Rattle.rules.proofs.Memories.{Sound, Unregistered, Loose, write_back_sound, write_back_clears, dropped_sound, filled_sound, loose_unowned, loose_taken, claimed_sound, stored_stands, stored_seen}
use Rattle.rules.proofs.Tables.{upd_cases, upd2_cases}

-- the page keeps its length
abbrev pub SameLength : Memory → Memory → Type 0
SameLength m n = length n.page ≡ length m.page

pub write_back_length : (m : Memory) (c i : ℕ) → SameLength m (write_back m c i)
write_back_length m c i = go (m.copies c i)
  where
    go : (k : Copy) → SameLength m (write_back_by k m c i)
    go (registered w x) = length-set m.page w x
    go _ = refl

-- a copy of the word itself
pub of_word_same : (w : ℕ) (k : Copy) (x : Word) → k ≡ registered w x → of_word w k ≡ registered w x
of_word_same w k x e = ap (of_word w) e ∙ cond-true (eqb w w) (registered w x) invalid (eq-eqb w w refl)

-- what a look-up finds is in the slot
pub found_registered : (w v : ℕ) (k : Copy) (x : Word) → of_word w k ≡ registered v x → k ≡ registered w x
found_registered w v k x e = grind (arith, nat_tests)

pub found_valid : (w v : ℕ) (k : Copy) (x : Word) → of_word w k ≡ valid v x → k ≡ valid w x
found_valid w v k x e = grind (arith, nat_tests)

module _ (f : Five) (now : ℕ → Word) (stale : ℕ → ℕ → Type 0) where
  -- a load gives the word as it is now, and leaves all sound
  pub record Loads (m : Memory) (word : ℕ) (got : Got) : Type 0 where
    pub fresh : got.word ≡ now word
    pub sound : Sound f now stale got.memory
    pub long : SameLength m got.memory

  filled_loads : (m n : Memory) (core word : ℕ) (x : Word) (source : ℕ) → x ≡ now word → Unregistered n core (slot_of f word) → SameLength m n → Sound f now stale n → Loads m word (effect.filled f n core word x source)
  filled_loads m n core word x source e free len s =
      record {
        fresh = e;
        sound = subst (λ (y : Word). Sound f now stale (with_copy n core (slot_of f word) (valid word y))) (sym e) (filled_sound f now stale n core (slot_of f word) free s word);
        long = len;
      }

  fetch_into_loads : (m n : Memory) (core word : ℕ) → Unregistered n core (slot_of f word) → SameLength m n → Sound f now stale n → Loads m word (fetch_into f n core word)
  fetch_into_loads m n core word free len s = go (n.owners word) refl
    where
      go : (o : Option ℕ) → n.owners word ≡ o → Loads m word (fetch_by o f n core word)
      go None e = filled_loads m n core word (page_word n word) 1 (s.home word e) free len s
      go (Some d) e =
          let k : copy_of f n d word ≡ registered word (now word) = of_word_same word (n.copies d (slot_of f word)) (now word) (s.owned word d e) in
          filled_loads m n core word (word_in (copy_of f n d word) (page_word n word)) 2 (ap (λ (y : Copy). word_in y (page_word n word)) k) free len s

  fetch_loads : (m : Memory) (core word : ℕ) → Sound f now stale m → Loads m word (fetch f m core word)
  fetch_loads m core word s =
      fetch_into_loads m (write_back m core (slot_of f word)) core word (write_back_clears f now stale m core (slot_of f word) s) (write_back_length m core (slot_of f word)) (write_back_sound f now stale m core (slot_of f word) s)

  pub load_loads : (m : Memory) (again : Bool) (core word : ℕ) → Sound f now stale m → ((x : Word) → m.copies core (slot_of f word) ≡ valid word x → again ≡ false → x ≡ now word) → Loads m word (effect.load f m again core word)
  load_loads m again core word s kept = go (copy_of f m core word) refl
    where
      go_valid : (v : ℕ) (x : Word) (t : Bool) → again ≡ t → copy_of f m core word ≡ valid v x → Loads m word (cond t (fetch f m core word) (hit m x))
      go_valid v x true _ e = fetch_loads m core word s
      go_valid v x false a e = record { fresh = kept x (found_valid word v (m.copies core (slot_of f word)) x e) a; sound = s; long = refl }

      go : (k : Copy) → copy_of f m core word ≡ k → Loads m word (load_row k again f m core word)
      go invalid e = fetch_loads m core word s
      go (valid v x) e = go_valid v x again refl e
      go (registered v x) e =
          let here = found_registered word v (m.copies core (slot_of f word)) x e in
          let own = s.owned word core (s.mine core (slot_of f word) word x here) in
          let same : registered word x ≡ registered word (now word) = sym here ∙ own in
          let equal : x ≡ now word = cc in
          record { fresh = equal; sound = s; long = refl }

  -- evict leaves all sound
  pub record Keeps (m : Memory) (p : Put) : Type 0 where
    pub sound : Sound f now stale p.memory
    pub long : SameLength m p.memory

  pub evict_keeps : (m : Memory) (core word : ℕ) → Sound f now stale m → Keeps m (effect.evict f m core word)
  evict_keeps m core word s = go (copy_of f m core word) refl
    where
      go : (k : Copy) → copy_of f m core word ≡ k → Keeps m (evict_row k f m core word)
      go invalid e = record { sound = s; long = refl }
      go (valid v x) e =
          let here = found_valid word v (m.copies core (slot_of f word)) x e in
          let free : Unregistered m core (slot_of f word) = λ w y h. cc (sym here ∙ h) in
          record { sound = dropped_sound f now stale m core (slot_of f word) free s; long = refl }
      go (registered v x) e =
          record { sound = dropped_sound f now stale (write_back m core (slot_of f word)) core (slot_of f word) (write_back_clears f now stale m core (slot_of f word) s) (write_back_sound f now stale m core (slot_of f word) s); long = write_back_length m core (slot_of f word) }

module _ (f : Five) (now : ℕ → Word) (stale worse : ℕ → ℕ → Type 0) (more : (c w : ℕ) → stale c w → worse c w) (core word : ℕ) (x : Word) (others : (c : ℕ) → (c ≡ core → ⊥) → worse c word) (below : core < f.cores) where
  -- a store leaves all sound, the word being as it stored it
  claimed_keeps : (m n : Memory) (answer : ℕ) → word < length n.page → SameLength m n → Unregistered n core (slot_of f word) → Loose f now stale word n → Keeps f (upd now word x) worse m (effect.claimed answer f n core word x)
  claimed_keeps m n answer within len free s =
      record { sound = claimed_sound f now stale word n core x worse more others below within free s; long = len }

  claim_from_keeps : (m n : Memory) → word < length n.page → SameLength m n → Unregistered n core (slot_of f word) → Sound f now stale n → Keeps f (upd now word x) worse m (claim_from f n core word x)
  claim_from_keeps m n within len free s = go (n.owners word) refl
    where
      taken : (d : ℕ) (t : Bool) → eqb d core ≡ t → n.owners word ≡ Some d → Keeps f (upd now word x) worse m (cond t (effect.claimed 1 f n core word x) (effect.claimed 2 f (with_copy n d (slot_of f word) invalid) core word x))
      taken d true e own =
          let same = eqb-true d core e in
          let mine : n.copies core (slot_of f word) ≡ registered word (now word) = ap (λ (k : ℕ). n.copies k (slot_of f word)) (sym same) ∙ s.owned word d own in
          absurd (free word (now word) mine)
      taken d false e own =
          let still_free : Unregistered (with_copy n d (slot_of f word) invalid) core (slot_of f word) = λ w y h. grind (arith, upd2_cases n.copies d (slot_of f word) invalid core (slot_of f word), free w y) in
          claimed_keeps m (with_copy n d (slot_of f word) invalid) 2 within len still_free (loose_taken f now stale word n d own s)

      go : (o : Option ℕ) → n.owners word ≡ o → Keeps f (upd now word x) worse m (claim_by o f n core word x)
      go None e = claimed_keeps m n 1 within len free (loose_unowned f now stale word n e s)
      go (Some d) e = taken d (eqb d core) refl e

  claim_keeps : (m : Memory) → word < length m.page → Sound f now stale m → Keeps f (upd now word x) worse m (claim f m core word x)
  claim_keeps m within s =
      let len = write_back_length m core (slot_of f word) in
      let still : word < length (write_back m core (slot_of f word)).page = rw len within in
      claim_from_keeps m (write_back m core (slot_of f word)) still len (write_back_clears f now stale m core (slot_of f word) s) (write_back_sound f now stale m core (slot_of f word) s)

  -- a registered copy takes the new word in place
  replaced_keeps : (m : Memory) (y : Word) → m.copies core (slot_of f word) ≡ registered word y → Sound f now stale m → Sound f (upd now word x) worse (with_copy m core (slot_of f word) (registered word x))
  replaced_keeps m y here s =
      record {
        owned = λ w d e. grind (arith, upd_cases now word x w, upd2_cases m.copies core (slot_of f word) (registered word x) d (slot_of f w), s.owned w d e, s.mine core (slot_of f word) word y here);
        mine = λ d j w z e. grind (arith, upd2_cases m.copies core (slot_of f word) (registered word x) d j, s.mine d j w z, s.mine core (slot_of f word) word y here);
        stands = stored_stands f now stale word m core x below (s.stands core (slot_of f word) word y here).inside s.stands;
        home = λ w e. grind (arith, upd_cases now word x w, s.home w e, s.mine core (slot_of f word) word y here);
        seen = stored_seen f now stale word m core x worse more others s.seen;
      }

  pub store_keeps : (m : Memory) → word < length m.page → Sound f now stale m → Keeps f (upd now word x) worse m (effect.store f m core word x)
  store_keeps m within s = go (copy_of f m core word) refl
    where
      go : (k : Copy) → copy_of f m core word ≡ k → Keeps f (upd now word x) worse m (store_row k f m core word x)
      go (registered v y) e =
          record { sound = replaced_keeps m y (found_registered word v (m.copies core (slot_of f word)) y e) s; long = refl }
      go _ e = claim_keeps m within s
