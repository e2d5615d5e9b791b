-- What every step keeps of page, caches and owners, over the words that the history says: an owner has the word registered
-- as it is now, a word without an owner lies on the page as it is now, and a valid copy is as it is now or may be stale.
-- Each small step keeps it. Assumes nothing.
use Rattle.std.proofs.Common.{◌≡◌, ℕ, ◌<◌, ◌⊎◌, length, get_or, set, Some, None, sym, refl, ap, ◌∙◌, inl, inr, ⊎_elim, arith, length-set}
use Rattle.std.proofs.lemmas.List.{get_or-set_same, get_or-set_other}
use Rattle.call.specs.Figures.{Five, slot_of}
use Rattle.word.specs.declared.word.Word.{Word}
use Rattle.rules.specs.Effects.{with_copy, write_back, write_back_by}
use Rattle.rules.specs.State.{Copy, invalid, valid, registered, Memory, page_word}
use Rattle.word.specs.Words.{blank_word}
use Rattle.rules.specs.Tables.{upd, upd2}
use Rattle.rules.proofs.Tables.{upd_cases, upd2_cases}

-- where a registered copy of a word stands: in the word's slot, of a core, the word being on the page
pub record Stands (f : Five) (size c i w : ℕ) : Type 0 where
  pub placed : i ≡ slot_of f w
  pub inside : w < size
  pub ranged : c < f.cores

pub record Sound (f : Five) (now : ℕ → Word) (stale : ℕ → ℕ → Type 0) (m : Memory) : Type 0 where
  pub owned : (w c : ℕ) → m.owners w ≡ Some c → m.copies c (slot_of f w) ≡ registered w (now w)
  pub mine : (c i w : ℕ) (x : Word) → m.copies c i ≡ registered w x → m.owners w ≡ Some c
  pub stands : (c i w : ℕ) (x : Word) → m.copies c i ≡ registered w x → Stands f (length m.page) c i w
  pub home : (w : ℕ) → m.owners w ≡ None → page_word m w ≡ now w
  pub seen : (c w : ℕ) (x : Word) → m.copies c (slot_of f w) ≡ valid w x → (x ≡ now w) ⊎ stale c w

-- no registered copy in the slot
abbrev pub Unregistered : Memory → ℕ → ℕ → Type 0
Unregistered m c i = (w : ℕ) (x : Word) → m.copies c i ≡ registered w x → ⊥

-- no such copy is registered
abbrev pub Plain : Copy → Type 0
Plain k = (w : ℕ) (x : Word) → k ≡ registered w x → ⊥

-- where a slot took such a copy, a registered copy of the table stood there before
pub was_registered : (t : ℕ → ℕ → Copy) (c i : ℕ) (k : Copy) → Plain k → (d j w : ℕ) (x : Word) → upd2 t c i k d j ≡ registered w x → t d j ≡ registered w x
was_registered t c i k plain d j w x e =
    ⊎_elim (λ p. absurd (plain w x (sym p.2 ∙ e))) (λ p. sym p.1 ∙ e) (upd2_cases t c i k d j)

module _ (f : Five) (now : ℕ → Word) (stale : ℕ → ℕ → Type 0) where
  -- a registered copy written back
  module _ (m : Memory) (c i v : ℕ) (y : Word) (here : m.copies c i ≡ registered v y) (s : Sound f now stale m) where
    abbrev after : Memory
    after = write_back_by (registered v y) m c i

    y_now : y ≡ now v
    y_now =
        let o = s.mine c i v y here in
        let p = (s.stands c i v y here).placed in
        let q = s.owned v c o in
        let r : m.copies c (slot_of f v) ≡ registered v y = ap (λ (j : ℕ). m.copies c j) (sym p) ∙ here in
        cc

    home_after : (w : ℕ) → after.owners w ≡ None → page_word after w ≡ now w
    home_after w e =
        let l = (s.stands c i v y here).inside in
        ⊎_elim
        (λ p. ap (λ (k : ℕ). get_or (set m.page v y) k blank_word) p.0 ∙ get_or-set_same m.page v y blank_word l ∙ (y_now ∙ ap now (sym p.0)))
        (λ p. get_or-set_other m.page v w y blank_word p.0 ∙ s.home w (sym p.1 ∙ e))
        (upd_cases m.owners v None w)

    owned_after : (w d : ℕ) → after.owners w ≡ Some d → after.copies d (slot_of f w) ≡ registered w (now w)
    owned_after w d e = grind (arith, upd_cases m.owners v None w, upd2_cases m.copies c i (valid v y) d (slot_of f w), s.owned w d, here)

    was : (d j w : ℕ) (x : Word) → after.copies d j ≡ registered w x → m.copies d j ≡ registered w x
    was = was_registered m.copies c i (valid v y) (λ w x e. grind arith)

    mine_after : (d j w : ℕ) (x : Word) → after.copies d j ≡ registered w x → after.owners w ≡ Some d
    mine_after d j w x e = grind (arith, upd_cases m.owners v None w, upd2_cases m.copies c i (valid v y) d j, s.mine d j w x, s.mine c i v y here, (s.stands d j w x (was d j w x e)).placed, (s.stands c i v y here).placed)

    stands_after : (d j w : ℕ) (x : Word) → after.copies d j ≡ registered w x → Stands f (length after.page) d j w
    stands_after d j w x e = rw length-set (s.stands d j w x (was d j w x e))

    seen_after : (d w : ℕ) (x : Word) → after.copies d (slot_of f w) ≡ valid w x → (x ≡ now w) ⊎ stale d w
    seen_after d w x e =
        ⊎_elim
        (λ p. let q : valid v y ≡ valid w x = sym p.2 ∙ e in let r : v ≡ w = cc in let t : y ≡ x = cc in inl (sym t ∙ (y_now ∙ ap now r)))
        (λ p. s.seen d w x (sym p.1 ∙ e))
        (upd2_cases m.copies c i (valid v y) d (slot_of f w))

    pub written_sound : Sound f now stale after
    written_sound =
        record { owned = owned_after; mine = mine_after; stands = stands_after; home = home_after; seen = seen_after }

    pub written_unregistered : Unregistered after c i
    written_unregistered w x e = grind (arith, upd2_cases m.copies c i (valid v y) c i)

  pub write_back_sound : (m : Memory) (c i : ℕ) → Sound f now stale m → Sound f now stale (write_back m c i)
  write_back_sound m c i s = go (m.copies c i) refl
    where
      go : (k : Copy) → m.copies c i ≡ k → Sound f now stale (write_back_by k m c i)
      go (registered v y) e = written_sound m c i v y e s
      go _ e = s

  pub write_back_clears : (m : Memory) (c i : ℕ) → Sound f now stale m → Unregistered (write_back m c i) c i
  write_back_clears m c i s = go (m.copies c i) refl
    where
      go : (k : Copy) → m.copies c i ≡ k → Unregistered (write_back_by k m c i) c i
      go (registered v y) e w x h = written_unregistered m c i v y e s w x h
      go _ e w x h = cc (sym e ∙ h)

  -- a slot without a registered copy takes any copy that is not registered, if a valid one is as its word is now
  module _ (m : Memory) (c i : ℕ) (free : Unregistered m c i) (s : Sound f now stale m) where
    owned_free : (w d : ℕ) → m.owners w ≡ Some d → (c ≡ d) → (i ≡ slot_of f w) → ⊥
    owned_free w d e p q = free w (now w) (ap (λ (k : ℕ). m.copies k i) p ∙ (ap (λ (k : ℕ). m.copies d k) q ∙ s.owned w d e))

    taken_sound : (k : Copy) → Plain k → ((w : ℕ) (x : Word) → k ≡ valid w x → x ≡ now w) → Sound f now stale (with_copy m c i k)
    taken_sound k plain fresh =
        record {
          owned = λ w d e. grind (arith, upd2_cases m.copies c i k d (slot_of f w), s.owned w d e, owned_free w d e);
          mine = λ d j w x e. s.mine d j w x (was_registered m.copies c i k plain d j w x e);
          stands = λ d j w x e. s.stands d j w x (was_registered m.copies c i k plain d j w x e);
          home = s.home;
          seen = λ d w x e. ⊎_elim (λ p. inl (fresh w x (sym p.2 ∙ e))) (λ p. s.seen d w x (sym p.1 ∙ e)) (upd2_cases m.copies c i k d (slot_of f w));
        }

    pub dropped_sound : Sound f now stale (with_copy m c i invalid)
    dropped_sound = taken_sound invalid (λ w x e. grind arith) (λ w x e. grind arith)

    pub filled_sound : (v : ℕ) → Sound f now stale (with_copy m c i (valid v (now v)))
    filled_sound v = taken_sound (valid v (now v)) (λ w x e. grind arith) (λ w x e. grind arith)

-- more copies may count as stale
pub weakened : (f : Five) (now : ℕ → Word) (stale worse : ℕ → ℕ → Type 0) (m : Memory) → ((c w : ℕ) → stale c w → worse c w) → Sound f now stale m → Sound f now worse m
weakened f now stale worse m more s =
    record {
      owned = s.owned;
      mine = s.mine;
      stands = s.stands;
      home = s.home;
      seen = λ c w x e. ⊎_elim (λ p. inl p) (λ p. inr (more c w p)) (s.seen c w x e);
    }

-- the same, but for one word that nobody has registered: what is left of it when its owner has lost its copy
pub record Loose (f : Five) (now : ℕ → Word) (stale : ℕ → ℕ → Type 0) (word : ℕ) (m : Memory) : Type 0 where
  pub owned : (w c : ℕ) → (w ≡ word → ⊥) → m.owners w ≡ Some c → m.copies c (slot_of f w) ≡ registered w (now w)
  pub nobody : (c i : ℕ) (x : Word) → m.copies c i ≡ registered word x → ⊥
  pub mine : (c i w : ℕ) (x : Word) → m.copies c i ≡ registered w x → m.owners w ≡ Some c
  pub stands : (c i w : ℕ) (x : Word) → m.copies c i ≡ registered w x → Stands f (length m.page) c i w
  pub home : (w : ℕ) → (w ≡ word → ⊥) → m.owners w ≡ None → page_word m w ≡ now w
  pub seen : (c w : ℕ) (x : Word) → m.copies c (slot_of f w) ≡ valid w x → (x ≡ now w) ⊎ stale c w

module _ (f : Five) (now : ℕ → Word) (stale : ℕ → ℕ → Type 0) (word : ℕ) where
  -- a word without an owner is registered nowhere
  pub loose_unowned : (m : Memory) → m.owners word ≡ None → Sound f now stale m → Loose f now stale word m
  loose_unowned m none s =
      record {
        owned = λ w c _ e. s.owned w c e;
        nobody = λ c i x e. grind (arith, s.mine c i word x e);
        mine = s.mine;
        stands = s.stands;
        home = λ w _ e. s.home w e;
        seen = s.seen;
      }

  -- nor is one whose owner has lost its copy
  pub loose_taken : (m : Memory) (d : ℕ) → m.owners word ≡ Some d → Sound f now stale m → Loose f now stale word (with_copy m d (slot_of f word) invalid)
  loose_taken m d own s =
      record {
        owned = λ w c n e. grind (arith, upd2_cases m.copies d (slot_of f word) invalid c (slot_of f w), s.owned w c e, s.owned word d own);
        nobody = λ c i x e. grind (arith, upd2_cases m.copies d (slot_of f word) invalid c i, s.mine c i word x, (s.stands c i word x (was c i word x e)).placed);
        mine = λ c i w x e. s.mine c i w x (was c i w x e);
        stands = λ c i w x e. s.stands c i w x (was c i w x e);
        home = λ w _ e. s.home w e;
        seen = λ c w x e. ⊎_elim (λ p. let z : invalid ≡ valid w x = sym p.2 ∙ e in grind arith) (λ p. s.seen c w x (sym p.1 ∙ e)) (upd2_cases m.copies d (slot_of f word) invalid c (slot_of f w));
      }
    where
      was : (c i w : ℕ) (x : Word) → upd2 m.copies d (slot_of f word) invalid c i ≡ registered w x → m.copies c i ≡ registered w x
      was = was_registered m.copies d (slot_of f word) invalid (λ w x e. grind arith)

  -- a store: the core's slot takes the registered word, which the other cores may have an older copy of
  module _ (m : Memory) (core : ℕ) (x : Word) where
    abbrev stored_copies : ℕ → ℕ → Copy
    stored_copies = upd2 m.copies core (slot_of f word) (registered word x)

    pub stored_stands : core < f.cores → word < length m.page → ((d j w : ℕ) (y : Word) → m.copies d j ≡ registered w y → Stands f (length m.page) d j w) → (d j w : ℕ) (y : Word) → stored_copies d j ≡ registered w y → Stands f (length m.page) d j w
    stored_stands below within stands d j w y e =
        ⊎_elim
        (λ p. let here : registered word x ≡ registered w y = sym p.2 ∙ e in let same : word ≡ w = cc in record { placed = grind (arith, p.1, same); inside = grind (arith, within, same); ranged = grind (arith, below, p.0) })
        (λ p. stands d j w y (sym p.1 ∙ e))
        (upd2_cases m.copies core (slot_of f word) (registered word x) d j)

    pub stored_seen : (worse : ℕ → ℕ → Type 0) → ((c w : ℕ) → stale c w → worse c w) → ((c : ℕ) → (c ≡ core → ⊥) → worse c word) → ((d w : ℕ) (y : Word) → m.copies d (slot_of f w) ≡ valid w y → (y ≡ now w) ⊎ stale d w) → (d w : ℕ) (y : Word) → stored_copies d (slot_of f w) ≡ valid w y → (y ≡ upd now word x w) ⊎ worse d w
    stored_seen worse more others seen d w y e =
        ⊎_elim
        (λ p. absurd (cc (sym p.2 ∙ e)))
        (λ p. ⊎_elim
        (λ q. inr (let away : d ≡ core → ⊥ = λ h. p.0 h (ap (slot_of f) q.0) in grind (arith, others d away, q.0)))
        (λ q. ⊎_elim (λ r. inl (r ∙ sym q.1)) (λ r. inr (more d w r)) (seen d w y (sym p.1 ∙ e)))
        (upd_cases now word x w))
        (upd2_cases m.copies core (slot_of f word) (registered word x) d (slot_of f w))

  -- the core that stores the word registers it, in a slot without a registered copy of another word
  module _ (m : Memory) (core : ℕ) (x : Word) (worse : ℕ → ℕ → Type 0) (more : (c w : ℕ) → stale c w → worse c w) (others : (c : ℕ) → (c ≡ core → ⊥) → worse c word) (below : core < f.cores) (within : word < length m.page) where
    abbrev claimed_memory : Memory
    claimed_memory =
        record { page = m.page; copies = upd2 m.copies core (slot_of f word) (registered word x); owners = upd m.owners word (Some core) }

    pub claimed_sound : Unregistered m core (slot_of f word) → Loose f now stale word m → Sound f (upd now word x) worse claimed_memory
    claimed_sound free s =
        record {
          owned = λ w d e. grind (arith, upd_cases m.owners word (Some core) w, upd_cases now word x w, upd2_cases m.copies core (slot_of f word) (registered word x) d (slot_of f w), s.owned w d, free w (now w));
          mine = λ d j w y e. grind (arith, upd_cases m.owners word (Some core) w, upd2_cases m.copies core (slot_of f word) (registered word x) d j, s.mine d j w y, s.nobody d j y);
          stands = stored_stands m core x below within s.stands;
          home = λ w e. grind (arith, upd_cases m.owners word (Some core) w, upd_cases now word x w, s.home w);
          seen = stored_seen m core x worse more others s.seen;
        }
