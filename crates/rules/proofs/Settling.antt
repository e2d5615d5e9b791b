-- Settle writes every registered copy back, place by place: all stays sound and no word has an owner after it. A phase call
-- drops each copy that could be stale. Assumes nothing.
use Rattle.std.proofs.Common.{◌≡◌, ℕ, ◌<◌, cond, not, ◌⊎◌, List, [], ◌∷◌, Some, None, fold, Option, sym, refl, ap, ◌∙◌, inl, ⊎_elim, mod-lt, arith}
use Rattle.call.specs.Figures.{Five, slot_of}
use Rattle.word.specs.declared.word.Word.{Word}
use Rattle.rules.specs.Effects as effect
use Rattle.rules.specs.Effects.{Put, Place, write_back, write_back_by, places, dropped, faded}
use Rattle.rules.specs.Plans.{Mode, read_only, mode_of, is_read_only}
use Rattle.rules.specs.State.{Copy, invalid, valid, registered, Memory}
use Rattle.rules.proofs.Members.{In, in_places}
use Rattle.rules.proofs.Memories.{Sound, Unregistered, write_back_sound, write_back_clears}
use Rattle.rules.proofs.Rows.{SameLength, Keeps, write_back_length}
use Rattle.rules.proofs.Tables.{upd2_cases}

-- the write back of some places in turn
abbrev pub written_back : Memory → List Place → Memory
written_back m ps = fold (λ n p. write_back n p.core p.slot) m ps

module _ (f : Five) (now : ℕ → Word) (stale : ℕ → ℕ → Type 0) where
  pub written_back_keeps : (m n : Memory) (ps : List Place) → SameLength m n → Sound f now stale n → Sound f now stale (written_back n ps) × SameLength m (written_back n ps)
  written_back_keeps m n [] len s = (s, len)
  written_back_keeps m n (p ∷ ps) len s =
      written_back_keeps m (write_back n p.core p.slot) ps (write_back_length n p.core p.slot ∙ len) (write_back_sound f now stale n p.core p.slot s)

  -- an unregistered slot stays so
  write_back_leaves : (m : Memory) (c i d j : ℕ) → Unregistered m c i → Unregistered (write_back m d j) c i
  write_back_leaves m c i d j free = go (m.copies d j)
    where
      go : (k : Copy) → Unregistered (write_back_by k m d j) c i
      go (registered v y) w x e = grind (arith, upd2_cases m.copies d j (valid v y) c i, free w x)
      go _ w x e = free w x e

  written_back_leaves : (m : Memory) (ps : List Place) (c i : ℕ) → Unregistered m c i → Unregistered (written_back m ps) c i
  written_back_leaves m [] c i free w x e = free w x e
  written_back_leaves m (p ∷ ps) c i free w x e =
      written_back_leaves (write_back m p.core p.slot) ps c i (write_back_leaves m c i p.core p.slot free) w x e

  written_back_clears : (m : Memory) (ps : List Place) (q : Place) → In q ps → Sound f now stale m → Unregistered (written_back m ps) q.core q.slot
  written_back_clears m [] q h s = absurd h
  written_back_clears m (p ∷ ps) q h s =
      ⊎_elim
      (λ e. let cleared : Unregistered (write_back m p.core p.slot) q.core q.slot = rw e (write_back_clears f now stale m p.core p.slot s) in written_back_leaves (write_back m p.core p.slot) ps q.core q.slot cleared)
      (λ r. written_back_clears (write_back m p.core p.slot) ps q r (write_back_sound f now stale m p.core p.slot s))
      h

  pub settle_keeps : (m : Memory) → Sound f now stale m → Keeps f now stale m (effect.settle f m)
  settle_keeps m s =
      let k = written_back_keeps m m (places f) refl s in
      record { sound = k.0; long = k.1 }

  -- after a settle no word has an owner
  pub settle_frees : (m : Memory) → 0 < f.slots → Sound f now stale m → (w : ℕ) → (effect.settle f m).memory.owners w ≡ None
  settle_frees m some s w = go ((effect.settle f m).memory.owners w) refl
    where
      after : Sound f now stale (effect.settle f m).memory
      after = (settle_keeps m s).sound

      go : (o : Option ℕ) → (effect.settle f m).memory.owners w ≡ o → o ≡ None
      go None e = refl
      go (Some c) e =
          let here = after.owned w c e in
          let ranged = (after.stands c (slot_of f w) w (now w) here).ranged in
          absurd (written_back_clears m (places f) (record { core = c; slot = slot_of f w }) (in_places f c (slot_of f w) ranged (mod-lt w some)) s w (now w) here)

-- a phase call drops what could be stale: what was not read_only in the phase that ends
pub fade_keeps : (f : Five) (plan : ℕ) (now : ℕ → Word) (stale none : ℕ → ℕ → Type 0) (m : Memory) → ((c w : ℕ) → mode_of f plan w ≡ read_only → stale c w → ⊥) → Sound f now stale m → Keeps f now none m (effect.fade f plan m)
fade_keeps f plan now stale none m still s =
    record {
      sound =
          record {
            owned = λ w c e. ap (faded f plan) (s.owned w c e);
            mine = λ c i w x e. s.mine c i w x (was_registered (m.copies c i) w x e);
            stands = λ c i w x e. s.stands c i w x (was_registered (m.copies c i) w x e);
            home = s.home;
            seen = λ c w x e. stayed c w x (m.copies c (slot_of f w)) refl e;
          };
      long = refl;
    }
  where
    was_registered : (k : Copy) (w : ℕ) (x : Word) → faded f plan k ≡ registered w x → k ≡ registered w x
    was_registered (valid v y) w x e = grind arith
    was_registered _ w x e = e

    stayed : (c w : ℕ) (x : Word) (k : Copy) → m.copies c (slot_of f w) ≡ k → faded f plan k ≡ valid w x → (x ≡ now w) ⊎ none c w
    stayed c w x (valid v y) here e = go (mode_of f plan v) refl e
      where
        go : (mode : Mode) → mode_of f plan v ≡ mode → cond (not (is_read_only mode)) invalid (valid v y) ≡ valid w x → (x ≡ now w) ⊎ none c w
        go read_only ro h =
            let v_w : v ≡ w = cc in
            let y_x : y ≡ x = cc in
            let mine : m.copies c (slot_of f w) ≡ valid w x = here ∙ h in
            inl (⊎_elim (λ p. p) (λ p. absurd (still c w (ap (mode_of f plan) (sym v_w) ∙ ro) p)) (s.seen c w x mine))
        go _ _ h = grind arith
    stayed c w x _ here e = grind arith
