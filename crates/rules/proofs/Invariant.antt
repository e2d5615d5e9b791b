-- The invariant of freshness, and that every call that is not refused keeps it. A copy may be stale only if its word was
-- stored in this phase: in a written strip by another core, so that a load of it is a race; in a locked strip the holder's
-- set has the word, so that a load fetches it again; in a read_only strip nobody stores. A phase call drops every copy that
-- could be stale. Assumes nothing.
use Rattle.std.proofs.Common.{◌≡◌, ℕ, ◌<◌, ◌≤◌, true, false, cond, List, [], ◌∷◌, length, Some, None, Option, sym, refl, ap, ◌∙◌, inl, inr, ⊎_elim, arith}
use Rattle.std.proofs.lemmas.Bool.{eqb-true, both_ways, not-false, and_from}
use Rattle.call.specs.Figures.{Five}
use Rattle.call.specs.declared.call.Call.{Call}
use Rattle.call.specs.declared.call.Call.TheVariants as call
use Rattle.sets.specs.Sentences.{Sets}
use Rattle.word.specs.declared.word.Word.{Word}
use Rattle.rules.specs.Effects as effect
use Rattle.rules.specs.Plans.{Mode, read_only, written, locked, mode_of, is_read_only, is_locked}
use Rattle.rules.specs.Refusals.{refusal, holds, shut_out, load_race}
use Rattle.rules.specs.State.{Lock, Ledger, State, Setting}
use Rattle.rules.specs.Steps.{put, entered, changes, Changes, answered, next_mark, again, begun, with_lock, acquired_by, released_to}
use Rattle.rules.specs.Tables.{is, upd}
use Rattle.rules.proofs.Accesses.{no_race, only_own, stored_in, stored_after_load, stored_before, stored_now, stored_after}
use Rattle.rules.proofs.Guards.{Grow, Guarded, guarded_grows, Cores, acquired_guarded, released_guarded, put_grows, same_grows, grow_on}
use Rattle.rules.proofs.Members.{in_parts}
use Rattle.rules.proofs.Memories.{Sound, weakened}
use Rattle.rules.proofs.Rows.{Loads, Keeps, load_loads, evict_keeps, store_keeps}
use Rattle.rules.proofs.Settling.{settle_keeps, fade_keeps}
use Rattle.rules.proofs.Tables.{upd_cases}
use Rattle.rules.proofs.Unrefused.{load_passes, store_passes, acquire_passes, release_passes}

-- what the proofs use of checked figures and the size
pub record Fits (b : Setting) : Type 0 where
  pub cores : b.figures.cores ≤ 8
  pub size : b.size ≤ 4096
  pub slots : 0 < b.figures.slots
  pub allowance : b.figures.allowance ≤ 1000000

-- core c may have an older copy of w: some core stored w in this phase, in a written strip another one
pub record Stale (f : Five) (l : Ledger) (c w : ℕ) : Type 0 where
  pub by : ℕ
  pub stores : stored_in l.accesses by w ≡ true
  pub other : mode_of f l.plan w ≡ written → by ≡ c → ⊥

-- what holds of ledger and sets
pub record Phased (f : Five) (l : Ledger) (g : Sets) : Type 0 where
  pub still : (w d : ℕ) → mode_of f l.plan w ≡ read_only → stored_in l.accesses d w ≡ true → ⊥
  pub covered : (w d lock : ℕ) → mode_of f l.plan w ≡ locked lock → stored_in l.accesses d w ≡ true → Guarded (l.locks lock) g w
  pub cores : (lock : ℕ) → Cores (l.locks lock)

-- the invariant, over the words that the history says
pub record Good (b : Setting) (now : ℕ → Word) (s : State) (g : Sets) : Type 0 where
  pub sound : Sound b.figures now (Stale b.figures s.ledger) s.memory
  pub phased : Phased b.figures s.ledger g
  pub long : b.size ≤ length s.memory.page

-- the words that the history says, after an accepted call
abbrev pub now_after : Ledger → (ℕ → Word) → Call → ℕ → Word
now_after l now (call.Store core word value) = upd now word (record { value = value; mark = next_mark l core })
now_after l now _ = now

-- the state after an accepted call
abbrev pub after : Setting → Sets → State → Call → State
after b g s c = record { memory = (answered b g s c).memory; ledger = entered s.ledger c }

-- a holder by the test
pub holds_tells : (o : Option ℕ) (c : ℕ) → is o c ≡ true → o ≡ Some c
holds_tells None c e = absurd (both_ways false refl e)
holds_tells (Some d) c e = ap (λ (k : ℕ). Some k) (eqb-true d c e)

-- a locked strip that does not shut the core out is locked by a lock that the core holds
pub not_shut_out : (l : Ledger) (mode : Mode) (core lock : ℕ) → mode ≡ locked lock → shut_out l.locks mode core ≡ false → (l.locks lock).holder ≡ Some core
not_shut_out l mode core lock e open_to =
    holds_tells (l.locks lock).holder core
    (not-false (holds l.locks core lock) (ap (λ (m : Mode). shut_out l.locks m core) (sym e) ∙ open_to))

module _ (b : Setting) (fits : Fits b) (now : ℕ → Word) (s : State) (g g' : Sets) (good : Good b now s g) where
  abbrev f : Five
  f = b.figures

  abbrev l : Ledger
  l = s.ledger

  -- the same ledger, and the sets as they were
  same_phased : ((c w : ℕ) → g' c w ≡ g c w) → Phased f l g'
  same_phased same =
      record {
        still = good.phased.still;
        covered = λ w d lock m e. guarded_grows (l.locks lock) g g' w (same_grows g g' same) (good.phased.covered w d lock m e);
        cores = good.phased.cores;
      }

  -- ── load ──

  module _ (core word : ℕ) (open_to : shut_out l.locks (mode_of f l.plan word) core ≡ false) (unraced : load_race (mode_of f l.plan word) l.accesses core word ≡ None) where
    never_stale : again b g s core word ≡ false → Stale f l core word → ⊥
    never_stale once stale = go (mode_of f l.plan word) refl
      where
        go : (mode : Mode) → mode_of f l.plan word ≡ mode → ⊥
        go read_only e = good.phased.still word stale.by e stale.stores
        go written e =
            let none : load_race written l.accesses core word ≡ None = ap (λ (m : Mode). load_race m l.accesses core word) (sym e) ∙ unraced in
            stale.other e (only_own l.accesses core word stale.by (no_race _ _ none) stale.stores)
        go (locked lock) e =
            let held = not_shut_out l (mode_of f l.plan word) core lock e open_to in
            let p = good.phased.covered word stale.by lock e stale.stores in
            let who : core ≡ p.core = grind (arith, p.guards, held) in
            let has : g core word ≡ true = rw who p.has in
            let twice : again b g s core word ≡ true = and_from (is_locked (mode_of f l.plan word)) (g core word) (ap is_locked e) has in
            both_ways (again b g s core word) once twice

    pub load_is_fresh : Loads f now (Stale f l) s.memory word (effect.load f s.memory (again b g s core word) core word)
    load_is_fresh =
        load_loads f now (Stale f l) s.memory (again b g s core word) core word good.sound
        (λ x here once. ⊎_elim (λ p. p) (λ p. absurd (never_stale once p)) (good.sound.seen core word x here))

    load_keeps : ((c w : ℕ) → g' c w ≡ g c w) → Good b now (after b g s (call.Load core word)) g'
    load_keeps same =
        record {
          sound = weakened f now (Stale f l) (Stale f (entered l (call.Load core word))) _ worse load_is_fresh.sound;
          phased = record { still = λ w d m e. good.phased.still w d m (was w d e); covered = λ w d lock m e. (same_phased same).covered w d lock m (was w d e); cores = good.phased.cores };
          long = rw load_is_fresh.long good.long;
        }
      where
        was : (w d : ℕ) → stored_in (entered l (call.Load core word)).accesses d w ≡ true → stored_in l.accesses d w ≡ true
        was w d e = sym (stored_after_load l.accesses core word d w) ∙ e

        worse : (c w : ℕ) → Stale f l c w → Stale f (entered l (call.Load core word)) c w
        worse c w p =
            record { by = p.by; stores = stored_after_load l.accesses core word p.by w ∙ p.stores; other = p.other }

  -- ── store ──

  module _ (core word value : ℕ) (in_cores : core < f.cores) (in_size : word < b.size) (writable : is_read_only (mode_of f l.plan word) ≡ false) (open_to : shut_out l.locks (mode_of f l.plan word) core ≡ false) where
    abbrev l' : Ledger
    l' = entered l (call.Store core word value)

    abbrev x : Word
    x = record { value = value; mark = next_mark l core }

    store_kept : Keeps f (upd now word x) (Stale f l') s.memory (effect.store f s.memory core word x)
    store_kept =
        store_keeps f now (Stale f l) (Stale f l')
        (λ c w p. record { by = p.by; stores = stored_before l.accesses core word p.by w p.stores; other = p.other })
        core word x
        (λ c away. record { by = core; stores = stored_now l.accesses core word; other = λ _ e. away (sym e) })
        in_cores s.memory
        (let enough = good.long in omega arith)
        good.sound

    store_phased : Changes (changes f l (call.Store core word value)) g g' → Phased f l' g'
    store_phased ch =
        record {
          still = λ w d m e. ⊎_elim (λ old. good.phased.still w d m old) (λ new. both_ways (is_read_only (mode_of f l.plan word)) writable (ap (λ (v : ℕ). is_read_only (mode_of f l.plan v)) (sym new.0) ∙ ap is_read_only m)) (stored_after l.accesses core word d w e);
          covered = covered_after (mode_of f l.plan word) refl ch;
          cores = good.phased.cores;
        }
      where
        covered_after : (mode : Mode) → mode_of f l.plan word ≡ mode → Changes (cond (is_locked mode) (put core word ∷ []) []) g g' → (w d lock : ℕ) → mode_of f l.plan w ≡ locked lock → stored_in l'.accesses d w ≡ true → Guarded (l.locks lock) g' w
        covered_after read_only e same w d lock m st = absurd (both_ways (is_read_only (mode_of f l.plan word)) writable (ap is_read_only e))
        covered_after written e same w d lock m st =
            ⊎_elim
            (λ old. guarded_grows (l.locks lock) g g' w (same_grows g g' same) (good.phased.covered w d lock m old))
            (λ new. absurd (cc (sym e ∙ (ap (mode_of f l.plan) (sym new.0) ∙ m))))
            (stored_after l.accesses core word d w st)
        covered_after (locked k) e (h, p, same) w d lock m st =
            ⊎_elim
            (λ old. guarded_grows (l.locks lock) g g' w (grow_on g h g' (put_grows g h core word p) (same_grows h g' same)) (good.phased.covered w d lock m old))
            (λ new.
            let here : mode_of f l.plan word ≡ locked lock = ap (mode_of f l.plan) (sym new.0) ∙ m in
            let held = not_shut_out l (mode_of f l.plan word) core lock here open_to in
            let few = fits.cores in
            let small = fits.size in
            record { core = core; guards = rw held refl; has = rw new.0 (same core word ∙ p.named (omega arith, omega arith)) })
            (stored_after l.accesses core word d w st)

    store_good : Changes (changes f l (call.Store core word value)) g g' → Good b (upd now word x) (after b g s (call.Store core word value)) g'
    store_good ch = record { sound = store_kept.sound; phased = store_phased ch; long = rw store_kept.long good.long }

  -- ── evict and settle ──

  evict_good : (core word : ℕ) → ((c w : ℕ) → g' c w ≡ g c w) → Good b now (after b g s (call.Evict core word)) g'
  evict_good core word same =
      let k = evict_keeps f now (Stale f l) s.memory core word good.sound in
      record { sound = k.sound; phased = same_phased same; long = rw k.long good.long }

  settle_good : ((c w : ℕ) → g' c w ≡ g c w) → Good b now (after b g s call.Settle) g'
  settle_good same =
      let k = settle_keeps f now (Stale f l) s.memory good.sound in
      record { sound = k.sound; phased = same_phased same; long = rw k.long good.long }

  -- ── locks: one lock changes, and its new guard's set holds what the old one's held ──

  locks_phased : (lock : ℕ) (new : Lock) → Grow g g' → ((w : ℕ) → Guarded (l.locks lock) g w → Guarded new g' w) → Cores new → Phased f (with_lock l lock new) g'
  locks_phased lock new grow guards ok =
      record {
        still = good.phased.still;
        covered = λ w d k m e. at_lock w k (good.phased.covered w d k m e);
        cores = λ k. ⊎_elim (λ p. rw p.1 ok) (λ p. rw p.1 (good.phased.cores k)) (upd_cases l.locks lock new k);
      }
    where
      at_lock : (w k : ℕ) → Guarded (l.locks k) g w → Guarded (upd l.locks lock new k) g' w
      at_lock w k p =
          ⊎_elim
          (λ q. rw q.1 (guards w (rw q.0 at p)))
          (λ q. rw q.1 (guarded_grows (l.locks k) g g' w grow p))
          (upd_cases l.locks lock new k)

  -- a change of a lock makes no copy stale
  locks_sound : (lock : ℕ) (new : Lock) → Sound f now (Stale f (with_lock l lock new)) s.memory
  locks_sound lock new =
      weakened f now (Stale f l) (Stale f (with_lock l lock new)) s.memory (λ c w p. record { by = p.by; stores = p.stores; other = p.other }) good.sound

  acquire_good : (core lock : ℕ) → core < f.cores → Changes (changes f l (call.Acquire core lock)) g g' → Good b now (after b g s (call.Acquire core lock)) g'
  acquire_good core lock in_cores ch =
      let few = fits.cores in
      let k = acquired_guarded (l.locks lock).holder (l.locks lock) core g g' refl (omega arith) (good.phased.cores lock) ch in
      record {
        sound = locks_sound lock (acquired_by (l.locks lock).holder (l.locks lock) core);
        phased = locks_phased lock (acquired_by (l.locks lock).holder (l.locks lock) core) k.0 k.1 (cores_after (l.locks lock).holder refl);
        long = good.long;
      }
    where
      cores_after : (o : Option ℕ) → (l.locks lock).holder ≡ o → Cores (acquired_by o (l.locks lock) core)
      cores_after None e =
          record {
            holder = λ c h. let few = fits.cores in let who : core ≡ c = cc in omega (arith, in_cores);
            queue = (good.phased.cores lock).queue;
            last = (good.phased.cores lock).last;
          }
      cores_after (Some d) e =
          record {
            holder = λ c h. (good.phased.cores lock).holder c (e ∙ h);
            queue = λ c h. ⊎_elim (λ p. (good.phased.cores lock).queue c p) (λ p. let few = fits.cores in let who : c ≡ core = ⊎_elim (λ q. q) (λ q. absurd q) p in omega (arith, in_cores)) (in_parts c (l.locks lock).queue (core ∷ []) h);
            last = (good.phased.cores lock).last;
          }

  release_good : (core lock : ℕ) → core < f.cores → (l.locks lock).holder ≡ Some core → Changes (changes f l (call.Release core lock)) g g' → Good b now (after b g s (call.Release core lock)) g'
  release_good core lock in_cores held ch =
      let few = fits.cores in
      let k = released_guarded (l.locks lock).queue (l.locks lock) core g g' refl held (omega arith) (good.phased.cores lock) ch in
      record {
        sound = locks_sound lock (released_to (l.locks lock).queue core);
        phased = locks_phased lock (released_to (l.locks lock).queue core) k.0 k.1 (cores_after (l.locks lock).queue refl);
        long = good.long;
      }
    where
      cores_after : (q : List ℕ) → (l.locks lock).queue ≡ q → Cores (released_to q core)
      cores_after [] e =
          record {
            holder = λ c h. absurd cc;
            queue = λ c h. absurd h;
            last = λ c h. let few = fits.cores in let who : core ≡ c = cc in omega (arith, in_cores);
          }
      cores_after (next ∷ more) e =
          record {
            holder = λ c h. (good.phased.cores lock).queue c (rw e (inl (let who : c ≡ next = cc in who)));
            queue = λ c h. (good.phased.cores lock).queue c (rw e (inr h));
            last = λ c h. let few = fits.cores in let who : core ≡ c = cc in omega (arith, in_cores);
          }

  -- ── a new phase ──

  phase_good : (plan : ℕ) → Good b now (after b g s (call.Phase plan)) g'
  phase_good plan =
      let k = fade_keeps f l.plan now (Stale f l) (Stale f (begun l plan)) s.memory (λ c w m p. good.phased.still w p.by m p.stores) good.sound in
      record {
        sound = k.sound;
        phased =
            record {
              still = λ w d m e. both_ways false refl e;
              covered = λ w d lock m e. absurd (both_ways false refl e);
              cores = λ lock. record { holder = (good.phased.cores lock).holder; queue = (good.phased.cores lock).queue; last = λ c h. absurd cc };
            };
        long = rw k.long good.long;
      }

  -- ── every call ──

  pub accepted_good : (c : Call) → refusal b l c ≡ None → Changes (changes f l c) g g' → Good b (now_after l now c) (after b g s c) g'
  accepted_good (call.Load core word) e ch =
      let p = load_passes b l core word e in
      load_keeps core word p.open_to p.unraced ch
  accepted_good (call.Store core word value) e ch =
      let p = store_passes b l core word value e in
      store_good core word value p.in_cores p.in_size p.writable p.open_to ch
  accepted_good (call.Evict core word) e ch = evict_good core word ch
  accepted_good (call.Acquire core lock) e ch =
      acquire_good core lock (acquire_passes b l core lock e).0.in_cores ch
  accepted_good (call.Release core lock) e ch =
      let p = release_passes b l core lock e in
      release_good core lock p.0.in_cores (holds_tells (l.locks lock).holder core p.1) ch
  accepted_good (call.Phase plan) e ch = phase_good plan
  accepted_good call.Settle e ch = settle_good ch
