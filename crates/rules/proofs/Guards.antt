-- The guard of a lock is its holder or, of a free lock, its last releaser. Whatever was stored under a lock in this phase is
-- in the set of its guard: a store puts it there, and the next guard takes it in. Sets only grow within a phase.
-- Assumes nothing.
use Rattle.std.proofs.Common.{◌≡◌, ℕ, ◌<◌, true, List, [], ◌∷◌, Some, None, Option, refl, ◌∙◌, inl, ⊎_elim, arith}
use Rattle.std.proofs.lemmas.Bool.{cases_eq}
use Rattle.sets.specs.Sentences as signature
use Rattle.sets.specs.Sentences.{Sets}
use Rattle.rules.specs.State.{Lock}
use Rattle.rules.specs.Steps.{Changes, acquired_by, released_to, takes_from, granted_changes, handed_changes}
use Rattle.rules.proofs.Members.{In}

-- ── sets that grow ──

abbrev pub Grow : Sets → Sets → Type 0
Grow g h = (c w : ℕ) → g c w ≡ true → h c w ≡ true

pub put_grows : (g h : Sets) (core word : ℕ) → signature.Put g h core word → Grow g h
put_grows g h core word p c w e =
    ⊎_elim (λ s. rw s (p.kept w (rw s at e))) (λ n. p.others c w n ∙ e) (cases_eq c core)

pub take_in_grows : (g h : Sets) (core other : ℕ) → signature.TakenIn g h core other → Grow g h
take_in_grows g h core other p c w e =
    ⊎_elim (λ s. rw s (p.kept w (rw s at e))) (λ n. p.others c w n ∙ e) (cases_eq c core)

pub same_grows : (g h : Sets) → ((c w : ℕ) → h c w ≡ g c w) → Grow g h
same_grows g h same c w e = same c w ∙ e

pub grow_on : (g h k : Sets) → Grow g h → Grow h k → Grow g k
grow_on g h k p q c w e = q c w (p c w e)

-- ── the guard ──

abbrev guard_by : Option ℕ → Option ℕ → Option ℕ
guard_by (Some c) last = Some c
guard_by None last = last

abbrev pub guard : Lock → Option ℕ
guard lock = guard_by lock.holder lock.last

-- the lock has a guard, whose set holds the word
pub record Guarded (lock : Lock) (g : Sets) (w : ℕ) : Type 0 where
  pub core : ℕ
  pub guards : guard lock ≡ Some core
  pub has : g core w ≡ true

pub guarded_grows : (lock : Lock) (g h : Sets) (w : ℕ) → Grow g h → Guarded lock g w → Guarded lock h w
guarded_grows lock g h w grow p = record { core = p.core; guards = p.guards; has = grow p.core w p.has }

-- all the cores that a lock names are cores
pub record Cores (lock : Lock) : Type 0 where
  pub holder : (c : ℕ) → lock.holder ≡ Some c → c < 8
  pub queue : (c : ℕ) → In c lock.queue → c < 8
  pub last : (c : ℕ) → lock.last ≡ Some c → c < 8

-- ── acquire ──

pub acquired_guarded : (o : Option ℕ) (lock : Lock) (core : ℕ) (g h : Sets) → lock.holder ≡ o → core < 8 → Cores lock → Changes (granted_changes o lock core) g h → Grow g h × ((w : ℕ) → Guarded lock g w → Guarded (acquired_by o lock core) h w)
acquired_guarded (Some d) lock core g h e below ok ch = (
  same_grows g h ch,
  λ w p. record { core = d; guards = refl; has = grind (arith, e, p.guards, p.has, ch d w) },
)
acquired_guarded None lock core g h e below ok ch = go lock.last refl ch
  where
    go : (o : Option ℕ) → lock.last ≡ o → Changes (takes_from o core) g h → Grow g h × ((w : ℕ) → Guarded lock g w → Guarded (acquired_by None lock core) h w)
    go None l same = (
      same_grows g h same,
      λ w p. absurd (grind (arith, e, l, p.guards)),
    )
    go (Some d) l (k, t, same) = (
      grow_on g k h (take_in_grows g k core d t) (same_grows k h same),
      λ w p. record { core = core; guards = refl; has = let eq : d ≡ p.core = grind (arith, e, l, p.guards) in same core w ∙ t.taken below (ok.last d l) w (rw eq p.has) },
    )

-- ── release ──

pub released_guarded : (q : List ℕ) (lock : Lock) (core : ℕ) (g h : Sets) → lock.queue ≡ q → lock.holder ≡ Some core → core < 8 → Cores lock → Changes (handed_changes q core) g h → Grow g h × ((w : ℕ) → Guarded lock g w → Guarded (released_to q core) h w)
released_guarded [] lock core g h e held below ok same = (
  same_grows g h same,
  λ w p. record { core = core; guards = refl; has = grind (arith, held, p.guards, p.has, same core w) },
)
released_guarded (next ∷ more) lock core g h e held below ok (k, t, same) = (
  grow_on g k h (take_in_grows g k next core t) (same_grows k h same),
  λ w p. record { core = next; guards = refl; has = let eq : core ≡ p.core = grind (arith, held, p.guards) in same next w ∙ t.taken (ok.queue next (rw e (inl refl))) below w (rw eq p.has) },
)
