-- What acquire and release make of the table of locks and the table of cores keeps the two tied. A release is two changes
-- at its lock: the core puts the lock down, and the first in the queue, if there is one, takes it up. Assumes nothing.
use Rattle.std.proofs.Common.{◌≡◌, ℕ, ◌<◌, true, List, [], ◌∷◌, length, set, IfSome, Some, None, Option, sym, refl, ap, ◌∙◌, subst, ⊎_elim, arith}
use Rattle.std.proofs.lemmas.List.{length-set}
use Rattle.std.proofs.lemmas.Bool.{cases_lt, eqb-true, false≢true}
use Rattle.rules.specs.Refusals.{holds}
use Rattle.rules.specs.State.{Lock, free}
use Rattle.rules.specs.Steps.{acquired_by, released_to}
use Rattle.rules.specs.Tables.{upd}
use Rattle.locks.specs.Rows.{granted, passed_to}
use Rattle.locks.specs.Ties.{holder_of, attending, handed}
use Rattle.locks.specs.Views.{locks_of, does}
use Rattle.locks.specs.declared.attendance.Attendance.{Attendance}
use Rattle.locks.specs.declared.attendance.Attendance.TheVariants.{Away, Holds, Waits}
use Rattle.locks.specs.declared.table.Locks.{Locks}
use Rattle.locks.proofs.Kept.{does_past}
use Rattle.locks.proofs.Tables.{table, table_set, upd_same, upd_twice}
use Rattle.locks.proofs.Ties.{Tied, queue_count, wait_count, is_holder, QueuesTied, HoldersTied, entered_queues, entered_holders, put_down, freed_queues, freed_holders, first_waits, passed, passed_queues, passed_holders}

-- facts that tie tables tie equal tables
tied_same : {X : Type 0} (f : ℕ → Lock → X) (g : Attendance → ℕ → X) (locks after : ℕ → Lock) (cores now : ℕ → Attendance) → after ≡ locks → now ≡ cores → Tied f g locks cores → Tied f g after now
tied_same f g locks after cores now p q tied c l = ap (λ (h : ℕ → Lock). f c (h l)) p ∙ tied c l ∙ ap (λ (h : ℕ → Attendance). g (h c) l) (sym q)

module _ (s : Locks) (core lock : ℕ) (below : core < 8) (within : lock < 8) where
  in_rows : lock < length s.rows
  in_rows = let n = s.eight_locks in omega arith

  in_cores : core < length s.cores
  in_cores = let n = s.eight_cores in omega arith

  -- one lock changed
  pub one_changed : (row new : Lock) → row ≡ new → table free (set s.rows lock row) ≡ upd (locks_of s) lock new
  one_changed row new e = table_set free s.rows lock row in_rows ∙ ap (upd (locks_of s) lock) e

  -- an acquire
  module _ (row : Lock) (e : row ≡ acquired_by (locks_of s lock).holder (locks_of s lock) core) (away : does s core ≡ Away) (now : Attendance) (d : now ≡ attending (granted (locks_of s lock).holder (locks_of s lock)) lock) where
    cores_changed : table Away (set s.cores core now) ≡ upd (does s) core (attending (granted (locks_of s lock).holder (locks_of s lock)) lock)
    cores_changed = table_set Away s.cores core now in_cores ∙ ap (upd (does s) core) d

    pub acquire_queues : QueuesTied (table free (set s.rows lock row)) (table Away (set s.cores core now))
    acquire_queues =
        tied_same queue_count wait_count _ _ _ _ (one_changed row _ e) cores_changed
        (entered_queues (locks_of s) (does s) core lock s.queued s.held away (locks_of s lock).holder)

    pub acquire_holders : HoldersTied (table free (set s.rows lock row)) (table Away (set s.cores core now))
    acquire_holders =
        tied_same is_holder holder_of _ _ _ _ (one_changed row _ e) cores_changed
        (entered_holders (locks_of s) (does s) core lock s.queued s.held away (locks_of s lock).holder refl)

  -- who holds a lock is known to hold it
  pub holder_does : holds (locks_of s) core lock ≡ true → does s core ≡ Holds lock
  holder_does h = go (does s core) (sym (s.held core lock) ∙ h)
    where
      go : (d : Attendance) → holder_of d lock ≡ true → d ≡ Holds lock
      go Away t = absurd (false≢true t)
      go (Holds held) t = ap Holds (eqb-true held lock t)
      go (Waits wanted) t = absurd (false≢true t)

  -- the first in a queue is one of the eight cores
  pub next_below : (next : Option ℕ) → next ≡ passed_to (locks_of s lock).queue → (k : ℕ) → k ≡ 8 → IfSome next (λ n. n < k)
  next_below next e k eight = subst (λ (o : Option ℕ). IfSome o (λ n. n < k)) (sym e) (go (locks_of s lock).queue refl)
    where
      go : (q : List ℕ) → (locks_of s lock).queue ≡ q → IfSome (passed_to q) (λ n. n < k)
      go [] e = tt
      go (first ∷ more) e =
          let w = first_waits (locks_of s) (does s) lock first more None s.queued s.held e in
          ⊎_elim (λ l. omega arith) (λ l. let a = does_past s first l in let z : ◌≡◌ {A = ℕ} 0 1 = cc in let no_way : ⊥ = omega arith in absurd no_way) (cases_lt first 8)

  -- a release, by the queue
  module _ (had : does s core ≡ Holds lock) where
    abbrev down : Lock
    down = put_down (locks_of s) (does s) core lock s.queued s.held

    down_queues : QueuesTied (upd (locks_of s) lock down) (upd (does s) core Away)
    down_queues = freed_queues (locks_of s) (does s) core lock s.queued s.held had

    down_holders : HoldersTied (upd (locks_of s) lock down) (upd (does s) core Away)
    down_holders = freed_holders (locks_of s) (does s) core lock s.queued s.held had

    abbrev LeftTied : List ℕ → Type 0
    LeftTied q =
        QueuesTied (upd (locks_of s) lock (released_to q core)) (table Away (handed s.cores core (passed_to q) lock))
        × HoldersTied (upd (locks_of s) lock (released_to q core)) (table Away (handed s.cores core (passed_to q) lock))

    by_queue : (q : List ℕ) → (locks_of s lock).queue ≡ q → IfSome (passed_to q) (λ n. n < length s.cores) → LeftTied q
    by_queue [] e n =
        let same = ap (λ (q : List ℕ). upd (locks_of s) lock (record { holder = None; queue = q; last = Some core })) (sym e) in
        let cores = table_set Away s.cores core Away in_cores in
        (tied_same queue_count wait_count _ _ _ _ same cores down_queues, tied_same is_holder holder_of _ _ _ _ same cores down_holders)
    by_queue (next ∷ more) e n =
        let locks = upd (locks_of s) lock down in
        let does = upd (does s) core Away in
        let here = upd_same (locks_of s) lock down in
        let queue = ap (λ (l : Lock). l.queue) here ∙ e in
        let same = sym (upd_twice (locks_of s) lock down (passed locks does lock next more (Some core) down_queues down_holders)) in
        let cores = table_set Away (set s.cores core Away) next (Holds lock) (rw length-set n) ∙ ap (λ (h : ℕ → Attendance). upd h next (Holds lock)) (table_set Away s.cores core Away in_cores) in (
          tied_same queue_count wait_count _ _ _ _ same cores (passed_queues locks does lock next more (Some core) down_queues down_holders queue),
          tied_same is_holder holder_of _ _ _ _ same cores (passed_holders locks does lock next more (Some core) down_queues down_holders queue (ap (λ (l : Lock). l.holder) here)),
        )

    module _ (row : Lock) (e : row ≡ released_to (locks_of s lock).queue core) (cores : List Attendance) (d : cores ≡ handed s.cores core (passed_to (locks_of s lock).queue) lock) where
      pub release_queues : QueuesTied (table free (set s.rows lock row)) (table Away cores)
      release_queues =
          tied_same queue_count wait_count _ _ _ _ (one_changed row _ e) (ap (table Away) d) (by_queue (locks_of s lock).queue refl (next_below _ refl (length s.cores) s.eight_cores)).0

      pub release_holders : HoldersTied (table free (set s.rows lock row)) (table Away cores)
      release_holders =
          tied_same is_holder holder_of _ _ _ _ (one_changed row _ e) (ap (table Away) d) (by_queue (locks_of s lock).queue refl (next_below _ refl (length s.cores) s.eight_cores)).1

pub length_handed : (cores : List Attendance) (core : ℕ) (next : Option ℕ) (lock : ℕ) → length (handed cores core next lock) ≡ length cores
length_handed cores core None lock = length-set cores core Away
length_handed cores core (Some next) lock = length-set (set cores core Away) next (Holds lock) ∙ length-set cores core Away
