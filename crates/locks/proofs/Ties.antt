-- Locks and cores are tied by two facts of one form: a number or test of a core and a lock, read once from the lock and once
-- from what the core does. A change at one lock and one core keeps such a fact if it holds of these two, and if neither the
-- lock's other cores nor the core's other locks notice it. Assumes nothing.
use Rattle.std.proofs.Common.{◌≡◌, ℕ, ◌+◌, ◌<◌, ◌≤◌, Bool, true, false, cond, eqb, ◌⊎◌, List, [], ◌∷◌, ◌++◌, length, Some, None, Option, sym, refl, ap, ◌∙◌, inl, inr, ⊎_elim, arith}
use Rattle.std.proofs.lemmas.Bool.{eq-eqb, ne_eqb, eqb-true, cases_eq}
use Rattle.std.proofs.lemmas.Bool.Decides.{nat_tests}
use Rattle.rules.proofs.Tables.{upd_cases}
use Rattle.rules.specs.State.{Lock}
use Rattle.rules.specs.Steps.{acquired_by}
use Rattle.rules.specs.Tables.{upd, is}
use Rattle.locks.specs.Rows.{granted}
use Rattle.locks.specs.Ties.{occurs, waits_for, holder_of, attending}
use Rattle.locks.specs.declared.attendance.Attendance.{Attendance}
use Rattle.locks.specs.declared.attendance.Attendance.TheVariants.{Away, Holds, Waits}
use Rattle.locks.proofs.Counts.{room}

module _ {X : Type 0} (f : ℕ → Lock → X) (g : Attendance → ℕ → X) where
  abbrev pub Tied : (ℕ → Lock) → (ℕ → Attendance) → Type 0
  Tied locks does = (core lock : ℕ) → f core (locks lock) ≡ g (does core) lock

  pub tied_again : (locks : ℕ → Lock) (does : ℕ → Attendance) (core lock : ℕ) (new : Lock) (now : Attendance) →
      Tied locks does → f core new ≡ g now lock →
      ((c : ℕ) → (c ≡ core → ⊥) → f c new ≡ f c (locks lock)) →
      ((l : ℕ) → (l ≡ lock → ⊥) → g now l ≡ g (does core) l) →
      Tied (upd locks lock new) (upd does core now)
  tied_again locks does core lock new now tied here cores others c l = go (upd_cases locks lock new l) (upd_cases does core now c)
    where
      go : ((l ≡ lock) × (upd locks lock new l ≡ new)) ⊎ ((l ≡ lock → ⊥) × (upd locks lock new l ≡ locks l)) →
          ((c ≡ core) × (upd does core now c ≡ now)) ⊎ ((c ≡ core → ⊥) × (upd does core now c ≡ does c)) →
          f c (upd locks lock new l) ≡ g (upd does core now c) l
      go (inl a) (inl b) =
          ap (f c) a.1 ∙ ap (λ (k : ℕ). f k new) b.0 ∙ here ∙ ap (λ (m : ℕ). g now m) (sym a.0) ∙ ap (λ (d : Attendance). g d l) (sym b.1)
      go (inl a) (inr b) =
          ap (f c) a.1 ∙ cores c b.0 ∙ ap (λ (m : ℕ). f c (locks m)) (sym a.0) ∙ tied c l ∙ ap (λ (d : Attendance). g d l) (sym b.1)
      go (inr a) (inl b) =
          ap (f c) a.1 ∙ tied c l ∙ ap (λ (k : ℕ). g (does k) l) b.0 ∙ sym (others l a.0) ∙ ap (λ (d : Attendance). g d l) (sym b.1)
      go (inr a) (inr b) = ap (f c) a.1 ∙ tied c l ∙ ap (λ (d : Attendance). g d l) (sym b.1)

-- the two facts
abbrev pub queue_count : ℕ → Lock → ℕ
queue_count core lock = occurs core lock.queue

abbrev pub wait_count : Attendance → ℕ → ℕ
wait_count does lock = cond {A = ℕ} (waits_for does lock) 1 0

abbrev pub is_holder : ℕ → Lock → Bool
is_holder core lock = is lock.holder core

abbrev pub QueuesTied : (ℕ → Lock) → (ℕ → Attendance) → Type 0
QueuesTied = Tied queue_count wait_count

abbrev pub HoldersTied : (ℕ → Lock) → (ℕ → Attendance) → Type 0
HoldersTied = Tied is_holder holder_of

occurs_last : (c core : ℕ) (q : List ℕ) → occurs c (q ++ (core ∷ [])) ≡ occurs c q + cond {A = ℕ} (eqb core c) 1 0
occurs_last c core [] = omega arith
occurs_last c core (x ∷ q) = let e = occurs_last c core q in omega arith

one_holder : (o : Option ℕ) (core c : ℕ) → is o core ≡ true → (c ≡ core → ⊥) → false ≡ is o c
one_holder None core c h n = refl
one_holder (Some x) core c h n = let e = eqb-true x core h in sym (ne_eqb x c (λ d. n (sym d ∙ e)))

module _ (locks : ℕ → Lock) (does : ℕ → Attendance) (core lock : ℕ) (queues : QueuesTied locks does) (holders : HoldersTied locks does) where
  -- a core that does nothing stands in no queue and is no holder
  pub away_count : does core ≡ Away → (l : ℕ) → queue_count core (locks l) ≡ 0
  away_count away l = queues core l ∙ ap (λ (d : Attendance). wait_count d l) away

  pub away_holder : does core ≡ Away → (l : ℕ) → is_holder core (locks l) ≡ false
  away_holder away l = holders core l ∙ ap (λ (d : Attendance). holder_of d l) away

  -- a free lock goes to a core that did nothing
  pub granted_queues : does core ≡ Away → QueuesTied (upd locks lock (acquired_by None (locks lock) core)) (upd does core (Holds lock))
  granted_queues away =
      tied_again queue_count wait_count locks does core lock _ _ queues (away_count away lock) (λ c n. refl) (λ l n. sym (ap (λ (d : Attendance). wait_count d l) away))

  pub granted_holders : does core ≡ Away → (locks lock).holder ≡ None → HoldersTied (upd locks lock (acquired_by None (locks lock) core)) (upd does core (Holds lock))
  granted_holders away free =
      tied_again is_holder holder_of locks does core lock _ _ holders (eq-eqb core core refl ∙ sym (eq-eqb lock lock refl))
      (λ c n. ne_eqb core c (λ e. n (sym e)) ∙ sym (ap (λ (o : Option ℕ). is o c) free))
      (λ l n. ne_eqb lock l (λ e. n (sym e)) ∙ sym (ap (λ (d : Attendance). holder_of d l) away))

  -- a core that did nothing is queued last
  pub queued_queues : (holder : ℕ) → does core ≡ Away → QueuesTied (upd locks lock (acquired_by (Some holder) (locks lock) core)) (upd does core (Waits lock))
  queued_queues holder away =
      tied_again queue_count wait_count locks does core lock _ _ queues
      (let e = occurs_last core core (locks lock).queue in let z = away_count away lock in let t = eq-eqb core core refl in let s = eq-eqb lock lock refl in grind (arith, nat_tests))
      (λ c n. let e = occurs_last c core (locks lock).queue in let t = ne_eqb core c (λ d. n (sym d)) in grind (arith, nat_tests))
      (λ l n. let t = ne_eqb lock l (λ e. n (sym e)) in ap (λ (b : Bool). cond {A = ℕ} b 1 0) t ∙ sym (ap (λ (d : Attendance). wait_count d l) away))

  pub queued_holders : (holder : ℕ) → does core ≡ Away → (locks lock).holder ≡ Some holder →
      HoldersTied (upd locks lock (acquired_by (Some holder) (locks lock) core)) (upd does core (Waits lock))
  queued_holders holder away is_held_lem =
      tied_again is_holder holder_of locks does core lock _ _ holders
      (ap (λ (o : Option ℕ). is o core) (sym is_held_lem) ∙ away_holder away lock)
      (λ c n. ap (λ (o : Option ℕ). is o c) (sym is_held_lem))
      (λ l n. sym (ap (λ (d : Attendance). holder_of d l) away))

  -- the lock as the core leaves it, before it passes on
  abbrev pub put_down : Lock
  put_down = record { holder = None; queue = (locks lock).queue; last = Some core }

  pub freed_queues : does core ≡ Holds lock → QueuesTied (upd locks lock put_down) (upd does core Away)
  freed_queues had =
      tied_again queue_count wait_count locks does core lock _ _ queues (queues core lock ∙ ap (λ (d : Attendance). wait_count d lock) had) (λ c n. refl)
      (λ l n. sym (ap (λ (d : Attendance). wait_count d l) had))

  pub freed_holders : does core ≡ Holds lock → HoldersTied (upd locks lock put_down) (upd does core Away)
  freed_holders had =
      tied_again is_holder holder_of locks does core lock _ _ holders refl
      (λ c n. one_holder (locks lock).holder core c (holders core lock ∙ ap (λ (d : Attendance). holder_of d lock) had ∙ eq-eqb lock lock refl) n)
      (λ l n. sym (ap (λ (d : Attendance). holder_of d l) had ∙ ne_eqb lock l (λ e. n (sym e))))

-- a lock that nobody holds goes to the first in its queue
module _ (locks : ℕ → Lock) (does : ℕ → Attendance) (lock next : ℕ) (more : List ℕ) (last : Option ℕ) (queues : QueuesTied locks does) (holders : HoldersTied locks does) where
  abbrev pub passed : Lock
  passed = record { holder = Some next; queue = more; last = last }

  -- the first in the queue waits for the lock
  pub first_waits : (locks lock).queue ≡ next ∷ more → does next ≡ Waits lock
  first_waits q = go (does next) (sym (queues next lock) ∙ ap (occurs next) q)
    where
      go : (d : Attendance) → wait_count d lock ≡ occurs next (next ∷ more) → d ≡ Waits lock
      go Away e = let t = eq-eqb next next refl in let no_way : ⊥ = grind (arith, nat_tests) in absurd no_way
      go (Holds held) e = let t = eq-eqb next next refl in let no_way : ⊥ = grind (arith, nat_tests) in absurd no_way
      go (Waits wanted) e = ap Waits (⊎_elim (λ s. s) (λ n. let t = eq-eqb next next refl in let s = ne_eqb wanted lock n in let no_way : ⊥ = grind (arith, nat_tests) in absurd no_way) (cases_eq wanted lock))

  pub passed_queues : (locks lock).queue ≡ next ∷ more → QueuesTied (upd locks lock passed) (upd does next (Holds lock))
  passed_queues q =
      let waits = first_waits q in
      let once = sym (ap (occurs next) q) ∙ queues next lock ∙ ap (λ (d : Attendance). wait_count d lock) waits in
      tied_again queue_count wait_count locks does next lock _ _ queues
      (let t = eq-eqb next next refl in let s = eq-eqb lock lock refl in grind (arith, nat_tests))
      (λ c n. let t = ne_eqb next c (λ e. n (sym e)) in let e = ap (occurs c) q in grind (arith, nat_tests))
      (λ l n. sym (ap (λ (d : Attendance). wait_count d l) waits ∙ ap (λ (b : Bool). cond {A = ℕ} b 1 0) (ne_eqb lock l (λ e. n (sym e)))))

  pub passed_holders : (locks lock).queue ≡ next ∷ more → (locks lock).holder ≡ None → HoldersTied (upd locks lock passed) (upd does next (Holds lock))
  passed_holders q free =
      let waits = first_waits q in
      tied_again is_holder holder_of locks does next lock _ _ holders (eq-eqb next next refl ∙ sym (eq-eqb lock lock refl))
      (λ c n. ne_eqb next c (λ e. n (sym e)) ∙ sym (ap (λ (o : Option ℕ). is o c) free))
      (λ l n. ne_eqb lock l (λ e. n (sym e)) ∙ sym (ap (λ (d : Attendance). holder_of d l) waits))

-- a core that did nothing gets the lock or is queued for it, by who holds it
module _ (locks : ℕ → Lock) (does : ℕ → Attendance) (core lock : ℕ) (queues : QueuesTied locks does) (holders : HoldersTied locks does) (away : does core ≡ Away) where
  pub entered_queues : (holder : Option ℕ) → QueuesTied (upd locks lock (acquired_by holder (locks lock) core)) (upd does core (attending (granted holder (locks lock)) lock))
  entered_queues None = granted_queues locks does core lock queues holders away
  entered_queues (Some holder) = queued_queues locks does core lock queues holders holder away

  pub entered_holders : (holder : Option ℕ) → (locks lock).holder ≡ holder → HoldersTied (upd locks lock (acquired_by holder (locks lock) core)) (upd does core (attending (granted holder (locks lock)) lock))
  entered_holders None e = granted_holders locks does core lock queues holders away e
  entered_holders (Some holder) e = queued_holders locks does core lock queues holders holder away e

  -- and there is room for it: the holder, the core and those who wait are distinct
  pub room_for : (holder : ℕ) → (locks lock).holder ≡ Some holder → core < 8 → ((c : ℕ) → 8 ≤ c → does c ≡ Away) → length (locks lock).queue < 7
  room_for holder e below past = room (locks lock).queue holder core far once
    where
      facts : (c : ℕ) (d : Attendance) → does c ≡ d → (eqb holder c ≡ holder_of d lock) × (occurs c (locks lock).queue ≡ wait_count d lock)
      facts c d h =
          (ap (λ (o : Option ℕ). is o c) (sym e) ∙ holders c lock ∙ ap (λ (x : Attendance). holder_of x lock) h, queues c lock ∙ ap (λ (x : Attendance). wait_count x lock) h)

      far : (c : ℕ) → 8 ≤ c → occurs c (holder ∷ core ∷ (locks lock).queue) ≡ 0
      far c l = let f = facts c Away (past c l) in grind (arith, nat_tests)

      other : (c : ℕ) (d : Attendance) → does c ≡ d → (d ≡ Away → ⊥) → eqb core c ≡ false
      other c d h n = ne_eqb core c (λ k. n (sym h ∙ ap does (sym k) ∙ away))

      once : (c : ℕ) → occurs c (holder ∷ core ∷ (locks lock).queue) ≤ 1
      once c = go (does c) refl
        where
          go : (d : Attendance) → does c ≡ d → occurs c (holder ∷ core ∷ (locks lock).queue) ≤ 1
          go Away h = let f = facts c Away h in grind (arith, nat_tests)
          go (Holds held) h =
              let f = facts c (Holds held) h in let o = other c (Holds held) h (λ k. let z : ◌≡◌ {A = ℕ} 0 1 = cc in omega arith) in grind (arith, nat_tests)
          go (Waits wanted) h =
              let f = facts c (Waits wanted) h in let o = other c (Waits wanted) h (λ k. let z : ◌≡◌ {A = ℕ} 0 1 = cc in omega arith) in grind (arith, nat_tests)
