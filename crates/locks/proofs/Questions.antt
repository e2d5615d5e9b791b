-- The questions that the rules ask by looking through the locks are told by what the core does: it waits just if it stands in
-- the queue that it waits for, and holds just if it is the holder of the lock that it holds. Assumes nothing.
use Rattle.std.proofs.Common.{◌≡◌, ℕ, ◌<◌, ◌≤◌, Bool, true, false, cond, eqb, List, [], ◌∷◌, sym, refl, ap, ◌∙◌, ⊎_elim, arith}
use Rattle.std.proofs.lemmas.Bool.{eq-eqb, ne_eqb, cases_lt, cases_eq, or_from, false≢true, or_left, or_right}
use Rattle.std.proofs.lemmas.Bool.Decides.{nat_tests}
use Rattle.rules.proofs.Members.{In, in_below}
use Rattle.rules.specs.Refusals.{waits, holds_some}
use Rattle.rules.specs.State.{Lock, free}
use Rattle.rules.specs.Tables.{some_of, below, is}
use Rattle.locks.specs.Ties.{occurs, holder_of, waiting, holding}
use Rattle.locks.specs.declared.attendance.Attendance.{Attendance}
use Rattle.locks.specs.declared.attendance.Attendance.TheVariants.{Away, Holds, Waits}
use Rattle.locks.proofs.Ties.{QueuesTied, HoldersTied, wait_count, queue_count}

pub none_of : {X : Type 0} (p : X → Bool) (xs : List X) → ((x : X) → p x ≡ false) → some_of p xs ≡ false
none_of p [] h = refl
none_of p (x ∷ xs) h = or_from (p x) (some_of p xs) (h x) (none_of p xs h)

pub one_of : {X : Type 0} (p : X → Bool) (xs : List X) (x : X) → In x xs → p x ≡ true → some_of p xs ≡ true
one_of p [] x i h = absurd i
one_of p (y ∷ ys) x i h = ⊎_elim (λ e. or_left (p y) (some_of p ys) (ap p (sym e) ∙ h)) (λ r. or_right (p y) (some_of p ys) (one_of p ys x r h)) i

-- a core that is counted 0 times stands not in a queue, one that is counted once does
absent : (core : ℕ) (q : List ℕ) → occurs core q ≡ 0 → some_of (λ waiter. eqb waiter core) q ≡ false
absent core [] h = refl
absent core (x ∷ q) h =
    or_from (eqb x core) (some_of (λ waiter. eqb waiter core) q) (grind (arith, nat_tests)) (absent core q (omega arith))

present : (core : ℕ) (q : List ℕ) → occurs core q ≡ 1 → some_of (λ waiter. eqb waiter core) q ≡ true
present core [] h = let no_way : ⊥ = omega arith in absurd no_way
present core (x ∷ q) h =
    ⊎_elim (λ e. or_left (eqb x core) (some_of (λ waiter. eqb waiter core) q) (eq-eqb x core e))
    (λ n. or_right (eqb x core) (some_of (λ waiter. eqb waiter core) q) (present core q (let f = ne_eqb x core n in grind (arith, nat_tests))))
    (cases_eq x core)

module _ (locks : ℕ → Lock) (does : ℕ → Attendance) (core : ℕ) (past : (l : ℕ) → 8 ≤ l → locks l ≡ free) (queues : QueuesTied locks does) (holders : HoldersTied locks does) where
  once : (wanted : ℕ) → does core ≡ Waits wanted → queue_count core (locks wanted) ≡ 1
  once wanted e = queues core wanted ∙ ap (λ (d : Attendance). wait_count d wanted) e ∙ ap (λ (b : Bool). cond {A = ℕ} b 1 0) (eq-eqb wanted wanted refl)

  holder_there : (held : ℕ) → does core ≡ Holds held → is (locks held).holder core ≡ true
  holder_there held e = holders core held ∙ ap (λ (d : Attendance). holder_of d held) e ∙ eq-eqb held held refl

  -- past lock 7 nobody waits, and nobody holds
  wanted_below : (wanted : ℕ) → does core ≡ Waits wanted → wanted < 8
  wanted_below wanted e =
      ⊎_elim (λ l. l) (λ m. let z = ap (queue_count core) (past wanted m) in let o = once wanted e in let no_way : ⊥ = omega arith in absurd no_way) (cases_lt wanted 8)

  held_below : (held : ℕ) → does core ≡ Holds held → held < 8
  held_below held e =
      ⊎_elim (λ l. l) (λ m. absurd (false≢true (sym (ap (λ (l : Lock). is l.holder core) (past held m)) ∙ holder_there held e))) (cases_lt held 8)

  pub waits_told : waits locks core ≡ waiting (does core)
  waits_told = go (does core) refl
    where
      go : (d : Attendance) → does core ≡ d → waits locks core ≡ waiting d
      go Away e = none_of (λ lock. some_of (λ waiter. eqb waiter core) (locks lock).queue) (below 8) (λ l. absent core (locks l).queue (queues core l ∙ ap (λ (d : Attendance). wait_count d l) e))
      go (Holds held) e = none_of (λ lock. some_of (λ waiter. eqb waiter core) (locks lock).queue) (below 8) (λ l. absent core (locks l).queue (queues core l ∙ ap (λ (d : Attendance). wait_count d l) e))
      go (Waits wanted) e =
          one_of (λ lock. some_of (λ waiter. eqb waiter core) (locks lock).queue) (below 8) wanted (in_below wanted 8 (wanted_below wanted e)) (present core (locks wanted).queue (once wanted e))

  pub holds_told : holds_some locks core ≡ holding (does core)
  holds_told = go (does core) refl
    where
      go : (d : Attendance) → does core ≡ d → holds_some locks core ≡ holding d
      go Away e = none_of (λ lock. is (locks lock).holder core) (below 8) (λ l. holders core l ∙ ap (λ (d : Attendance). holder_of d l) e)
      go (Waits wanted) e = none_of (λ lock. is (locks lock).holder core) (below 8) (λ l. holders core l ∙ ap (λ (d : Attendance). holder_of d l) e)
      go (Holds held) e = one_of (λ lock. is (locks lock).holder core) (below 8) held (in_below held 8 (held_below held e)) (holder_there held e)
