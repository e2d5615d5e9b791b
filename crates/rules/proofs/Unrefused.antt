-- What a call that is not refused tells: no row of it is met. Assumes nothing.
use Rattle.std.proofs.Common.{◌≡◌, ℕ, ◌<◌, true, false, List, [], ◌∷◌, None, Option}
use Rattle.std.proofs.lemmas.Bool.{leb-false, not-false}
use Rattle.call.specs.declared.call.Call.TheVariants as call
use Rattle.call.specs.declared.refusal.Refusal.TheVariants.{NoCore, OutsideBoard, Waiting, ReadOnly, NotHolder, AllowanceSpent, NoLock, HoldsLock, NotHeld}
use Rattle.rules.specs.Plans.{Mode, mode_of, is_read_only}
use Rattle.rules.specs.Refusals.{refusal, rows, waits, holds, holds_some, shut_out, load_race, store_race}
use Rattle.rules.specs.State.{Ledger, Setting}
use Rattle.rules.specs.Tables.{first}
use Rattle.rules.proofs.Accesses.{first_none, when_none}

-- no answer in a list of answers
abbrev NoneOf : {X : Type 0} → List (Option X) → Type 0
NoneOf [] = Unit {0}
NoneOf (r ∷ rs) = (r ≡ None) × NoneOf rs

none_of : {X : Type 0} (rs : List (Option X)) → first rs ≡ None → NoneOf rs
none_of [] e = tt
none_of (r ∷ rs) e = let p = first_none r rs e in (p.0, none_of rs p.1)

module _ (b : Setting) (l : Ledger) where
  abbrev mode : ℕ → Mode
  mode word = mode_of b.figures l.plan word

  pub record LoadPasses (core word : ℕ) : Type 0 where
    pub in_cores : core < b.figures.cores
    pub in_size : word < b.size
    pub awake : waits l.locks core ≡ false
    pub open_to : shut_out l.locks (mode word) core ≡ false
    pub unraced : load_race (mode word) l.accesses core word ≡ None

  pub load_passes : (core word : ℕ) → refusal b l (call.Load core word) ≡ None → LoadPasses core word
  load_passes core word e =
      let n = none_of (rows b l (call.Load core word)) e in
      record {
        in_cores = leb-false _ _ (when_none _ NoCore n.0);
        in_size = leb-false _ _ (when_none _ OutsideBoard n.1.0);
        awake = when_none _ Waiting n.1.1.0;
        open_to = when_none _ NotHolder n.1.1.1.0;
        unraced = n.1.1.1.1.0;
      }

  pub record StorePasses (core word : ℕ) : Type 0 where
    pub in_cores : core < b.figures.cores
    pub in_size : word < b.size
    pub awake : waits l.locks core ≡ false
    pub writable : is_read_only (mode word) ≡ false
    pub open_to : shut_out l.locks (mode word) core ≡ false
    pub unraced : store_race (mode word) l.accesses core word ≡ None
    pub unspent : l.counts core < b.figures.allowance

  pub store_passes : (core word value : ℕ) → refusal b l (call.Store core word value) ≡ None → StorePasses core word
  store_passes core word value e =
      let n = none_of (rows b l (call.Store core word value)) e in
      record {
        in_cores = leb-false _ _ (when_none _ NoCore n.0);
        in_size = leb-false _ _ (when_none _ OutsideBoard n.1.0);
        awake = when_none _ Waiting n.1.1.0;
        writable = when_none _ ReadOnly n.1.1.1.0;
        open_to = when_none _ NotHolder n.1.1.1.1.0;
        unraced = n.1.1.1.1.1.0;
        unspent = leb-false _ _ (when_none _ AllowanceSpent n.1.1.1.1.1.1.0);
      }

  pub record LockPasses (core lock : ℕ) : Type 0 where
    pub in_cores : core < b.figures.cores
    pub awake : waits l.locks core ≡ false
    pub in_locks : lock < 8

  pub acquire_passes : (core lock : ℕ) → refusal b l (call.Acquire core lock) ≡ None → LockPasses core lock × (holds_some l.locks core ≡ false)
  acquire_passes core lock e =
      let n = none_of (rows b l (call.Acquire core lock)) e in (
        record { in_cores = leb-false _ _ (when_none _ NoCore n.0); awake = when_none _ Waiting n.1.0; in_locks = leb-false _ _ (when_none _ NoLock n.1.1.0) },
        when_none _ HoldsLock n.1.1.1.0,
      )

  pub release_passes : (core lock : ℕ) → refusal b l (call.Release core lock) ≡ None → LockPasses core lock × (holds l.locks core lock ≡ true)
  release_passes core lock e =
      let n = none_of (rows b l (call.Release core lock)) e in (
        record { in_cores = leb-false _ _ (when_none _ NoCore n.0); awake = when_none _ Waiting n.1.0; in_locks = leb-false _ _ (when_none _ NoLock n.1.1.0) },
        not-false (holds l.locks core lock) (when_none _ NotHeld n.1.1.1.0),
      )
