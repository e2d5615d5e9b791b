-- Why a call is refused: the rows of each call in the order of the list of refusals, the first that is met. They look at
-- the setting and the ledger alone, and so at nothing of caches, page or signature. Assumes nothing.
use Rattle.std.specs.Prelude.{ℕ, Bool, true, false, cond, not, ◌&&◌, List, [], ◌∷◌, is_some, Some, None, Option, ◌==◌, nat_eq, nat_le}
use Rattle.call.specs.declared.call.Call.{Call}
use Rattle.call.specs.declared.call.Call.TheVariants as call
use Rattle.call.specs.declared.refusal.Access.{Access}
use Rattle.call.specs.declared.refusal.Access.TheVariants.{Load, Store}
use Rattle.call.specs.declared.refusal.Refusal.{Refusal}
use Rattle.call.specs.declared.refusal.Refusal.TheVariants.{NoCore, OutsideBoard, Waiting, ReadOnly, NotHolder, Race, AllowanceSpent, NoLock, HoldsLock, NotHeld, BadMode, LockHeld}
use Rattle.rules.specs.Plans.{Mode, read_only, written, locked, mode_of, is_read_only, has_bad_mode}
use Rattle.rules.specs.State.{Setting, Ledger, Lock, Accessed}
use Rattle.rules.specs.Tables.{first, when, some_of, is, below}

-- whether the core waits in some lock's queue
abbrev pub waits : (ℕ → Lock) → ℕ → Bool
waits locks core = some_of (λ lock. some_of (λ waiter. nat_eq waiter core) (locks lock).queue) (below 8)

-- whether the core holds this lock, some lock; whether some lock is held
abbrev pub holds : (ℕ → Lock) → ℕ → ℕ → Bool
holds locks core lock = is (locks lock).holder core

abbrev pub holds_some : (ℕ → Lock) → ℕ → Bool
holds_some locks core = some_of (λ lock. holds locks core lock) (below 8)

abbrev pub some_held : (ℕ → Lock) → Bool
some_held locks = some_of (λ lock. is_some (locks lock).holder) (below 8)

-- the accesses have the same kind
abbrev pub same_access : Access → Access → Bool
same_access Load Load = true
same_access Load Store = false
same_access Store Load = false
same_access Store Store = true

-- an access of this kind to the word by a core other than this one
abbrev pub by_another : Access → ℕ → ℕ → Accessed → Bool
by_another access core word a = same_access a.access access && (a.word == word && not (a.core == core))

-- the core of the earliest such access
abbrev pub earliest : Access → ℕ → ℕ → List Accessed → Option ℕ
earliest access core word [] = None
earliest access core word (a ∷ more) = cond (by_another access core word a) (Some a.core) (earliest access core word more)

abbrev pub as_race : Access → Option ℕ → Option Refusal
as_race access None = None
as_race access (Some core) = Some (Race core access)

-- a load races with another core's store, a store with another core's store or else its load; in written strips only
abbrev pub load_race : Mode → List Accessed → ℕ → ℕ → Option Refusal
load_race read_only accesses core word = None
load_race written accesses core word = as_race Store (earliest Store core word accesses)
load_race (locked lock) accesses core word = None

abbrev pub store_race : Mode → List Accessed → ℕ → ℕ → Option Refusal
store_race read_only accesses core word = None
store_race written accesses core word =
    first (as_race Store (earliest Store core word accesses) ∷ as_race Load (earliest Load core word accesses) ∷ [])
store_race (locked lock) accesses core word = None

-- the strip is locked and the core does not hold its lock
abbrev pub shut_out : (ℕ → Lock) → Mode → ℕ → Bool
shut_out locks read_only core = false
shut_out locks written core = false
shut_out locks (locked lock) core = not (holds locks core lock)

module _ (b : Setting) (ledger : Ledger) where
  abbrev pub no_core : ℕ → Option Refusal
  no_core core = when (nat_le b.figures.cores core) NoCore

  abbrev pub outside : ℕ → Option Refusal
  outside word = when (nat_le b.size word) OutsideBoard

  abbrev pub mode : ℕ → Mode
  mode word = mode_of b.figures ledger.plan word

  -- the rows of each call, in order
  abbrev pub rows : Call → List (Option Refusal)
  rows (call.Load core word) =
      no_core core
      ∷ outside word
      ∷ when (waits ledger.locks core) Waiting
      ∷ when (shut_out ledger.locks (mode word) core) NotHolder
      ∷ load_race (mode word) ledger.accesses core word
      ∷ []
  rows (call.Store core word value) =
      no_core core
      ∷ outside word
      ∷ when (waits ledger.locks core) Waiting
      ∷ when (is_read_only (mode word)) ReadOnly
      ∷ when (shut_out ledger.locks (mode word) core) NotHolder
      ∷ store_race (mode word) ledger.accesses core word
      ∷ when (nat_le b.figures.allowance (ledger.counts core)) AllowanceSpent
      ∷ []
  rows (call.Evict core word) = no_core core ∷ outside word ∷ []
  rows (call.Acquire core lock) =
      no_core core
      ∷ when (waits ledger.locks core) Waiting
      ∷ when (nat_le 8 lock) NoLock
      ∷ when (holds_some ledger.locks core) HoldsLock
      ∷ []
  rows (call.Release core lock) =
      no_core core
      ∷ when (waits ledger.locks core) Waiting
      ∷ when (nat_le 8 lock) NoLock
      ∷ when (not (holds ledger.locks core lock)) NotHeld
      ∷ []
  rows (call.Phase plan) = when (has_bad_mode plan) BadMode ∷ when (some_held ledger.locks) LockHeld ∷ []
  rows call.Settle = []

  -- the refusal of a call, if a row is met
  abbrev pub refusal : Call → Option Refusal
  refusal c = first (rows c)
