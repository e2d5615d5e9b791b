-- Acquire: why it is refused, what it answers and what it leaves. Assumes nothing.
use Rattle.std.specs.Prelude.{ℕ, List, [], ◌∷◌, Option, Result}
use Rattle.call.specs.declared.refusal.Refusal.{Refusal}
use Rattle.call.specs.declared.refusal.Refusal.TheVariants.{HoldsLock}
use Rattle.rules.specs.Refusals.{holds_some}
use Rattle.rules.specs.State.{Lock}
use Rattle.rules.specs.Steps.{acquired_by}
use Rattle.rules.specs.Tables.{first, when, upd}
use Rattle.locks.specs.Refused.{common_rows, answered, left}
use Rattle.locks.specs.Rows.{granted}
use Rattle.locks.specs.declared.grant.Grant.{Grant}

module _ (locks : ℕ → Lock) (core lock : ℕ) where
  -- the rows of acquire, in order
  abbrev pub acquire_rows : List (Option Refusal)
  acquire_rows = common_rows locks core lock (when (holds_some locks core) HoldsLock ∷ [])

  abbrev pub acquire_answer : Result Grant Refusal
  acquire_answer = answered (first acquire_rows) (granted (locks lock).holder (locks lock))

  -- the locks after an acquire: this one as acquired, all others as they were
  abbrev pub acquire_after : ℕ → Lock
  acquire_after = left (first acquire_rows) locks (upd locks lock (acquired_by (locks lock).holder (locks lock) core))
