-- Release: why it is refused, what it answers and what it leaves. Assumes nothing.
use Rattle.std.specs.Prelude.{ℕ, not, List, [], ◌∷◌, Option, Result}
use Rattle.call.specs.declared.refusal.Refusal.{Refusal}
use Rattle.call.specs.declared.refusal.Refusal.TheVariants.{NotHeld}
use Rattle.rules.specs.Refusals.{holds}
use Rattle.rules.specs.State.{Lock}
use Rattle.rules.specs.Steps.{released_to}
use Rattle.rules.specs.Tables.{first, when, upd}
use Rattle.locks.specs.Refused.{common_rows, answered, left}
use Rattle.locks.specs.Rows.{passed_to}

module _ (locks : ℕ → Lock) (core lock : ℕ) where
  -- the rows of release, in order
  abbrev pub release_rows : List (Option Refusal)
  release_rows = common_rows locks core lock (when (not (holds locks core lock)) NotHeld ∷ [])

  -- the core that the lock passed to, if any
  abbrev pub release_answer : Result (Option ℕ) Refusal
  release_answer = answered (first release_rows) (passed_to (locks lock).queue)

  -- the locks after a release: this one as released, all others as they were
  abbrev pub release_after : ℕ → Lock
  release_after = left (first release_rows) locks (upd locks lock (released_to (locks lock).queue core))
