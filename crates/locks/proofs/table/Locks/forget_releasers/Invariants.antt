use Rattle.std.proofs.Common.{◌≡◌, ℕ, ◌<◌, ◌≤◌, length, get_or}
use Rattle.rules.specs.State.{free}
use Rattle.rules.specs.Steps.{forgetting}
use Rattle.locks.proofs.table.Locks.forget_releasers.Given as goal

abbrev pub invariant-loop-row : goal.invariant-loop-row
invariant-loop-row l =
    record {
      full : length l.row-items ≡ 8;
      done : (k : ℕ) → k < l.row-index → get_or l.row-items k free ≡ forgetting (get_or l.initial.row-items k free);
      left : (k : ℕ) → l.row-index ≤ k → get_or l.row-items k free ≡ get_or l.initial.row-items k free;
    }
