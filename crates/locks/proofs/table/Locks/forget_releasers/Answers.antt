use Rattle.std.proofs.Common.{◌≡◌, ℕ, ◌<◌, ◌≤◌, List, length, get_or, sym, ap, ◌∙◌, ⊎_elim, arith}
use Rattle.std.proofs.lemmas.Bool.{cases_lt}
use Rattle.std.proofs.lemmas.List.{get_or_past}
use Rattle.rules.specs.State.{Lock, free}
use Rattle.rules.specs.Steps.{forgetting}
use Rattle.locks.proofs.Ties.{queue_count, is_holder}
use Rattle.locks.proofs.table.Locks.forget_releasers.Goals as goal

-- once all locks are done, each reads as forgetting has it, also past the last
forgotten : (before after : List Lock) (i : ℕ) → length before ≤ i → ((k : ℕ) → k < i → get_or after k free ≡ forgetting (get_or before k free)) →
    ((k : ℕ) → i ≤ k → get_or after k free ≡ get_or before k free) → (k : ℕ) → get_or after k free ≡ forgetting (get_or before k free)
forgotten before after i all done left k =
    ⊎_elim (done k) (λ l. let past = get_or_past before k free (omega arith) in left k l ∙ past ∙ sym (ap forgetting past)) (cases_lt k i)

pub invariant_of-self : goal.invariant_of-self
invariant_of-self c =
    let s = c.args.self.now in
    let now = forgotten s.rows c.loop-row.row-items c.loop-row.row-index (let n = s.eight_locks in omega arith) c.loop-row.invariant.done c.loop-row.invariant.left in
    record {
      eight_locks = c.loop-row.invariant.full;
      eight_cores = s.eight_cores;
      queued = λ core lock. ap (queue_count core) (now lock) ∙ s.queued core lock;
      held = λ core lock. ap (is_holder core) (now lock) ∙ s.held core lock;
    }
