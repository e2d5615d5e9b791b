use Rattle.std.proofs.Common.{◌≡◌, ℕ, replicate, get_or, sym, ap, ◌∙◌, rules, arith}
use Rattle.std.proofs.lemmas.List.{get_or-replicate}
use Rattle.rules.specs.State.{free}
use Rattle.locks.specs.declared.attendance.Attendance.{Attendance}
use Rattle.locks.specs.declared.attendance.Attendance.TheVariants.{Away}
use Rattle.locks.proofs.Tables.{constant}
use Rattle.locks.proofs.Ties.{queue_count, wait_count, is_holder}
use Rattle.locks.specs.Ties.{holder_of}
use Rattle.locks.proofs.table.Locks.free.Goals as goal

-- at first no core does anything
away : (core : ℕ) → get_or (replicate 8 Away) core Away ≡ Away
away = constant Away (replicate 8 Away) (λ j l. get_or-replicate 8 j Away Away l)

pub invariant_of-result : goal.invariant_of-result
invariant_of-result c =
    let each = constant free c.from_fn.result (λ l b. let h = c.from_fn.ensures.items.at l free (let n = c.from_fn.ensures.items.long in omega arith) in search (rules, h)) in
    record {
      eight_locks = c.from_fn.ensures.items.long;
      eight_cores = search rules;
      queued = λ core lock. ap (queue_count core) (each lock) ∙ sym (ap (λ (d : Attendance). wait_count d lock) (away core));
      held = λ core lock. ap (is_holder core) (each lock) ∙ sym (ap (λ (d : Attendance). holder_of d lock) (away core));
    }

pub returns : goal.returns
returns c = λ i l. constant free c.from_fn.result (λ l b. let h = c.from_fn.ensures.items.at l free (let n = c.from_fn.ensures.items.long in omega arith) in search (rules, h)) l i
