use Rattle.std.proofs.Common.{ℕ, length, Option, refl, ap, ◌∙◌, arith}
use Rattle.std.proofs.lemmas.List.{length-set, get_or_default}
use Rattle.rules.specs.State.{Lock, free}
use Rattle.rules.specs.Steps.{released_to}
use Rattle.locks.specs.Rows.{passed_to}
use Rattle.locks.specs.Ties.{handed}
use Rattle.locks.proofs.Changes.{one_changed, next_below, release_queues, release_holders, length_handed}
use Rattle.locks.proofs.table.Locks.leave.Goals as goal

pub hand_over-requires : goal.hand_over-requires
hand_over-requires c =
    let s = c.args.self.now in
    let here = get_or_default s.rows c.args.lock c.index-self-lock.result free (omega arith) in
    (omega arith, next_below s c.args.core c.args.lock c.requires.0 c.requires.1.0 _ (c.release-next.ensures.answer ∙ ap (λ (l : Lock). passed_to l.queue) here) (length s.cores) s.eight_cores)

pub invariant_of-self : goal.invariant_of-self
invariant_of-self c =
    let s = c.args.self.now in
    let here = get_or_default s.rows c.args.lock c.index-self-lock.result free (omega arith) in
    let row = c.release-next.ensures.after ∙ ap (λ (l : Lock). released_to l.queue c.args.core) here in
    let cores = c.hand_over.ensures ∙ ap (λ (o : Option ℕ). handed s.cores c.args.core o c.args.lock) (c.release-next.ensures.answer ∙ ap (λ (l : Lock). passed_to l.queue) here) in
    record {
      eight_locks = length-set s.rows c.args.lock _ ∙ s.eight_locks;
      eight_cores = ap length c.hand_over.ensures ∙ length_handed s.cores c.args.core c.release-next.result c.args.lock ∙ s.eight_cores;
      queued = release_queues s c.args.core c.args.lock c.requires.0 c.requires.1.0 c.requires.1.1 _ row _ cores;
      held = release_holders s c.args.core c.args.lock c.requires.0 c.requires.1.0 c.requires.1.1 _ row _ cores;
    }

pub returns-clause-after : goal.returns-clause-after
returns-clause-after c =
    let here = get_or_default c.args.self.now.rows c.args.lock c.index-self-lock.result free (omega arith) in
    one_changed c.args.self.now c.args.core c.args.lock c.requires.0 c.requires.1.0 _ _ (c.release-next.ensures.after ∙ ap (λ (l : Lock). released_to l.queue c.args.core) here)

pub returns-clause-below : goal.returns-clause-below
returns-clause-below c =
    let here = get_or_default c.args.self.now.rows c.args.lock c.index-self-lock.result free (omega arith) in
    next_below c.args.self.now c.args.core c.args.lock c.requires.0 c.requires.1.0 _ (c.release-next.ensures.answer ∙ ap (λ (l : Lock). passed_to l.queue) here) 8 refl
