use Rattle.std.proofs.Common.{◌≡◌, ◌<◌, true, length, is_some, ap, ◌∙◌, subst, arith}
use Rattle.std.proofs.lemmas.List.{length-set, get_or_default}
use Rattle.rules.specs.State.{Lock, free}
use Rattle.rules.specs.Steps.{acquired_by}
use Rattle.locks.specs.Rows.{granted}
use Rattle.locks.specs.Ties.{attending}
use Rattle.locks.specs.declared.grant.Grant.{Grant}
use Rattle.locks.proofs.Changes.{one_changed, acquire_queues, acquire_holders}
use Rattle.locks.proofs.Kept.{has_room}
use Rattle.locks.proofs.table.Locks.enter.Goals as goal

pub acquire-grant-requires : goal.acquire-grant-requires
acquire-grant-requires c =
    subst (λ (l : Lock). is_some l.holder ≡ true → length l.queue < 7) (get_or_default c.args.self.now.rows c.args.lock free _ (omega arith))
    (has_room c.args.self.now c.args.core c.args.lock c.requires.0 c.requires.1.1)

pub returns-clause-after : goal.returns-clause-after
returns-clause-after c =
    let here = get_or_default c.args.self.now.rows c.args.lock c.index-self-lock.result free (omega arith) in
    one_changed c.args.self.now c.args.core c.args.lock c.requires.0 c.requires.1.0 _ _
    (c.acquire-grant.ensures.after ∙ ap (λ (l : Lock). acquired_by l.holder l c.args.core) here)

pub invariant_of-self : goal.invariant_of-self
invariant_of-self c =
    let s = c.args.self.now in
    let here = get_or_default s.rows c.args.lock c.index-self-lock.result free (omega arith) in
    let row = c.acquire-grant.ensures.after ∙ ap (λ (l : Lock). acquired_by l.holder l c.args.core) here in
    let now = c.after.ensures ∙ ap (λ (g : Grant). attending g c.args.lock) (c.acquire-grant.ensures.answer ∙ ap (λ (l : Lock). granted l.holder l) here) in
    record {
      eight_locks = length-set s.rows c.args.lock _ ∙ s.eight_locks;
      eight_cores = length-set s.cores c.args.core _ ∙ s.eight_cores;
      queued = acquire_queues s c.args.core c.args.lock c.requires.0 c.requires.1.0 _ row c.requires.1.1 _ now;
      held = acquire_holders s c.args.core c.args.lock c.requires.0 c.requires.1.0 _ row c.requires.1.1 _ now;
    }
