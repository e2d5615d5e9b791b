use Rattle.std.proofs.Common.{Some, None, sym, ap, ◌∙◌, arith}
use Rattle.page.proofs.BankDrain.{drain_start, drain_step, drain_end}
use Rattle.page.proofs.Slots.{laid_empty}
use Rattle.page.proofs.bank.Bank.drain.Goals as goal
use Rattle.page.proofs.bank.Bank.drain.Goals.{in-Some, in_default}

pub loop-slot-init : goal.loop-slot-init
loop-slot-init g c =
    drain_start c.args.self.now.slots (g.P.PageStore.words c.args.self.now.below) c.args.self.now.full c.args.self.now.lies

pub invariant_of-self : goal.invariant_of-self
invariant_of-self g c = record { full = c.loop-slot.invariant.0; lies = c.loop-slot.invariant.1 }

pub loop-slot-preserved : goal.loop-slot-preserved
loop-slot-preserved g c =
    let few = c.loop-slot-test.true in
    let slots = c.loop-slot.slot-items in
    let below = g.P.PageStore.words c.loop-slot.self.1.1.0 in
    let step = drain_step slots below c.loop-slot.slot-index _ c.slot-item.result c.loop-slot.invariant in
    let held = c.take.ensures.value in
    let gone = c.take.ensures.after in
    elim c.match-take.branch [
      | in-Some w ↦ step _ _ (Some w.in-Some.change) (omega (arith, c.loop-slot.invariant.0)) (sym w.in-Some.is ∙ held) gone (ap (λ p. g.P.PageStore.words p.1.1.0) w.self-is ∙ w.write.ensures.after)
      | in_default w ↦ step _ _ None (omega (arith, c.loop-slot.invariant.0)) (sym w.in_default.is ∙ held) gone (ap (λ p. g.P.PageStore.words p.1.1.0) w.self-is)
    ]

pub returns : goal.returns
returns g c =
    let slots = c.loop-slot.slot-items in
    let below = g.P.PageStore.words c.loop-slot.self.1.1.0 in
    let empty = drain_end slots below c.loop-slot.slot-index _ c.loop-slot.invariant (omega arith) in
    record {
      slots = empty;
      below = sym (laid_empty slots below empty) ∙ c.loop-slot.invariant.3;
      same = c.loop-slot.invariant.3;
    }
