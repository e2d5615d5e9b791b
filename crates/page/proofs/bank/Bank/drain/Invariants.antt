use Rattle.page.specs.Slots.{laid}
use Rattle.page.proofs.BankDrain.{Drained}
use Rattle.page.proofs.bank.Bank.drain.Given as goal

abbrev pub invariant-loop-slot : goal.invariant-loop-slot
invariant-loop-slot g l =
    Drained l.slot-items (g.P.PageStore.words l.self.1.1.0) l.slot-index
    (laid l.initial.slot-items (g.P.PageStore.words l.initial.self.1.1.0))
