use Rattle.std.proofs.Common.{◌≡◌}
use Rattle.call.specs.Figures.{figures}
use Rattle.memory.specs.Views.{view}
use Rattle.memory.proofs.Settles.{Settling}
use Rattle.memory.proofs.memory.Memory.settle.Given as goal

-- the places passed are written back and counted, and the entries from here on are as they were
abbrev pub invariant-loop-at : goal.invariant-loop-at
invariant-loop-at g l =
    Settling (figures l.initial.self.figures) (view g.P.PageStore.words l.initial.self) (view g.P.PageStore.words l.self) l.initial.self.entries l.self.entries l.at l.settled
    × (l.self.figures ≡ l.initial.self.figures)
