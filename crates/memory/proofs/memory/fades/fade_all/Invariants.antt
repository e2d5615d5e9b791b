use Rattle.call.specs.Figures.{figures}
use Rattle.memory.proofs.Fades.{Fading}
use Rattle.memory.proofs.memory.fades.fade_all.Given as goal

-- the entries passed are faded and counted, and those from here on are as they were
abbrev pub invariant-loop-at : goal.invariant-loop-at
invariant-loop-at l = Fading (figures l.figures) l.plan l.initial.entries l.entries l.at l.dropped
