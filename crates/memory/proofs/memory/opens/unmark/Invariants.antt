use Rattle.std.proofs.Common.{◌≡◌}
use Rattle.rules.specs.State.{opened}
use Rattle.memory.proofs.memory.opens.unmark.Given as goal

-- the words passed are unmarked
abbrev pub invariant-loop-word : goal.invariant-loop-word
invariant-loop-word g l = g.P.PageStore.words l.page ≡ opened l.word (g.P.PageStore.words l.initial.page)
