use Rattle.std.proofs.Common.{ℕ, replicate, refl, ap, ◌∙◌}
use Rattle.call.specs.Figures.{figures}
use Rattle.rules.specs.State.{opened}
use Rattle.memory.proofs.Opens.{open_owned, opened_view}
use Rattle.memory.proofs.memory.Memory.open.Goals as goal

pub invariant_of-result-clause-owned : goal.invariant_of-result-clause-owned
invariant_of-result-clause-owned g c = open_owned (figures c.args.figures) 4096 (replicate 512 c.empty.result)

pub returns-clause-after : goal.returns-clause-after
returns-clause-after g c =
    opened_view 512 4096 _ _ _ _
    (c.unmark.ensures ∙ ap (λ (k : ℕ). opened k (g.P.PageStore.words c.args.page)) c.size_with-size.ensures.value)
    (ap (replicate 512) c.empty.ensures)
    refl
