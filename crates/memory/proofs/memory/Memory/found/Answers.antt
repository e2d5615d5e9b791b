use Rattle.std.proofs.Common.{◌∙◌, arith}
use Rattle.call.specs.Figures.{figures}
use Rattle.memory.proofs.Views.{copy_found, seated, slot_below}
use Rattle.memory.proofs.memory.Memory.found.Goals as goal

pub returns : goal.returns
returns g c =
    let m = c.args.self.now in
    copy_found (figures m.figures) (g.P.PageStore.words m.page) m.entries m.owners c.args.core.number c.args.word.number c.index.result c.index-self-index.result c.state_for.result
    (slot_below m.figures c.args.word.number)
    (c.index.ensures.value ∙ seated c.seat.result _ _ c.seat.ensures.core c.seat.ensures.slot)
    (omega (arith, m.caches))
    c.state_for.ensures
