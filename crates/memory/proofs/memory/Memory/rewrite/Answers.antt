use Rattle.std.proofs.Common.{◌∙◌, arith}
use Rattle.call.specs.Figures.{figures}
use Rattle.memory.proofs.Stores.{rewrite_owned, counted_at, stored_at}
use Rattle.memory.proofs.Views.{seated, slot_below}
use Rattle.memory.proofs.memory.Memory.rewrite.Goals as goal

pub invariant_of-self-clause-owned : goal.invariant_of-self-clause-owned
invariant_of-self-clause-owned g c =
    let m = c.args.self.now in
    let w = c.args.word.number in
    let here = counted_at (figures m.figures) (g.P.PageStore.words m.page) m.entries m.owners c.args.core.number w (slot_below m.figures w) c.requires in
    rewrite_owned (figures m.figures) m.entries m.owners c.args.core c.args.word c.index.result c.args.stored (omega (arith, m.caches)) m.owned (c.index.ensures.value ∙ seated c.seat-at.result _ _ c.seat-at.ensures.core c.seat-at.ensures.slot) here

pub returns-clause-after : goal.returns-clause-after
returns-clause-after g c =
    let m = c.args.self.now in
    stored_at (figures m.figures) (g.P.PageStore.words m.page) m.entries m.owners c.args.core.number c.args.word c.index.result c.args.stored (slot_below m.figures c.args.word.number) (c.index.ensures.value ∙ seated c.seat-at.result _ _ c.seat-at.ensures.core c.seat-at.ensures.slot) (omega (arith, m.caches))
