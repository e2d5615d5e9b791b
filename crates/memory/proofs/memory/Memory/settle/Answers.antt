use Rattle.std.proofs.Common.{refl, ap, ◌∙◌, arith}
use Rattle.call.specs.Figures.{figures}
use Rattle.memory.specs.Views.{view}
use Rattle.memory.proofs.Settles.{settling_none, settling_more, settling_all}
use Rattle.memory.proofs.Views.{slots_most, cores_most}
use Rattle.memory.proofs.memory.Memory.settle.Goals as goal

pub loop-at-init : goal.loop-at-init
loop-at-init g c =
    let m = c.args.self.now in
    (settling_none (figures m.figures) (view g.P.PageStore.words m) m.entries, refl {a = m.figures})

pub loop-at-preserved : goal.loop-at-preserved
loop-at-preserved g c =
    let words = g.P.PageStore.words in
    let m = c.args.self.now in
    let n = c.loop-at.self in
    let after = c.settle_at.new.self in
    let done = c.settle_at.ensures in
    (settling_more (figures m.figures) (figures n.figures) (words m.page) m.entries n.entries after.entries m.owners (view words n) (view words after) c.loop-at.at c.loop-at.settled c.settle_at.result (ap figures c.loop-at.invariant.1) c.loop-at.invariant.0 done.after done.answer done.rest, done.figures ∙ c.loop-at.invariant.1)

pub returns : goal.returns
returns g c =
    let m = c.args.self.now in
    let n = c.loop-at.self in
    let all = settling_all (figures m.figures) (view g.P.PageStore.words m) (view g.P.PageStore.words n) m.entries n.entries c.loop-at.at c.loop-at.settled (slots_most m.figures) (cores_most m.figures) (omega arith) c.loop-at.invariant.0 in
    record { figures = c.loop-at.invariant.1; answer = all.answer; after = all.after }
