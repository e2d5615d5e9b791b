use Rattle.std.proofs.Common.{arith}
use Rattle.call.specs.Figures.{figures}
use Rattle.memory.proofs.Fades.{fading_none, fading_more, fading_all}
use Rattle.memory.proofs.memory.fades.fade_all.Goals as goal

pub loop-at-init : goal.loop-at-init
loop-at-init c = fading_none (figures c.args.figures.now) c.args.plan c.args.entries.now

pub loop-at-preserved : goal.loop-at-preserved
loop-at-preserved c =
    fading_more (figures c.args.figures.now) c.args.plan c.args.entries.now c.loop-at.entries c.loop-at.at c.loop-at.dropped c.fade_at.result c.fade_at.new.held c.index-entries-at.result
    c.loop-at-test.true
    c.fade_at.ensures.after
    c.fade_at.ensures.answer
    c.loop-at.invariant

pub returns-clause-after : goal.returns-clause-after
returns-clause-after c =
    fading_all (figures c.args.figures.now) c.args.plan c.args.entries.now c.loop-at.entries c.loop-at.at c.loop-at.dropped (omega arith) c.requires c.loop-at.invariant
