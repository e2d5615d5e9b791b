use Rattle.std.proofs.Common.{arith}
use Rattle.memory.proofs.Pages.{opened_none, opened_step}
use Rattle.memory.proofs.memory.opens.unmark.Goals as goal

pub loop-word-init : goal.loop-word-init
loop-word-init g c = opened_none (g.P.PageStore.words c.args.page.now)

pub loop-word-preserved : goal.loop-word-preserved
loop-word-preserved g c =
    opened_step (g.P.PageStore.words c.args.page.now) (g.P.PageStore.words c.loop-word.page) _ c.loop-word.word (omega (arith, c.requires)) c.loop-word.invariant c.unmark_at.ensures
