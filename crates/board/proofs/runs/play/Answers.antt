use Rattle.std.proofs.Common.{take, arith}
use Rattle.std.proofs.lemmas.List.{take_all, length-take-le}
use Rattle.board.proofs.Whole.{plays_none, plays_next}
use Rattle.board.proofs.runs.play.Goals as goal

pub loop-at-init : goal.loop-at-init
loop-at-init g c = plays_none _ _ _ _

pub loop-at-preserved : goal.loop-at-preserved
loop-at-preserved g c =
    let many = length-take-le c.min-most.result c.args.calls.now (omega arith) in
    plays_next _ _ _ _ _ _ _ _ _ _ _ _ (omega arith) (omega (arith, many)) c.loop-at.invariant c.«record».ensures.obeys c.«record».ensures.value

pub returns-clause-plays : goal.returns-clause-plays
returns-clause-plays g c =
    rw (take_all c.loop-at.at (take c.min-most.result c.args.calls.now) c.loop-at-test.false) at c.loop-at.invariant
