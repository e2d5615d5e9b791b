use Rattle.std.proofs.Common.{take}
use Rattle.board.specs.Runs.{Plays}
use Rattle.board.proofs.runs.play.Given as goal

-- the calls passed are played
abbrev pub invariant-loop-at : goal.invariant-loop-at
invariant-loop-at g l =
    Plays g.P.PageStore.words g.S.Signature.operations l.initial.board l.board (take l.at l.call-items) l.initial.answers l.answers
