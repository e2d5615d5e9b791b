use Rattle.std.proofs.Common.{◌≡◌, ◌≤◌, length, take, drop}
use Rattle.board.specs.Runs.{Plays}
use Rattle.job.specs.Jobs.{calls_of, rest}
use Rattle.play.proofs.player.play_all.Given as goal

-- the calls read so far are played, and the others are still to be read
abbrev pub invariant-loop-at : goal.invariant-loop-at
invariant-loop-at g l =
    (l.at-iterator.count ≤ length (calls_of l.initial.t-2))
    × (rest l.at-iterator.iter ≡ drop l.at-iterator.count (calls_of l.initial.t-2))
    × Plays g.P.PageStore.words g.S.Signature.operations l.initial.board l.board (take l.at-iterator.count (calls_of l.initial.t-2)) l.initial.answers l.answers
