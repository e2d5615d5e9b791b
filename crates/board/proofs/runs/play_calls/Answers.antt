use Rattle.std.proofs.Common.{ap}
use Rattle.call.proofs.Passing.{figures_checked}
use Rattle.call.specs.Figures.{figures}
use Rattle.board.proofs.Whole.{runs}
use Rattle.board.proofs.runs.play_calls.Goals as goal

pub returns-clause-run : goal.returns-clause-run
returns-clause-run g c =
    let sentences = g.S.Signature in
    runs g.P.PageStore.words g.S.Signature.operations (record { puts = sentences.puts; takes_in = sentences.takes_in; clears = sentences.clears }) (figures c.args.figures) (g.P.PageStore.words c.args.page) c.args.signature c.open-board.result _ _ _ _ (figures_checked c.args.figures) (ap figures c.open-board.ensures.figures) c.open-board.ensures.size c.open-board.ensures.state c.open-board.ensures.remembers c.open-board.ensures.signature c.play-made.ensures.plays
