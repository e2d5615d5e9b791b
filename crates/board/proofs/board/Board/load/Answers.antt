use Rattle.board.proofs.Performing.{exit_obeys, performed_obeys}
use Rattle.board.proofs.board.Board.load.Goals as goal

pub returns-in_err-core : goal.returns-in_err-core
returns-in_err-core g c = exit_obeys _ _ _ _ _ _ _ c.from_residual.ensures.1 c.in_err-core.ensures.told

pub returns : goal.returns
returns g c =
    let found = c.in_ok-core.ensures.found in
    performed_obeys _ _ _ _ _ _ c.in_ok-core.ensures.told (rw (found.0, found.1) at c.give.ensures)
