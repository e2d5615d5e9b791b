use Rattle.board.proofs.Performing.{exit_obeys, performed_obeys}
use Rattle.board.proofs.board.Board.phase.Goals as goal

pub returns-in_err-check_phase : goal.returns-in_err-check_phase
returns-in_err-check_phase g c = exit_obeys _ _ _ _ _ _ _ c.from_residual.ensures.1 c.in_err-check_phase.ensures

pub returns : goal.returns
returns g c = performed_obeys _ _ _ _ _ _ c.in_ok-check_phase.ensures c.begin.ensures
