use Rattle.std.proofs.Common.{◌∙◌}
use Rattle.board.proofs.Refusing.{exit_told, place_met, waiting_met, waiting_past}
use Rattle.board.proofs.board.Board.check_load.Goals as goal

pub returns-in_err-core-clause-told : goal.returns-in_err-core-clause-told
returns-in_err-core-clause-told g c accesses m =
    exit_told _ _ c.from_residual.ensures.1
    ∙ place_met c.args.self.now accesses c.args.core c.args.word _ _ (c.in_err-core.ensures.told accesses m)

pub returns-in_err-check_waiting-clause-told : goal.returns-in_err-check_waiting-clause-told
returns-in_err-check_waiting-clause-told g c accesses m =
    let waiting = rw c.in_ok-core.ensures.found.0 at c.in_err-check_waiting.ensures in
    exit_told _ _ c.from_residual-in_err-check_waiting.ensures.1
    ∙ waiting_met c.args.self.now accesses c.args.core c.args.word (c.in_ok-core.ensures.told accesses m) _ _ waiting

pub returns-in_err-check_load_mode-clause-told : goal.returns-in_err-check_load_mode-clause-told
returns-in_err-check_load_mode-clause-told g c accesses m =
    let found = c.in_ok-core.ensures.found in
    let free = rw found.0 at c.in_ok-check_waiting.ensures in
    let mode = rw (found.0, found.1) at c.in_err-check_load_mode.ensures in
    exit_told _ _ c.from_residual-in_err-check_load_mode.ensures.1
    ∙ (mode accesses m
    ∙ waiting_past c.args.self.now accesses c.args.core c.args.word (c.in_ok-core.ensures.told accesses m) _ free)

pub returns-clause-told : goal.returns-clause-told
returns-clause-told g c accesses m =
    let found = c.in_ok-core.ensures.found in
    let free = rw found.0 at c.in_ok-check_waiting.ensures in
    let mode = rw (found.0, found.1) at c.in_ok-check_load_mode.ensures in
    mode accesses m
    ∙ waiting_past c.args.self.now accesses c.args.core c.args.word (c.in_ok-core.ensures.told accesses m) _ free
