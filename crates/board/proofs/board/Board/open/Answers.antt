use Rattle.std.proofs.Common.{refl, ap, ◌∙◌}
use Rattle.call.specs.Figures.{figures}
use Rattle.rules.specs.State.{Memory}
use Rattle.board.proofs.Counts.{no_counts}
use Rattle.board.proofs.Opens.{size_kept}
use Rattle.board.proofs.Performing.{same_state}
use Rattle.board.proofs.board.Board.open.Goals as goal

pub returns-clause-size : goal.returns-clause-size
returns-clause-size g c =
    c.size-size.ensures.value
    ∙ size_kept _ _ _ _ _ (ap figures c.open-memory.ensures.figures) (ap (λ (m : Memory). m.page) c.open-memory.ensures.after)

pub returns-clause-state : goal.returns-clause-state
returns-clause-state g c = same_state c.open-memory.ensures.after c.free.ensures (no_counts 8) refl
