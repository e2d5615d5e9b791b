use Rattle.std.proofs.Common.{◌≡◌, map}
use Rattle.rules.specs.Steps.{clear, changed_by}
use Rattle.rules.specs.Tables.{below}
use Rattle.board.proofs.board.phases.clear_all.Given as goal

-- the signatures of the cores passed are cleared
abbrev pub invariant-loop-core : goal.invariant-loop-core
invariant-loop-core g l =
    l.signature ≡ changed_by g.S.Signature.operations l.initial.signature (map clear (below l.core))
