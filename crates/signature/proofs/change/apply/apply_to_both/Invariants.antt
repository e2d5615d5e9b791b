use Rattle.std.proofs.Common.{◌≡◌, take}
use Rattle.sets.specs.Sentences.{Within}
use Rattle.signature.specs.Changes.{applied}
use Rattle.signature.specs.Exacts.{operations, held}
use Rattle.signature.proofs.change.apply.apply_to_both.Given as goal

abbrev pub invariant-loop-change : goal.invariant-loop-change
invariant-loop-change g l =
    (l.exact ≡ applied operations l.initial.exact (take l.change-index l.changes))
    × (l.other ≡ applied g.S.Signature.operations l.initial.other (take l.change-index l.changes))
    × (Within (held l.initial.exact) (g.S.Signature.operations.holds l.initial.other) → Within (held l.exact) (g.S.Signature.operations.holds l.other))
