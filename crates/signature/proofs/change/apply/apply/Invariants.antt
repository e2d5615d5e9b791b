use Rattle.std.proofs.Common.{◌≡◌, take}
use Rattle.signature.specs.Changes.{applied}
use Rattle.signature.proofs.change.apply.apply.Given as goal

abbrev pub invariant-loop-change : goal.invariant-loop-change
invariant-loop-change g l = l.s ≡ applied g.S.Signature.operations l.initial.s (take l.change-index l.changes)
