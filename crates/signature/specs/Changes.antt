-- Changes of a signature by its own operations, one and a list of them. Assumes nothing.
use Rattle.std.specs.Prelude.{List, fold}
use Rattle.sets.specs.Operations.{Operations}
use Rattle.signature.specs.declared.change.Change.{Change}
use Rattle.signature.specs.declared.change.Change.TheVariants.{Put, TakeIn, Clear}

-- a signature after one change
abbrev pub changed : {S : Type 0} → Operations S → S → Change → S
changed ops s (Put core word) = ops.put s core word
changed ops s (TakeIn core other) = ops.take_in s core other
changed ops s (Clear core) = ops.clear s core

-- a signature after a list of changes, the first of the list first
abbrev pub applied : {S : Type 0} → Operations S → S → List Change → S
applied ops s xs = fold (changed ops) s xs
