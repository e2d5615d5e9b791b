use Rattle.std.proofs.Common.{refl, ap, ◌∙◌}
use Rattle.std.proofs.lemmas.Bool.{lt-ltb}
use Rattle.signature.specs.Rows.{bits, cleared_bits}
use Rattle.signature.proofs.Same.{rows_emptied}
use Rattle.signature.proofs.rows.Rows.clear.Goals as goal

pub returns-then-core-lt8-clause-after : goal.returns-then-core-lt8-clause-after
returns-then-core-lt8-clause-after g c = rw (lt-ltb c.args.core 8 c.if-core-lt8.true) (rows_emptied c.args.self.now _ c.args.core refl)

pub returns-then-core-lt8-clause-exactly : goal.returns-then-core-lt8-clause-exactly
returns-then-core-lt8-clause-exactly g c =
    λ d x. ap (λ r. bits r d x) (returns-then-core-lt8-clause-after g c) ∙ cleared_bits c.args.self.now c.args.core d x
