use Rattle.std.proofs.Common.{ap, set, ◌∙◌}
use Rattle.std.proofs.lemmas.Bool.{lt-ltb}
use Rattle.signature.specs.Rows.{bits, taken_in_bits}
use Rattle.signature.proofs.Same.{rows_joined}
use Rattle.signature.proofs.rows.Rows.take_in.Goals as goal

pub returns-then-other-lt8-clause-after : goal.returns-then-other-lt8-clause-after
returns-then-other-lt8-clause-after g c =
    rw (lt-ltb c.args.core 8 c.if-core-lt8.true, lt-ltb c.args.other 8 c.if-other-lt8.true)
    (rows_joined c.args.self.now _ c.args.core c.args.other (ap (set c.args.self.now.table c.args.core) c.joined.ensures))

pub returns-then-other-lt8-clause-exactly : goal.returns-then-other-lt8-clause-exactly
returns-then-other-lt8-clause-exactly g c =
    λ d x. ap (λ r. bits r d x) (returns-then-other-lt8-clause-after g c) ∙ taken_in_bits c.args.self.now c.args.core c.args.other d x
