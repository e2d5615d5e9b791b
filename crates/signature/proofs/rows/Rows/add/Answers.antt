use Rattle.std.proofs.Common.{rules, ap, ◌∙◌}
use Rattle.signature.specs.Rows.{bits, with_bit_bits}
use Rattle.signature.proofs.Same.{rows_with_bit}
use Rattle.signature.proofs.rows.Rows.add.Goals as goal

pub returns-clause-after : goal.returns-clause-after
returns-clause-after g c = rows_with_bit c.args.self.now _ c.args.core c.args.bit (search rules)

pub returns-clause-exactly : goal.returns-clause-exactly
returns-clause-exactly g c =
    λ d x. ap (λ r. bits r d x) (returns-clause-after g c) ∙ with_bit_bits c.args.self.now c.args.core c.args.bit c.requires.0 c.requires.1 d x
