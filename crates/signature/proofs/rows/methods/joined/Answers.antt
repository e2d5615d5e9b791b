use Rattle.std.proofs.Common.{arith}
use Rattle.std.proofs.lemmas.List.FromFn.{fill_by_all}
use Rattle.sets.specs.Tables.{row_joined}
use Rattle.signature.proofs.rows.methods.joined.Goals as goal

pub returns : goal.returns
unfolding row_joined
returns g c =
    let (wide, long, joined, rest) = c.loop-i.invariant in
    fill_by_all _ _ _ 0 long (λ k h. joined k (omega (arith, h, wide, long, c.loop-i-test.false)))
