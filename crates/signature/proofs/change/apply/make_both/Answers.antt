use Rattle.signature.proofs.Changes.{once_within}
use Rattle.signature.proofs.change.apply.make_both.Goals as goal

pub returns-clause-never_loses : goal.returns-clause-never_loses
returns-clause-never_loses g c =
    once_within g.S.Signature.operations g.S.Signature.puts g.S.Signature.takes_in g.S.Signature.clears
    c.args.exact.now _ c.args.other.now _ c.args.change c.make.ensures c.make-2.ensures
