use Rattle.std.proofs.Common.{◌∙◌, arith}
use Rattle.memory.proofs.Opens.{no_place, owner_there, owner_past}
use Rattle.memory.proofs.memory.Memory.owner.Goals as goal

pub returns-in_err-place : goal.returns-in_err-place
returns-in_err-place g c =
    c.from_residual.ensures
    ∙ owner_past c.args.self.now.owners c.args.word (omega (arith, c.args.self.now.words, no_place c.new.result c.args.word c.new.ensures c.in_err-place.was))

pub returns-in_err-owner : goal.returns-in_err-owner
returns-in_err-owner g c =
    c.from_residual-in_err-owner.ensures
    ∙ owner_there c.args.self.now.owners _ c.args.word _ _ _ c.new.ensures c.in_ok-place.was c.owner_at.ensures c.in_err-owner.was

pub returns : goal.returns
returns g c =
    rw c.into.ensures
    (owner_there c.args.self.now.owners _ c.args.word _ _ _ c.new.ensures c.in_ok-place.was c.owner_at.ensures c.in_ok-owner.was)
