use Rattle.memory.proofs.Views.{settled_after}
use Rattle.memory.proofs.memory.Memory.write_back.Goals as goal

pub returns-clause-after : goal.returns-clause-after
returns-clause-after g c =
    let t = c.turn_at.ensures in
    settled_after g.P.PageStore.words c.args.self.now _ _ _ c.args.at t.page t.entries t.owners
