use Rattle.std.proofs.Common.{◌∙◌}
use Rattle.memory.proofs.Opens.{owned_taken}
use Rattle.memory.proofs.memory.Memory.owned_below.Goals as goal

pub returns : goal.returns
returns g c =
    let m = c.args.self.now in
    c.owned_first.ensures ∙ owned_taken (g.P.PageStore.words m.page) m.entries m.owners c.args.size
