use Rattle.std.proofs.Common.{arith}
use Rattle.page.proofs.Slots.{filled}
use Rattle.page.proofs.bank.BankPageStore.write.Goals as goal

pub returns-clause-after : goal.returns-clause-after
returns-clause-after g c =
    let bank = c.args.self.now in
    let way = c.make_way.ensures in
    rw way.slots (rw way.below (filled bank.slots (g.P.PageStore.words bank.below) bank.full bank.lies c.args.place c.args.word (omega arith)))
