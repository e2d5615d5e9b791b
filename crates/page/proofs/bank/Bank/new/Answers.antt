use Rattle.std.proofs.Common.{replicate, None, refl}
use Rattle.page.proofs.Slots.{empty_lies, laid_empty}
use Rattle.page.proofs.bank.Bank.new.Goals as goal

pub invariant_of-result-clause-lies : goal.invariant_of-result-clause-lies
invariant_of-result-clause-lies g c = empty_lies (replicate 128 None) refl

pub returns-clause-same : goal.returns-clause-same
returns-clause-same g c = laid_empty (replicate 128 None) (g.P.PageStore.words c.args.below) refl
