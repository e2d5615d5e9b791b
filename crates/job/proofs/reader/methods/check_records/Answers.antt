use Rattle.std.proofs.Common.{sym, ap, ◌∙◌, rules}
use borrow.Author.Tests.{tests}
use Rattle.std.proofs.lemmas.Iterator.{YieldsList-from_slice}
use Rattle.std.proofs.lemmas.Iterator.Search.{position_from_yields_List}
use Rattle.job.proofs.Records.{unlawful, fault_of, first_unlawful}
use Rattle.job.proofs.reader.methods.check_records.Goals as goal

pub returns-in-Some : goal.returns-in-Some
returns-in-Some c =
    let rs = c.args.records.now in
    let at = position_from_yields_List unlawful _ _ c.position.result c.position.ensures.ran (YieldsList-from_slice rs cc) (λ x b q k. search (rules, tests)) in
    first_unlawful rs 16 ∙ ap (fault_of 16) (sym at ∙ c.in-Some.is)

pub returns-in-None : goal.returns-in-None
returns-in-None c =
    let rs = c.args.records.now in
    let at = position_from_yields_List unlawful _ _ c.position.result c.position.ensures.ran (YieldsList-from_slice rs cc) (λ x b q k. search (rules, tests)) in
    first_unlawful rs 16 ∙ ap (fault_of 16) (sym at ∙ c.in-None.is)
