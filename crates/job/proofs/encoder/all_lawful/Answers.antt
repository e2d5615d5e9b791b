use Rattle.std.proofs.Common.{◌≡◌, ℕ, ◌<◌, false, length, subst, arith, rules}
use borrow.Author.Tests.{tests}
use Rattle.std.proofs.ByRecursion.{All-from_get_or}
use Rattle.std.proofs.lemmas.Iterator.{YieldsList-from_slice, cases_from_all}
use Rattle.std.proofs.lemmas.Iterator.Search.{all_from_yields_List}
use Rattle.std.specs.Bool.{MatchBool}
use Rattle.std.specs.List.{AllWithin, HoldsAt}
use Rattle.call.specs.declared.call.Call.{Call}
use Rattle.call.specs.declared.call.Call.TheVariants.{Settle}
use Rattle.job.specs.Encoding.{by_lawful_core, LawfulCall}
use Rattle.job.proofs.encoder.all_lawful.Goals as goal

pub returns-clause-value : goal.returns-clause-value
returns-clause-value c =
    all_from_yields_List by_lawful_core _ _ c.all.result c.all.ensures.ran (YieldsList-from_slice c.args.calls.now cc) (λ x b q k. search (rules, tests))

pub returns-clause-lawful : goal.returns-clause-lawful
returns-clause-lawful c = λ h.
    let cs = c.args.calls.now in
    let unlawful : Call → Type 0 = λ d. by_lawful_core d ≡ false in
    let found = cases_from_all _ _ c.all.result LawfulCall unlawful c.all.ensures.ran (YieldsList-from_slice cs cc) (λ x q k. search (rules, tests)) (λ x q k. search (rules, tests)) in
    let each : AllWithin LawfulCall cs 0 (length cs) = subst (λ b. MatchBool b (AllWithin LawfulCall cs 0 (length cs)) ((k : ℕ) × (k < length cs) × HoldsAt unlawful cs k)) h found in
    All-from_get_or LawfulCall cs Settle (λ i l. each i Settle (omega arith) l)
