use Rattle.std.proofs.Common.{◌≡◌, ℕ, Bool, true, false, nat_le, List, [], ◌∷◌, Some, Err, Option, sym, ap, ◌∙◌}
use Rattle.std.proofs.lemmas.Result.{err_from_is_err_and}
use Rattle.call.specs.declared.refusal.Refusal.{Refusal}
use Rattle.call.specs.declared.refusal.Refusal.TheVariants.{NoCore, Waiting, NoLock, HoldsLock}
use Rattle.rules.specs.Refusals.{waits, holds_some}
use Rattle.rules.specs.State.{Lock}
use Rattle.rules.specs.Steps.{acquired_by}
use Rattle.rules.specs.Tables.{first, when, upd}
use Rattle.locks.specs.Refused.{common_rows, answered, left}
use Rattle.locks.specs.Rows.{granted}
use Rattle.locks.specs.Views.{locks_of}
use Rattle.locks.proofs.table.Locks.acquire.Goals as goal

-- a refusal by the rows that both calls begin with comes before the call's own
refused_first : (locks : ℕ → Lock) (core lock : ℕ) (own : List (Option Refusal)) (r : Refusal) →
    Err r ≡ answered {X = Unit {0}} (first (common_rows locks core lock [])) tt → first (common_rows locks core lock own) ≡ Some r
refused_first locks core lock own r = go (nat_le 8 core) (waits locks core) (nat_le 8 lock)
  where
    go : (a b d : Bool) → Err r ≡ answered {X = Unit {0}} (first (when a NoCore ∷ when b Waiting ∷ when d NoLock ∷ [])) tt →
        first (when a NoCore ∷ when b Waiting ∷ when d NoLock ∷ own) ≡ Some r
    go true b d e = cc
    go false true d e = cc
    go false false true e = cc
    go false false false e = cc

pub returns-in_err-check-clause-answer : goal.returns-in_err-check-clause-answer
returns-in_err-check-clause-answer c =
    let locks = locks_of c.args.self.now in
    let rows = refused_first locks c.args.core c.args.lock (when (holds_some locks c.args.core) HoldsLock ∷ []) _ (sym c.in_err-check.was ∙ c.check.ensures.answer) in
    let p = err_from_is_err_and c.from_residual.result c.from_residual.ensures.1 in
    rw (p.1, p.2) (ap (λ (o : Option Refusal). answered o (granted (locks c.args.lock).holder (locks c.args.lock))) (sym rows))

pub returns-in_err-check-clause-after : goal.returns-in_err-check-clause-after
returns-in_err-check-clause-after c =
    let locks = locks_of c.args.self.now in
    let rows = refused_first locks c.args.core c.args.lock (when (holds_some locks c.args.core) HoldsLock ∷ []) _ (sym c.in_err-check.was ∙ c.check.ensures.answer) in
    ap (λ (o : Option Refusal). left o locks (upd locks c.args.lock (acquired_by (locks c.args.lock).holder (locks c.args.lock) c.args.core))) (sym rows)
