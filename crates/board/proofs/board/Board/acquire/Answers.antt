use Rattle.std.proofs.Common.{refl, sym, ap, ◌∙◌, Ok, arith}
use Rattle.std.proofs.lemmas.Result.{err_from_is_err_and}
use Rattle.call.specs.declared.answer.Answer.TheVariants.{Done}
use Rattle.call.specs.declared.call.Call.TheVariants.{Acquire}
use Rattle.locks.specs.Views.{locks_of}
use Rattle.memory.proofs.Views.{limited}
use Rattle.rules.specs.Steps.{changed_by}
use Rattle.board.proofs.Performing.{same_state, performed_obeys}
use Rattle.board.proofs.Turns.{acquire_told, told_err, told_ok, left_refused, left_done, grant_tells}
use Rattle.board.proofs.board.Board.acquire.Goals as goal

pub returns-in_err-grant-clause-obeys : goal.returns-in_err-grant-clause-obeys
returns-in_err-grant-clause-obeys g c =
    let core = c.in_ok-check_core in
    let p = err_from_is_err_and c.from_residual-in_err-grant.result c.from_residual-in_err-grant.ensures.1 in
    let rows = acquire_told (locks_of c.args.self.now.locks) _ c.args.core c.args.lock (omega (arith, core.ensures.found, limited core.field-0)) core.ensures.told in
    let met = told_err _ _ _ c.in_err-grant.ensures.answer in
    rw (p.1, p.2)
    (record {
      figures = refl;
      size = refl;
      some = c.args.self.now.some;
      rules = λ accesses m.
          rw (sym (met ∙ rows))
          (record {
            answer = refl;
            state = same_state refl (c.in_err-grant.ensures.after ∙ left_refused _ _ _ _ met) refl refl;
            remembers = m;
            signature = refl;
          });
    })

pub returns-clause-obeys : goal.returns-clause-obeys
returns-clause-obeys g c =
    let ops = g.S.Signature.operations in
    let core = c.in_ok-check_core in
    let locks = locks_of c.args.self.now.locks in
    let rows = acquire_told locks _ c.args.core c.args.lock (omega (arith, core.ensures.found, limited core.field-0)) core.ensures.told in
    let got = told_ok _ _ _ c.in_ok-grant.ensures.answer in
    let tells = grant_tells (locks c.args.lock).holder (locks c.args.lock) c.in_ok-grant.grant c.args.core got.1 in
    performed_obeys g.P.PageStore.words ops c.args.self.now _ (Acquire c.args.core c.args.lock) _ (λ accesses m. got.0 ∙ rows)
    (record {
      figures = refl;
      size = refl;
      rules = λ accesses m.
          record {
            answer = ap (λ n. Ok (Done n)) tells.0;
            state = same_state refl (c.in_ok-grant.ensures.after ∙ left_done _ _ _ got.0) refl refl;
            remembers = m;
            signature = c.take_on.ensures ∙ ap (changed_by ops c.args.self.now.signature) tells.1;
          };
    })

pub returns-clause-grant : goal.returns-clause-grant
returns-clause-grant g c = (told_ok _ _ _ c.in_ok-grant.ensures.answer).1
