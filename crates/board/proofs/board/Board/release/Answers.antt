use Rattle.std.proofs.Common.{refl, sym, ap, ◌∙◌, Ok, arith}
use Rattle.std.proofs.lemmas.Result.{err_from_is_err_and}
use Rattle.call.specs.declared.answer.Answer.TheVariants.{Done}
use Rattle.call.specs.declared.call.Call.TheVariants.{Release}
use Rattle.locks.specs.Views.{locks_of}
use Rattle.memory.proofs.Views.{limited}
use Rattle.rules.specs.Steps.{changed_by}
use Rattle.board.proofs.Performing.{same_state, performed_obeys}
use Rattle.board.proofs.Turns.{release_told, told_err, told_ok, left_refused, left_done, passed_tells}
use Rattle.board.proofs.board.Board.release.Goals as goal

pub returns-in_err-next : goal.returns-in_err-next
returns-in_err-next g c =
    let core = c.in_ok-check_core in
    let p = err_from_is_err_and c.from_residual-in_err-next.result c.from_residual-in_err-next.ensures.1 in
    let rows = release_told (locks_of c.args.self.now.locks) _ c.args.core c.args.lock (omega (arith, core.ensures.found, limited core.field-0)) core.ensures.told in
    let met = told_err _ _ _ c.in_err-next.ensures.answer in
    rw (p.1, p.2)
    (record {
      figures = refl;
      size = refl;
      some = c.args.self.now.some;
      rules = λ accesses m.
          rw (sym (met ∙ rows))
          (record {
            answer = refl;
            state = same_state refl (c.in_err-next.ensures.after ∙ left_refused _ _ _ _ met) refl refl;
            remembers = m;
            signature = refl;
          });
    })

pub returns : goal.returns
returns g c =
    let ops = g.S.Signature.operations in
    let core = c.in_ok-check_core in
    let locks = locks_of c.args.self.now.locks in
    let rows = release_told locks _ c.args.core c.args.lock (omega (arith, core.ensures.found, limited core.field-0)) core.ensures.told in
    let got = told_ok _ _ _ c.in_ok-next.ensures.answer in
    let tells = passed_tells (locks c.args.lock).queue c.in_ok-next.next c.args.core got.1 in
    performed_obeys g.P.PageStore.words ops c.args.self.now _ (Release c.args.core c.args.lock) _ (λ accesses m. got.0 ∙ rows)
    (record {
      figures = refl;
      size = refl;
      rules = λ accesses m.
          record {
            answer = ap (λ n. Ok (Done n)) tells.0;
            state = same_state refl (c.in_ok-next.ensures.after ∙ left_done _ _ _ got.0) refl refl;
            remembers = m;
            signature = c.hand_on.ensures ∙ ap (changed_by ops c.args.self.now.signature) tells.1;
          };
    })
