use Rattle.std.proofs.Common.{refl, ap, Ok}
use Rattle.call.specs.declared.answer.Answer.TheVariants.{Done}
use Rattle.board.proofs.Performing.{same_state}
use Rattle.board.proofs.board.Board.begin.Goals as goal

pub returns : goal.returns
returns g c =
    record {
      figures = c.fade-dropped.ensures.figures;
      size = refl;
      rules = λ accesses m.
          record {
            answer = ap (λ n. Ok (Done n)) c.fade-dropped.ensures.answer;
            state = same_state c.fade-dropped.ensures.after c.forget_releasers.ensures refl refl;
            remembers = c.forget.ensures;
            signature = c.clear_all.ensures;
          };
    }
