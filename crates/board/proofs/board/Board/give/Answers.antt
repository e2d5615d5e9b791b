use Rattle.std.proofs.Common.{refl, Ok}
use Rattle.call.specs.declared.answer.Answer.TheVariants.{Loaded}
use Rattle.board.proofs.Performing.{same_state}
use Rattle.board.proofs.Remembering.{some_kept}
use Rattle.board.proofs.board.Board.give.Goals as goal

pub invariant_of-self-clause-some : goal.invariant_of-self-clause-some
invariant_of-self-clause-some g c = some_kept c.args.self.now.races c.note.new.self _ c.note.ensures c.args.self.now.some

pub returns : goal.returns
returns g c =
    let found = c.load-found.ensures in
    let word = rw c.may_be_old-again.ensures at found.word in
    let source = rw c.may_be_old-again.ensures at found.source in
    let after = rw c.may_be_old-again.ensures at found.after in
    record {
      figures = found.figures;
      size = refl;
      rules = λ accesses m.
          record {
            answer = λ i. Ok (Loaded (word i) (source i));
            state = same_state after refl refl refl;
            remembers = rw (c.into.ensures, c.into-2.ensures) at c.note.ensures accesses m;
            signature = refl;
          };
    }
