use Rattle.std.proofs.Common.{refl, arith, Ok}
use Rattle.call.specs.declared.answer.Answer.TheVariants.{Stored}
use Rattle.memory.proofs.Views.{limited}
use Rattle.board.specs.Views.{counts_of}
use Rattle.board.proofs.Counts.{counts_set}
use Rattle.board.proofs.Performing.{same_state}
use Rattle.board.proofs.Remembering.{some_kept}
use Rattle.board.proofs.board.Board.put.Goals as goal

pub invariant_of-self-clause-some : goal.invariant_of-self-clause-some
invariant_of-self-clause-some g c = some_kept c.args.self.now.races c.note.new.self _ c.note.ensures c.args.self.now.some

pub returns : goal.returns
unfolding counts_of
returns g c =
    let answer = rw c.next_mark-mark.ensures at c.store-owner.ensures.answer in
    let after = rw c.next_mark-mark.ensures at c.store-owner.ensures.after in
    record {
      figures = c.store-owner.ensures.figures;
      size = refl;
      rules = λ accesses m.
          record {
            answer = λ i. Ok (Stored (answer i) (c.next_mark-mark.ensures i));
            state = same_state after refl (rw c.from.ensures (counts_set c.args.self.now.counts c.args.core.number _ (omega (arith, c.args.self.now.eight, limited c.args.core)))) refl;
            remembers = rw (c.into.ensures, c.into-2.ensures) at c.note.ensures accesses m;
            signature = rw c.mode-mode.ensures at c.sign.ensures;
          };
    }
