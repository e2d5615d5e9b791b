use Rattle.std.proofs.Common.{refl, arith, rules}
use Rattle.lines.proofs.Writing.{written_part}
use Rattle.lines.proofs.writer.Writer.text.Goals as goal

pub returns : goal.returns
returns c =
    record {
      wrote = record {
        past = refl;
        bytes = written_part c.args.self.now.out.now c.copy_from_slice.new.self c.args.text.now c.args.self.now.end _ c.copy_from_slice.ensures.after (omega arith);
      };
      same = refl;
      room = search rules;
    }
