use Rattle.std.proofs.Common.{refl, rules}
use Rattle.lines.proofs.Writing.{wrote_byte}
use Rattle.lines.proofs.writer.Writer.byte.Goals as goal

pub returns : goal.returns
returns c =
    record {
      wrote = wrote_byte c.args.self.now.out.now c.args.self.now.end c.args.byte c.requires;
      same = refl;
      room = search rules;
    }
