use Rattle.std.proofs.Common.{refl, rules}
use Rattle.word.proofs.Marks.{lawful_tells, mark_read_ok}
use Rattle.word.proofs.mark.MarkTryFromU32.try_from.Goals as goal

pub returns-then-is_lawful : goal.returns-then-is_lawful
returns-then-is_lawful c =
    record { value = mark_read_ok c.args.n _ (search rules) refl; exactly = lawful_tells c.args.n (search rules) }
