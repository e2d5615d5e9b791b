use Rattle.lines.proofs.Apart.{lines_apart}
use Rattle.lines.proofs.Writing.{from_first}
use Rattle.lines.proofs.write_line.Goals as goal

pub returns-clause-after : goal.returns-clause-after
returns-clause-after c = (from_first c.answer.ensures.added.wrote).1

pub returns-clause-apart : goal.returns-clause-apart
returns-clause-apart c = lines_apart
