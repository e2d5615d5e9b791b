use Rattle.std.proofs.Common.{◌+◌, ◌*◌, ◌≤◌, take}
use Rattle.std.specs.List.{flat_map}
use Rattle.lines.specs.Lines.{answer_line}
use Rattle.lines.specs.Writing.{Added}
use Rattle.lines.proofs.writer.Writer.answers.Given as goal

-- the lines of the records passed are added
abbrev pub invariant-loop-answered : goal.invariant-loop-answered
invariant-loop-answered l =
    Added l.initial.self (flat_map answer_line (take l.answered-index l.records)) l.self
    × (l.self.end ≤ l.initial.self.end + 48 * l.answered-index)
