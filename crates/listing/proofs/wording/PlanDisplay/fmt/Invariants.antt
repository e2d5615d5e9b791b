use Rattle.std.specs.Fmt.{HasWritten, IsPlainFormatter}
use Rattle.listing.specs.Lines.{strips_text, modes}
use Rattle.listing.proofs.wording.PlanDisplay.fmt.Given as goal

-- the strips passed are written
abbrev pub invariant-loop-number : goal.invariant-loop-number
invariant-loop-number g l =
    IsPlainFormatter l.initial.f → HasWritten g.W.Write.write_str_gives l.initial.f (strips_text 0 (modes l.number l.self.0)) l.f
