use Rattle.std.proofs.Common.{◌≡◌, false}
use Rattle.rules.specs.Tables.{some_of, below}
use Rattle.memory.specs.Modes.{bad_at}
use Rattle.memory.proofs.mode.has_bad_mode.Given as goal

-- none of the strips passed is bad
abbrev pub invariant-loop-strip : goal.invariant-loop-strip
invariant-loop-strip l = some_of (bad_at l.plan) (below l.strip) ≡ false
