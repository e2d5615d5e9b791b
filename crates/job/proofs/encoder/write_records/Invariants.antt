use Rattle.std.proofs.Common.{◌≡◌}
use Rattle.job.proofs.Writing.{with_records}
use Rattle.job.proofs.encoder.write_records.Given as goal

-- the records of the calls so far are written, and the bytes past them are as they were
abbrev pub invariant-loop-i : goal.invariant-loop-i
invariant-loop-i l = l.out ≡ with_records l.initial.out l.calls l.i
