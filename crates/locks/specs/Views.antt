-- The locks of the board as the rules see them. Assumes nothing.
use Rattle.std.specs.Prelude.{ℕ, slice_index_or}
use Rattle.rules.specs.State.{Lock, free}
use Rattle.locks.specs.declared.attendance.Attendance.{Attendance}
use Rattle.locks.specs.declared.attendance.Attendance.TheVariants.{Away}
use Rattle.locks.specs.declared.table.Locks.{Locks}

-- each lock by its number; past the last one a lock is free
abbrev pub locks_of : Locks → ℕ → Lock
locks_of s lock = slice_index_or s.rows lock free

-- what each core does; past core 7 it does nothing
abbrev pub does : Locks → ℕ → Attendance
does s core = slice_index_or s.cores core Away
