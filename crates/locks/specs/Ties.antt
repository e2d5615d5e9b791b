-- What a core does about locks, how it is tied to the locks (by how often the core stands in a queue, and by whether it is a
-- holder), and how acquire and release change it. Assumes nothing.
use Rattle.std.specs.Prelude.{ℕ, ◌+◌, Bool, true, false, cond, List, [], ◌∷◌, Some, None, Option, ◌==◌, slice_set}
use Rattle.locks.specs.declared.grant.Grant.{Grant}
use Rattle.locks.specs.declared.grant.Grant.TheVariants.{Granted, Queued}
use Rattle.locks.specs.declared.attendance.Attendance.{Attendance}
use Rattle.locks.specs.declared.attendance.Attendance.TheVariants.{Away, Holds, Waits}

-- how often a core stands in a queue
abbrev pub occurs : ℕ → List ℕ → ℕ
occurs core [] = 0
occurs core (waiter ∷ more) = cond {A = ℕ} (waiter == core) 1 0 + occurs core more

-- whether a core that does this waits for a lock, holds a lock
abbrev pub waits_for : Attendance → ℕ → Bool
waits_for Away lock = false
waits_for (Holds held) lock = false
waits_for (Waits wanted) lock = wanted == lock

abbrev pub holder_of : Attendance → ℕ → Bool
holder_of Away lock = false
holder_of (Holds held) lock = held == lock
holder_of (Waits wanted) lock = false

-- whether a core that does this waits at all, holds at all
abbrev pub waiting : Attendance → Bool
waiting Away = false
waiting (Holds held) = false
waiting (Waits wanted) = true

abbrev pub holding : Attendance → Bool
holding Away = false
holding (Holds held) = true
holding (Waits wanted) = false

-- what a core does after an acquire that is answered so
abbrev pub attending : Grant → ℕ → Attendance
attending (Granted last) lock = Holds lock
attending Queued lock = Waits lock

-- what the cores do once one has released a lock: it goes away, and the next, if there is one, holds the lock
abbrev pub handed : List Attendance → ℕ → Option ℕ → ℕ → List Attendance
handed cores core None lock = slice_set cores core Away
handed cores core (Some next) lock = slice_set (slice_set cores core Away) next (Holds lock)
