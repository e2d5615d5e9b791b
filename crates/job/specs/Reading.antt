-- What the bytes of a job say: the first fault, or the figures and the calls that its records spell. Assumes nothing.
use Rattle.std.specs.Prelude.{ℕ, ◌+◌, ◌*◌, Bool, true, false, cond, ◌&&◌, List, [], ◌∷◌, ◌++◌, length, drop, Some, None, Ok, Err, Option, Result, ◌==◌, nat_le, nat_lt, slice_index}
use Rattle.std.specs.Int.{w16, w32, w64}
use Rattle.std.specs.Option.{option_to_list}
use Rattle.std.specs.Simd.{first_chunks}
use Rattle.call.specs.Figures.{Five, five, checked}
use Rattle.call.specs.declared.call.Call.{Call}
use Rattle.call.specs.declared.call.Call.TheVariants as call
use Rattle.call.specs.declared.call.Kind.{Kind}
use Rattle.call.specs.declared.call.Kind.TheVariants as kind
use Rattle.call.specs.declared.fault.FigureFault.{FigureFault}
use Rattle.call.specs.declared.fault.JobFault.{JobFault}
use Rattle.call.specs.declared.fault.JobFault.TheVariants as fault
use Rattle.job.specs.Bytes.{field}

-- the kind of call that a letter stands for
abbrev pub kind_by : ℕ → Option Kind
kind_by letter =
    cond (letter == 76) (Some kind.Load)
    (cond (letter == 83) (Some kind.Store)
    (cond (letter == 69) (Some kind.Evict)
    (cond (letter == 65) (Some kind.Acquire)
    (cond (letter == 82) (Some kind.Release)
    (cond (letter == 80) (Some kind.Phase)
    (cond (letter == 84) (Some kind.Settle) None))))))

abbrev pub only_if : Bool → Call → Option Call
only_if lawful c = cond lawful (Some c) None

-- a core is one of 0 to 7; the conductor is 8
abbrev pub by_core : ℕ → Bool
by_core caller = nat_lt caller 8

abbrev pub by_conductor : ℕ → Bool
by_conductor caller = caller == 8

-- the call of a kind with these fields, if its caller may make it and the fields that it does not use are zero
abbrev pub spelled_as : Kind → ℕ → ℕ → ℕ → ℕ → Option Call
spelled_as kind.Load lock word payload caller =
    only_if (by_core caller && (lock == 0 && payload == 0)) (call.Load caller word)
spelled_as kind.Store lock word payload caller =
    only_if (by_core caller && (lock == 0 && nat_lt payload 4294967296)) (call.Store caller word payload)
spelled_as kind.Evict lock word payload caller =
    only_if (by_core caller && (lock == 0 && payload == 0)) (call.Evict caller word)
spelled_as kind.Acquire lock word payload caller =
    only_if (by_core caller && (word == 0 && payload == 0)) (call.Acquire caller lock)
spelled_as kind.Release lock word payload caller =
    only_if (by_core caller && (word == 0 && payload == 0)) (call.Release caller lock)
spelled_as kind.Phase lock word payload caller =
    only_if (by_conductor caller && (lock == 0 && word == 0)) (call.Phase payload)
spelled_as kind.Settle lock word payload caller =
    only_if (by_conductor caller && (lock == 0 && (word == 0 && payload == 0))) call.Settle

abbrev pub spelled_by : Option Kind → ℕ → ℕ → ℕ → ℕ → Option Call
spelled_by None lock word payload caller = None
spelled_by (Some k) lock word payload caller = spelled_as k lock word payload caller

-- the call that the 13 bytes of a record spell, if they have its layout
abbrev pub spelled : List ℕ → Option Call
spelled bytes =
    spelled_by (kind_by (slice_index bytes 0)) (slice_index bytes 1) (field w16 bytes 2) (field w64 bytes 4) (slice_index bytes 12)

-- the figures that stand in the contents
abbrev pub job_figures : List ℕ → Five
job_figures bytes = five (slice_index bytes 0) (slice_index bytes 1) (field w16 bytes 2) (field w16 bytes 4) (field w32 bytes 8)

-- the number of records that stands there
abbrev pub job_records : List ℕ → ℕ
job_records bytes = field w32 bytes 12

-- the records of a job: so many, 13 bytes each, past the contents
abbrev pub records_of : List ℕ → List (List ℕ)
records_of bytes = first_chunks 13 (job_records bytes) (drop 16 bytes)

-- a fault, or what comes after it
abbrev pub unless_figures : Result Five FigureFault → Option JobFault → Option JobFault
unless_figures (Ok f) later = later
unless_figures (Err e) later = Some (fault.Figures e)

abbrev pub unless_spelled : Option Call → JobFault → Option JobFault → Option JobFault
unless_spelled (Some c) e later = later
unless_spelled None e later = Some e

abbrev pub unless : Option JobFault → Option JobFault → Option JobFault
unless None later = later
unless (Some e) later = Some e

-- the first of records, from a place on, that is against its layout
abbrev pub records_fault : ℕ → List (List ℕ) → Option JobFault
records_fault place [] = None
records_fault place (r ∷ rs) = unless_spelled (spelled r) (fault.Record place) (records_fault (place + 13) rs)

-- the calls that records spell, in order
abbrev pub calls : List (List ℕ) → List Call
calls [] = []
calls (r ∷ rs) = option_to_list (spelled r) ++ calls rs

-- the contents are too short, or their figures are refused
abbrev pub figures_fault : List ℕ → Option JobFault
figures_fault bytes =
    cond (nat_lt (length bytes) 16) (Some (fault.Short (length bytes)))
    (unless_figures (checked (job_figures bytes)) None)

-- the two bytes past the figures are not zero, or there are too many records or not so many
abbrev pub count_fault : List ℕ → Option JobFault
count_fault bytes =
    cond (field w16 bytes 6 == 0)
    (cond (nat_le (job_records bytes) 4608 && length bytes == 16 + 13 * job_records bytes) None (Some fault.Length))
    (Some fault.Reserved)

-- the first fault of a job; none where it is accepted
abbrev pub job_fault : List ℕ → Option JobFault
job_fault bytes =
    unless (figures_fault bytes) (unless (count_fault bytes) (records_fault 16 (records_of bytes)))

abbrev pub none : Option JobFault → Bool
none None = true
none (Some e) = false

-- a job is accepted when it has no fault
abbrev pub accepted : List ℕ → Bool
accepted bytes = none (job_fault bytes)

-- the calls that a job spells, in the order of its records
abbrev pub job_calls : List ℕ → List Call
job_calls bytes = calls (records_of bytes)

-- what a job says: its figures and its calls
pub record Says : Type 0 where
  pub figures : Five
  pub calls : List Call

abbrev pub says : Five → List Call → Says
says f cs = record { figures = f; calls = cs }

abbrev pub said_unless : Option JobFault → Says → Result Says JobFault
said_unless None s = Ok s
said_unless (Some e) s = Err e

-- a job read: what it says, or its first fault
abbrev pub reading : List ℕ → Result Says JobFault
reading bytes = said_unless (job_fault bytes) (says (job_figures bytes) (job_calls bytes))
