-- What becomes of a job: accepted exactly when its bytes have the layout, its figures pass and the answer table is long enough; then a
-- run of its calls, else nothing but the first fault. Assumes nothing.
use Rattle.std.specs.Prelude.{◌≡◌, ℕ, cond, List, length, Ok, Err, Result, nat_lt}
use Rattle.board.specs.Runs.{Runs}
use Rattle.board.specs.declared.runs.Run.{Run}
use Rattle.call.specs.Figures.{Five}
use Rattle.call.specs.declared.answer.AnswerRecord.{AnswerRecord}
use Rattle.call.specs.declared.call.Call.{Call}
use Rattle.call.specs.declared.fault.JobFault.{JobFault}
use Rattle.call.specs.declared.fault.JobFault.TheVariants.{Table}
use Rattle.job.specs.Reading.{Says, reading}
use Rattle.rules.specs.Steps.{Operations}
use Rattle.word.specs.declared.word.Word.{Word}
use Rattle.play.specs.declared.refused.RefusedJob.{RefusedJob}

-- what a job says, where the answer table has room for all its calls; that is checked last
abbrev pub with_room : Result Says JobFault → ℕ → Result Says JobFault
with_room (Ok s) room = cond (nat_lt room (length s.calls)) (Err Table) (Ok s)
with_room (Err e) room = Err e

-- the same of a job that was opened: its figures, where the table has room for its calls
abbrev pub checked_with : Result Five JobFault → List Call → ℕ → Result Five JobFault
checked_with (Ok f) calls room = cond (nat_lt room (length calls)) (Err Table) (Ok f)
checked_with (Err e) calls room = Err e

-- the verdict on a job's bytes and a table's length
abbrev pub verdict : List ℕ → ℕ → Result Says JobFault
verdict bytes room = with_room (reading bytes) room

module _ {P S : Type 0} (words : P → List Word) (ops : Operations S) (page : P) (signature : S) (table after : List AnswerRecord) where
  -- an accepted job is a run of the calls that its bytes spell, on a board just opened with its figures on the page; a refused one leaves
  -- page, signature and table as they were
  abbrev pub PlaysJob : Result Says JobFault → Result (Run P S) (RefusedJob P S) → Type 0
  PlaysJob (Ok s) (Ok r) =
      (r.made ≡ length s.calls) × Runs words ops s.figures (words page) signature s.calls table after r.board
  PlaysJob (Ok s) (Err r) = ⊥
  PlaysJob (Err e) (Ok r) = ⊥
  PlaysJob (Err e) (Err r) = (r.page ≡ page) × (r.signature ≡ signature) × (r.fault ≡ e) × (after ≡ table)
