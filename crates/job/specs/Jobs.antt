-- What a job that was opened holds: its figures or its fault, its calls, and those that are still to be read.
-- Assumes nothing.
use Rattle.std.specs.Prelude.{◌≡◌, ℕ, List, [], ◌∷◌, Some, None, Ok, Err, Option, Result}
use Rattle.call.specs.Figures.{Five, figures}
use Rattle.call.specs.declared.figures.Figures.{Figures}
use Rattle.call.specs.declared.call.Call.{Call}
use Rattle.call.specs.declared.fault.JobFault.{JobFault}
use Rattle.job.specs.Encoding.{encode}
use Rattle.job.specs.Reading.{Says, calls}
use Rattle.job.specs.declared.reader.Job.{Job}

-- the figures by their numbers, or the fault
abbrev pub numbers : Result Figures JobFault → Result Five JobFault
numbers (Ok f) = Ok (figures f)
numbers (Err e) = Err e

-- the figures of a job, or its first fault
abbrev pub verdict_of : Job → Result Five JobFault
verdict_of j = numbers j.verdict

-- all its calls
abbrev pub calls_of : Job → List Call
calls_of j = calls j.records.now

-- the calls that are still to be read
abbrev pub rest : Job → List Call
rest j = calls j.left.now

-- the first of some calls
abbrev pub first : List Call → Option Call
first [] = None
first (c ∷ cs) = Some c

-- the figures in what was read, or the fault
abbrev pub figures_read : Result Says JobFault → Result Five JobFault
figures_read (Ok s) = Ok s.figures
figures_read (Err e) = Err e

-- the calls in what was read: none where the job is refused
abbrev pub calls_read : Result Says JobFault → List Call
calls_read (Ok s) = s.calls
calls_read (Err e) = []

-- bytes are the encoding of the figures and the calls that were read from them; of a job that is refused it says nothing
abbrev pub Encoded : Result Five JobFault → List Call → List ℕ → Type 0
Encoded (Ok f) cs bytes = bytes ≡ encode f cs
Encoded (Err e) cs bytes = Unit {0}
