-- What each case tells, its number and its values: of a refusal, of an answer and of a fault. Every promise about an
-- answer, and every line that is printed, goes by these. Assumes nothing.
use Rattle.std.specs.Prelude.{ℕ, Ok, Err, Result}
use Rattle.word.specs.Marks.{number}
use Rattle.call.specs.declared.answer.Answer.{Answer}
use Rattle.call.specs.declared.answer.Answer.TheVariants.{Loaded, Stored, Done}
use Rattle.call.specs.declared.answer.Told.{Told}
use Rattle.call.specs.declared.fault.FaultTold.{FaultTold}
use Rattle.call.specs.declared.fault.FigureFault.{FigureFault}
use Rattle.call.specs.declared.fault.FigureFault.TheVariants.{Cores, Slots, Words, Strip, Allowance}
use Rattle.call.specs.declared.fault.JobFault.{JobFault}
use Rattle.call.specs.declared.fault.JobFault.TheVariants.{Short, Figures, Reserved, Length, Record, Table}
use Rattle.call.specs.declared.refusal.Access.{Access}
use Rattle.call.specs.declared.refusal.Access.TheVariants.{Load, Store}
use Rattle.call.specs.declared.refusal.Refusal.{Refusal}
use Rattle.call.specs.declared.refusal.Refusal.TheVariants.{NoCore, OutsideBoard, Waiting, ReadOnly, NotHolder, Race, AllowanceSpent, NoLock, HoldsLock, NotHeld, BadMode, LockHeld, Owned}

abbrev pub told : ℕ → ℕ → ℕ → ℕ → Told
told refusal small value mark = record { refusal = refusal; small = small; value = value; mark = mark }

-- the kind of the earlier access in a race
abbrev pub access_number : Access → ℕ
access_number Load = 0
access_number Store = 1

-- of a refusal: its number; of a race also the earlier core and whether it loaded or stored
abbrev pub refusal_told : Refusal → Told
refusal_told NoCore = told 1 0 0 0
refusal_told OutsideBoard = told 2 0 0 0
refusal_told Waiting = told 3 0 0 0
refusal_told ReadOnly = told 4 0 0 0
refusal_told NotHolder = told 5 0 0 0
refusal_told (Race core access) = told 6 core (access_number access) 0
refusal_told AllowanceSpent = told 7 0 0 0
refusal_told NoLock = told 8 0 0 0
refusal_told HoldsLock = told 9 0 0 0
refusal_told NotHeld = told 10 0 0 0
refusal_told BadMode = told 11 0 0 0
refusal_told LockHeld = told 12 0 0 0
refusal_told Owned = told 13 0 0 0

-- of an accepted call: 0 for accepted, then its source, answer or number, the word's value and the mark
abbrev pub given_told : Answer → Told
given_told (Loaded word source) = told 0 source word.value (number word.mark)
given_told (Stored answer mark) = told 0 answer 0 (number mark)
given_told (Done small) = told 0 small 0 0

-- of a call's answer, accepted or refused
abbrev pub answer_told : Result Answer Refusal → Told
answer_told (Ok answer) = given_told answer
answer_told (Err refusal) = refusal_told refusal

-- the number of a broken row of the figures
abbrev pub figure_number : FigureFault → ℕ
figure_number Cores = 14
figure_number Slots = 15
figure_number Words = 16
figure_number Strip = 17
figure_number Allowance = 18

-- the byte of a job at which that figure stands
abbrev pub figure_place : FigureFault → ℕ
figure_place Cores = 0
figure_place Slots = 1
figure_place Words = 2
figure_place Strip = 4
figure_place Allowance = 8

abbrev pub fault : ℕ → ℕ → ℕ → FaultTold
fault number place inner = record { number = number; place = place; inner = inner }

-- of a fault of a job: its number, its byte place and the figures' number inside
abbrev pub fault_told : JobFault → FaultTold
fault_told (Short length) = fault 19 length 0
fault_told (Figures f) = fault 20 (figure_place f) (figure_number f)
fault_told Reserved = fault 21 6 0
fault_told Length = fault 22 12 0
fault_told (Record place) = fault 23 place 0
fault_told Table = fault 24 0 0
