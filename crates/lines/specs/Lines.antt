-- The line of an answer record and the line of a job's fault, by the numbers that each tells. Assumes nothing.
use Rattle.std.specs.Prelude.{ℕ, ◌/◌, Bool, List, [], ◌∷◌, codes, decimal, nat_le}
use Rattle.call.specs.Calls.{letter_of}
use Rattle.call.specs.Told.{answer_told, fault_told}
use Rattle.call.specs.declared.answer.AnswerRecord.{AnswerRecord}
use Rattle.call.specs.declared.answer.Told.{Told}
use Rattle.call.specs.declared.fault.FaultTold.{FaultTold}
use Rattle.call.specs.declared.fault.JobFault.{JobFault}
use Rattle.lines.specs.Texts.{spaced}

-- a line by a caller, a letter and what the answer tells: refusal, small answer, value, mark
abbrev pub numbers_line : ℕ → ℕ → Told → List ℕ
numbers_line caller letter t =
    spaced (decimal caller ∷ (letter ∷ []) ∷ decimal t.refusal ∷ decimal t.small ∷ decimal t.value ∷ decimal t.mark ∷ [])

-- the line of an answer record
abbrev pub answer_line : AnswerRecord → List ℕ
answer_line a = numbers_line a.caller (letter_of a.kind) (answer_told a.answer)

-- the line of a fault by what it tells: its number, its place and the number inside
abbrev pub told_line : FaultTold → List ℕ
told_line t = spaced (codes "refused" ∷ decimal t.number ∷ decimal t.place ∷ decimal t.inner ∷ [])

-- the line of a job's fault
abbrev pub fault_line : JobFault → List ℕ
fault_line fault = told_line (fault_told fault)

-- whether a buffer of so many bytes has 48 for each of some records
abbrev pub has_room : ℕ → ℕ → Bool
has_room bytes records = nat_le records (bytes / 48)
