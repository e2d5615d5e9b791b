-- What a reader of lines can rely on: no two records that calls can give have one line, no two faults have, and no fault
-- has the line of a record. Assumes nothing.
use Rattle.std.specs.Prelude.{◌≡◌, ℕ, ◌^◌, ◌<◌, ◌≢◌, Ok, Err, Result}
use Rattle.call.specs.Told.{fault_told}
use Rattle.call.specs.declared.answer.Answer.{Answer}
use Rattle.call.specs.declared.refusal.Refusal.{Refusal}
use Rattle.call.specs.declared.answer.Answer.TheVariants.{Loaded, Stored, Done}
use Rattle.call.specs.declared.answer.AnswerRecord.{AnswerRecord}
use Rattle.call.specs.declared.call.Kind.{Kind}
use Rattle.call.specs.declared.call.Kind.TheVariants.{Load, Store}
use Rattle.call.specs.declared.fault.JobFault.{JobFault}
use Rattle.call.specs.declared.refusal.Access.{Access}
use Rattle.call.specs.declared.refusal.Refusal.TheVariants.{Race}
use Rattle.lines.specs.Lines.{answer_line, fault_line}

-- the numbers of an answer are as wide as their types; only a race among the refusals has one, the earlier core
abbrev pub InRange : Result Answer Refusal → Type 0
InRange (Ok (Loaded word source)) = (word.value < 2 ^ 32) × (source < 2 ^ 8)
InRange (Ok (Stored answer mark)) = answer < 2 ^ 8
InRange (Ok (Done small)) = small < 2 ^ 16
InRange (Err refusal) = (core : ℕ) (access : Access) → refusal ≡ Race core access → core < 2 ^ 8

-- an accepted load gives a word, an accepted store its mark, any other accepted call a number; any call may be refused
abbrev pub Answers : Kind → Result Answer Refusal → Type 0
Answers kind (Ok (Loaded word source)) = kind ≡ Load
Answers kind (Ok (Stored answer mark)) = kind ≡ Store
Answers kind (Ok (Done small)) = (kind ≢ Load) × (kind ≢ Store)
Answers kind (Err refusal) = Unit {0}

-- the records that calls can give
abbrev pub Possible : AnswerRecord → Type 0
Possible a = (a.caller < 2 ^ 8) × InRange a.answer × Answers a.kind a.answer

-- two records that calls can give are the same where their lines are
abbrev pub LinesApart : Type 0
LinesApart = (a b : AnswerRecord) → Possible a → Possible b → answer_line a ≡ answer_line b → a ≡ b

-- two faults are the same where their lines are; a fault's place is as wide as its type
abbrev pub FaultsApart : Type 0
FaultsApart =
    (e f : JobFault) → (fault_told e).place < 2 ^ 16 → (fault_told f).place < 2 ^ 16 → fault_line e ≡ fault_line f → e ≡ f

-- no fault has the line of a record that a call can give
abbrev pub NeverBoth : Type 0
NeverBoth = (e : JobFault) (a : AnswerRecord) → Possible a → fault_line e ≢ answer_line a
