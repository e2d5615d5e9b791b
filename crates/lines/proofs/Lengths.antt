-- How wide the numbers are that a record and a fault tell, and how long their lines can be. Assumes nothing.
use Rattle.std.proofs.Common.{◌≡◌, ℕ, ◌+◌, ◌^◌, ◌<◌, ◌≤◌, length, decimal, refl, inl, inr, arith, Ok, Err, Result}
use Rattle.std.proofs.lemmas.List.{length-append}
use Rattle.word.proofs.Marks.{lawful_tells}
use Rattle.word.specs.Marks.{number}
use Rattle.word.specs.declared.mark.Mark.{Mark}
use Rattle.call.specs.Calls.{letter_of}
use Rattle.call.specs.Told.{answer_told, refusal_told, figure_number, figure_place, fault_told}
use Rattle.call.specs.declared.answer.Answer.{Answer}
use Rattle.call.specs.declared.answer.Answer.TheVariants.{Loaded, Stored, Done}
use Rattle.call.specs.declared.answer.AnswerRecord.{AnswerRecord}
use Rattle.call.specs.declared.answer.Told.{Told}
use Rattle.call.specs.declared.fault.FaultTold.{FaultTold}
use Rattle.call.specs.declared.fault.FigureFault.{FigureFault}
use Rattle.call.specs.declared.fault.FigureFault.TheVariants.{Cores, Slots, Words, Strip, Allowance}
use Rattle.call.specs.declared.fault.JobFault.{JobFault}
use Rattle.call.specs.declared.fault.JobFault.TheVariants.{Short, Figures, Reserved, Length, Record, Table}
use Rattle.call.specs.declared.refusal.Access.TheVariants.{Load, Store}
use Rattle.call.specs.declared.refusal.Refusal.{Refusal}
use Rattle.call.specs.declared.refusal.Refusal.TheVariants.{NoCore, OutsideBoard, Waiting, ReadOnly, NotHolder, Race, AllowanceSpent, NoLock, HoldsLock, NotHeld, BadMode, LockHeld, Owned}
use Rattle.lines.specs.Laws.{InRange}
use Rattle.lines.specs.Lines.{numbers_line, answer_line, told_line, fault_line}
use Rattle.lines.proofs.Digits.{one_digit, two_digits, three_digits, five_digits, seven_digits, ten_digits}

-- a mark's number has seven digits at the most
pub mark_most : (m : Mark) → number m < 10 ^ 7
mark_most m =
    elim (lawful_tells (number m) m.law) [
      | inl blank ↦ omega arith
      | inr stored ↦ omega (arith, stored.2.0, stored.2.2, stored.3)
    ]

-- numbers as small as a refusal tells
abbrev Few : Told → Type 0
Few t = (t.refusal < 100) × (t.small < 2 ^ 8) × (t.value < 10) × (t.mark < 10)

pub refusal_most : (r : Refusal) → InRange (Err r) → Few (refusal_told r)
refusal_most NoCore fits = (omega arith, omega arith, omega arith, omega arith)
refusal_most OutsideBoard fits = (omega arith, omega arith, omega arith, omega arith)
refusal_most Waiting fits = (omega arith, omega arith, omega arith, omega arith)
refusal_most ReadOnly fits = (omega arith, omega arith, omega arith, omega arith)
refusal_most NotHolder fits = (omega arith, omega arith, omega arith, omega arith)
refusal_most (Race core Load) fits = let low = fits core Load refl in (omega arith, omega arith, omega arith, omega arith)
refusal_most (Race core Store) fits = let low = fits core Store refl in (omega arith, omega arith, omega arith, omega arith)
refusal_most AllowanceSpent fits = (omega arith, omega arith, omega arith, omega arith)
refusal_most NoLock fits = (omega arith, omega arith, omega arith, omega arith)
refusal_most HoldsLock fits = (omega arith, omega arith, omega arith, omega arith)
refusal_most NotHeld fits = (omega arith, omega arith, omega arith, omega arith)
refusal_most BadMode fits = (omega arith, omega arith, omega arith, omega arith)
refusal_most LockHeld fits = (omega arith, omega arith, omega arith, omega arith)
refusal_most Owned fits = (omega arith, omega arith, omega arith, omega arith)

-- the digits of all that an answer tells: one, three, ten and seven of a load
told_most : (a : Result Answer Refusal) → InRange a → length (decimal (answer_told a).refusal) + length (decimal (answer_told a).small) + length (decimal (answer_told a).value) + length (decimal (answer_told a).mark) ≤ 21
told_most (Ok (Loaded word source)) fits =
    let none = one_digit 0 (omega arith) in
    let from = three_digits source (omega (arith, fits.1)) in
    let held = ten_digits word.value (omega (arith, fits.0)) in
    let marked = seven_digits (number word.mark) (mark_most word.mark) in
    omega arith
told_most (Ok (Stored answer mark)) fits =
    let none = one_digit 0 (omega arith) in
    let from = three_digits answer (omega arith) in
    let marked = seven_digits (number mark) (mark_most mark) in
    omega arith
told_most (Ok (Done small)) fits =
    let none = one_digit 0 (omega arith) in
    let count = five_digits small (omega arith) in
    omega arith
told_most (Err refusal) fits =
    let most = refusal_most refusal fits in
    let why = two_digits (refusal_told refusal).refusal most.0 in
    let core = three_digits (refusal_told refusal).small (omega (arith, most.1)) in
    let access = one_digit (refusal_told refusal).value most.2 in
    let none = one_digit (refusal_told refusal).mark most.3 in
    omega arith

-- besides the digits a line has a letter, five spaces and a newline
line_length : (caller letter : ℕ) (t : Told) → length (numbers_line caller letter t) ≡ length (decimal caller) + (length (decimal t.refusal) + length (decimal t.small) + length (decimal t.value) + length (decimal t.mark)) + 7
line_length caller letter t = simp length-append (omega arith)

-- a line has 31 bytes at the most
pub line_most : (a : AnswerRecord) → a.caller < 2 ^ 8 → InRange a.answer → length (answer_line a) ≤ 31
line_most a fits within =
    let whole = line_length a.caller (letter_of a.kind) (answer_told a.answer) in
    let who = three_digits a.caller (omega arith) in
    let rest = told_most a.answer within in
    omega arith

-- where a figure stands and the number of its row
pub figure_most : (f : FigureFault) → (figure_place f < 10) × (figure_number f < 100)
figure_most Cores = (omega arith, omega arith)
figure_most Slots = (omega arith, omega arith)
figure_most Words = (omega arith, omega arith)
figure_most Strip = (omega arith, omega arith)
figure_most Allowance = (omega arith, omega arith)

-- what a fault tells besides its place
pub numbers_most : (f : JobFault) → ((fault_told f).number < 100) × ((fault_told f).inner < 100)
numbers_most (Short length) = (omega arith, omega arith)
numbers_most (Figures f) = (omega arith, (figure_most f).1)
numbers_most Reserved = (omega arith, omega arith)
numbers_most Length = (omega arith, omega arith)
numbers_most (Record place) = (omega arith, omega arith)
numbers_most Table = (omega arith, omega arith)

-- the digits of all that a fault tells: two, five and one of a record against its layout
fault_digits : (f : JobFault) → (fault_told f).place < 2 ^ 16 → length (decimal (fault_told f).number) + length (decimal (fault_told f).place) + length (decimal (fault_told f).inner) ≤ 8
fault_digits (Short length) fits =
    omega (arith, two_digits 19 (omega arith), five_digits length (omega arith), one_digit 0 (omega arith))
fault_digits (Figures f) fits =
    let most = figure_most f in
    omega (arith, two_digits 20 (omega arith), one_digit (figure_place f) most.0, two_digits (figure_number f) most.1)
fault_digits Reserved fits = omega (arith, two_digits 21 (omega arith), one_digit 6 (omega arith), one_digit 0 (omega arith))
fault_digits Length fits = omega (arith, two_digits 22 (omega arith), two_digits 12 (omega arith), one_digit 0 (omega arith))
fault_digits (Record place) fits =
    omega (arith, two_digits 23 (omega arith), five_digits place (omega arith), one_digit 0 (omega arith))
fault_digits Table fits = omega (arith, two_digits 24 (omega arith), one_digit 0 (omega arith))

-- besides the digits a fault's line has the word, three spaces and a newline
fault_length : (t : FaultTold) → length (told_line t) ≡ length (decimal t.number) + length (decimal t.place) + length (decimal t.inner) + 11
fault_length t = simp length-append (omega arith)

-- a fault's line has 19 bytes at the most
pub fault_most : (f : JobFault) → (fault_told f).place < 2 ^ 16 → length (fault_line f) ≤ 19
fault_most f fits = omega (arith, fault_length (fault_told f), fault_digits f fits)
