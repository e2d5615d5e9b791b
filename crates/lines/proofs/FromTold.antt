-- What a case tells determines it: a kind is found again from its letter, an answer from its kind and its numbers, and a
-- fault from its numbers. Assumes nothing.
use Rattle.std.proofs.Common.{◌≡◌, ℕ, ◌-◌, cond, eqb, [], ◌∷◌, get_or, refl, ap, ◌∙◌, Ok, Err, Result}
use Rattle.word.proofs.Marks.{same_mark, number_mark_at}
use Rattle.word.specs.Marks.{number, mark_at}
use Rattle.word.specs.declared.mark.Mark.{Mark}
use Rattle.call.specs.Calls.{letter_of}
use Rattle.call.specs.Told.{answer_told, refusal_told, fault_told}
use Rattle.call.specs.declared.answer.Answer.{Answer}
use Rattle.call.specs.declared.answer.Answer.TheVariants.{Loaded, Stored, Done}
use Rattle.call.specs.declared.answer.Told.{Told}
use Rattle.call.specs.declared.call.Kind.{Kind}
use Rattle.call.specs.declared.call.Kind.TheVariants as kind
use Rattle.call.specs.declared.fault.FaultTold.{FaultTold}
use Rattle.call.specs.declared.fault.FigureFault.{FigureFault}
use Rattle.call.specs.declared.fault.FigureFault.TheVariants.{Cores, Slots, Words, Strip, Allowance}
use Rattle.call.specs.declared.fault.JobFault.{JobFault}
use Rattle.call.specs.declared.fault.JobFault.TheVariants.{Short, Figures, Reserved, Length, Record, Table}
use Rattle.call.specs.declared.refusal.Access.TheVariants.{Load, Store}
use Rattle.call.specs.declared.refusal.Refusal.{Refusal}
use Rattle.call.specs.declared.refusal.Refusal.TheVariants.{NoCore, OutsideBoard, Waiting, ReadOnly, NotHolder, Race, AllowanceSpent, NoLock, HoldsLock, NotHeld, BadMode, LockHeld, Owned}
use Rattle.lines.specs.Laws.{Answers}

-- the kind with a letter
abbrev pub kind_by : ℕ → Kind
kind_by letter =
    cond (eqb letter 76) kind.Load
    (cond (eqb letter 83) kind.Store
    (cond (eqb letter 69) kind.Evict
    (cond (eqb letter 65) kind.Acquire
    (cond (eqb letter 82) kind.Release (cond (eqb letter 80) kind.Phase kind.Settle)))))

pub kind_again : (k : Kind) → kind_by (letter_of k) ≡ k
kind_again kind.Load = refl
kind_again kind.Store = refl
kind_again kind.Evict = refl
kind_again kind.Acquire = refl
kind_again kind.Release = refl
kind_again kind.Phase = refl
kind_again kind.Settle = refl

-- the refusal with a number and values: a list in the order of the numbers, from 1
abbrev refusal_by : Told → ℕ → Refusal
refusal_by t n =
    get_or (NoCore ∷ NoCore ∷ OutsideBoard ∷ Waiting ∷ ReadOnly ∷ NotHolder ∷ Race t.small (cond (eqb t.value 1) Store Load) ∷ AllowanceSpent ∷ NoLock ∷ HoldsLock ∷ NotHeld ∷ BadMode ∷ LockHeld ∷ Owned ∷ []) n NoCore

-- the accepted answer to a kind of call with these values
abbrev accepted_by : Kind → Told → Answer
accepted_by kind.Load t = Loaded (record { value = t.value; mark = mark_at t.mark }) t.small
accepted_by kind.Store t = Stored t.small (mark_at t.mark)
accepted_by kind.Evict t = Done t.small
accepted_by kind.Acquire t = Done t.small
accepted_by kind.Release t = Done t.small
accepted_by kind.Phase t = Done t.small
accepted_by kind.Settle t = Done t.small

-- the answer to a kind of call that tells these numbers
abbrev pub answer_by : Kind → Told → Result Answer Refusal
answer_by k t = cond (eqb t.refusal 0) (Ok (accepted_by k t)) (Err (refusal_by t t.refusal))

refused_again : (k : Kind) (r : Refusal) → answer_by k (refusal_told r) ≡ Err r
refused_again k NoCore = refl
refused_again k OutsideBoard = refl
refused_again k Waiting = refl
refused_again k ReadOnly = refl
refused_again k NotHolder = refl
refused_again k (Race core Load) = refl
refused_again k (Race core Store) = refl
refused_again k AllowanceSpent = refl
refused_again k NoLock = refl
refused_again k HoldsLock = refl
refused_again k NotHeld = refl
refused_again k BadMode = refl
refused_again k LockHeld = refl
refused_again k Owned = refl

mark_again : (m : Mark) → mark_at (number m) ≡ m
mark_again m = same_mark (mark_at (number m)) m (number_mark_at (number m) m.law)

pub answer_again : (k : Kind) (a : Result Answer Refusal) → Answers k a → answer_by k (answer_told a) ≡ a
answer_again k (Ok (Loaded word source)) is =
    ap (λ (l : Kind). Ok (accepted_by l (answer_told (Ok (Loaded word source))))) is
    ∙ ap (λ (m : Mark). Ok (Loaded (record { value = word.value; mark = m }) source)) (mark_again word.mark)
answer_again k (Ok (Stored answer mark)) is =
    ap (λ (l : Kind). Ok (accepted_by l (answer_told (Ok (Stored answer mark))))) is ∙ ap (λ (m : Mark). Ok (Stored answer m)) (mark_again mark)
answer_again kind.Load (Ok (Done small)) is = absurd (is.0 refl)
answer_again kind.Store (Ok (Done small)) is = absurd (is.1 refl)
answer_again kind.Evict (Ok (Done small)) is = refl
answer_again kind.Acquire (Ok (Done small)) is = refl
answer_again kind.Release (Ok (Done small)) is = refl
answer_again kind.Phase (Ok (Done small)) is = refl
answer_again kind.Settle (Ok (Done small)) is = refl
answer_again k (Err refusal) is = refused_again k refusal

-- the broken row of the figures with a number: a list in the order of the numbers, from 14
abbrev figure_by : ℕ → FigureFault
figure_by n = get_or (Cores ∷ Slots ∷ Words ∷ Strip ∷ Allowance ∷ []) (n - 14) Cores

-- the fault that tells these numbers: a list in the order of the numbers, from 19
abbrev pub fault_by : FaultTold → JobFault
fault_by t =
    get_or (Short t.place ∷ Figures (figure_by t.inner) ∷ Reserved ∷ Length ∷ Record t.place ∷ Table ∷ []) (t.number - 19) Table

pub fault_again : (f : JobFault) → fault_by (fault_told f) ≡ f
fault_again (Short length) = refl
fault_again (Figures Cores) = refl
fault_again (Figures Slots) = refl
fault_again (Figures Words) = refl
fault_again (Figures Strip) = refl
fault_again (Figures Allowance) = refl
fault_again Reserved = refl
fault_again Length = refl
fault_again (Record place) = refl
fault_again Table = refl
