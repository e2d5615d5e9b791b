-- Whole runs: calls played one after another on a board just opened, in both readings of a step.
-- Assumes nothing.
use Rattle.std.specs.Prelude.{◌≡◌, ℕ, List, [], ◌∷◌, Ok, Result}
use Rattle.call.specs.Figures.{Five, checked}
use Rattle.call.specs.declared.answer.Answer.{Answer}
use Rattle.call.specs.declared.call.Call.{Call}
use Rattle.call.specs.declared.refusal.Refusal.{Refusal}
use Rattle.sets.specs.Sentences as signature
use Rattle.sets.specs.Sentences.{Sets}
use Rattle.word.specs.declared.word.Word.{Word}
use Rattle.rules.specs.State.{State, Setting, setting, opening}
use Rattle.rules.specs.Steps.{step, Operations, changed_by, clear_all, Changes}

-- ── with a signature's own operations ──

-- what a list of calls answers and leaves
pub record Played (S : Type 0) : Type 0 where
  pub answers : List (Result Answer Refusal)
  pub state : State
  pub signature : S

abbrev pub answered_first : {S : Type 0} → Result Answer Refusal → Played S → Played S
answered_first a p = record { answers = a ∷ p.answers; state = p.state; signature = p.signature }

abbrev pub play : {S : Type 0} → Operations S → Setting → State → S → List Call → Played S
play ops b s g [] = record { answers = []; state = s; signature = g }
play ops b s g (c ∷ cs) =
    answered_first (step b (ops.holds g) s c).answer
    (play ops b (step b (ops.holds g) s c).state (changed_by ops g (step b (ops.holds g) s c).changes) cs)

-- a run: the calls on a board just opened, all signatures cleared
abbrev pub run : {S : Type 0} → Operations S → Five → List Word → S → List Call → Played S
run ops f page g cs = play ops (setting f page) (opening f page) (changed_by ops g clear_all) cs

-- operations that keep the sentences of a signature
pub record Lawful {S : Type 0} (ops : Operations S) : Type 0 where
  pub puts : (s : S) (core word : ℕ) → signature.Put (ops.holds s) (ops.holds (ops.put s core word)) core word
  pub takes_in : (s : S) (core other : ℕ) → signature.TakenIn (ops.holds s) (ops.holds (ops.take_in s core other)) core other
  pub clears : (s : S) (core : ℕ) → signature.Cleared (ops.holds s) (ops.holds (ops.clear s core)) core

-- ── with sets free within the sentences ──

-- a call and its answer
pub record Event : Type 0 where
  pub call : Call
  pub answer : Result Answer Refusal

-- the calls made with their answers, the oldest first
abbrev pub History : Type 0
History = List Event

-- each call with its answer
abbrev pub history_of : List Call → List (Result Answer Refusal) → History
history_of [] answers = []
history_of (c ∷ cs) [] = []
history_of (c ∷ cs) (a ∷ answers) = record { call = c; answer = a } ∷ history_of cs answers

-- a history that leads from one state to another, each answer and state by the rules, the sets by the sentences
abbrev pub Chain : Setting → State → Sets → History → State → Type 0
Chain b s g [] t = s ≡ t
Chain b s g (e ∷ h) t =
    (e.answer ≡ (step b g s e.call).answer)
    × ((g' : Sets) × (Changes (step b g s e.call).changes g g') × (Chain b (step b g s e.call).state g' h t))

-- a run in the sense of the laws: any list of calls, refused ones included, on one board just opened, over any page and
-- any sets
pub record Ran : Type 0 where
  pub figures : Five
  pub page : List Word
  pub sets : Sets
  pub history : History
  pub final : State
  pub passed : checked figures ≡ Ok figures
  pub chain : Chain (setting figures page) (opening figures page) sets history final
