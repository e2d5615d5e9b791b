-- What each call promises: its answer and all that it leaves are those of the rules. Assumes nothing.
use Rattle.std.specs.Prelude.{◌≡◌, ℕ, List, Some, None, Ok, Err, Option, Result}
use Rattle.call.specs.Calls.{caller_of, kind_of}
use Rattle.call.specs.declared.answer.Answer.{Answer}
use Rattle.call.specs.declared.answer.Answer.TheVariants.{Loaded, Stored, Done}
use Rattle.call.specs.declared.answer.AnswerRecord.{AnswerRecord}
use Rattle.call.specs.declared.call.Call.{Call}
use Rattle.call.specs.declared.refusal.Refusal.{Refusal}
use Rattle.locks.specs.declared.grant.Grant.{Grant}
use Rattle.memory.specs.Entries.{number_of, number_of_owner}
use Rattle.memory.specs.Views as memory
use Rattle.memory.specs.declared.entry.Owner.{Owner}
use Rattle.memory.specs.declared.entry.State.{State}
use Rattle.races.specs.Remembered.{Remembers}
use Rattle.rules.specs.Refusals.{refusal}
use Rattle.rules.specs.State.{Accessed}
use Rattle.rules.specs.Steps.{Operations, Outcome, outcome, step, changed_by}
use Rattle.word.specs.declared.mark.Mark.{Mark}
use Rattle.word.specs.declared.word.Word.{Word}
use Rattle.board.specs.Memories.{RemembersSome}
use Rattle.board.specs.Turns.{grant_number, passed_number}
use Rattle.board.specs.Views.{setting_of, ledger_of, view}
use Rattle.board.specs.declared.board.Board.{Board}

-- whether and why a check refuses is what the rows of the call say, whichever accesses the board remembers
abbrev pub Checks : {P S : Type 0} → Board P S → Call → Option Refusal → Type 0
Checks b c found =
    (accesses : List Accessed) → Remembers b.races accesses → found ≡ refusal (setting_of b) (ledger_of b accesses) c

module _ {P S : Type 0} (words : P → List Word) (ops : Operations S) where
  -- the answer and every part of what is left are those of an outcome of the rules: page, copies, owners, locks, counts, plan, this
  -- phase's accesses, and the signature by its own operations
  pub record Left (before after : Board P S) (a : Result Answer Refusal) (o : Outcome) : Type 0 where
    pub answer : a ≡ o.answer
    pub state : view words after o.state.ledger.accesses ≡ o.state
    pub remembers : Remembers after.races o.state.ledger.accesses
    pub signature : after.signature ≡ changed_by ops before.signature o.changes

  -- a call, accepted or refused, answers and leaves what the rules say, whichever accesses the board remembers, and it remembers some;
  -- figures and size stay
  pub record Obeys (before after : Board P S) (c : Call) (a : Result Answer Refusal) : Type 0 where
    pub figures : after.memory.figures ≡ before.memory.figures
    pub size : after.size ≡ before.size
    pub some : RemembersSome before.races
    pub rules :
        (accesses : List Accessed) → Remembers before.races accesses
        → Left before after a (step (setting_of before) (ops.holds before.signature) (view words before accesses) c)

  -- the same of a call that no row refuses
  pub record Performs (before after : Board P S) (c : Call) (a : Result Answer Refusal) : Type 0 where
    pub figures : after.memory.figures ≡ before.memory.figures
    pub size : after.size ≡ before.size
    pub rules :
        (accesses : List Accessed) → Remembers before.races accesses
        → Left before after a (outcome None (setting_of before) (ops.holds before.signature) (view words before accesses) c)

-- nothing is altered: figures and size, page words, copies, owners, locks, counts, plan, accesses and signature are as they were
pub record Unaltered {P S : Type 0} (words : P → List Word) (before after : Board P S) : Type 0 where
  pub figures : after.memory.figures ≡ before.memory.figures
  pub size : after.size ≡ before.size
  pub memory : memory.view words after.memory ≡ memory.view words before.memory
  pub locks : after.locks ≡ before.locks
  pub counts : after.counts ≡ before.counts
  pub plan : after.plan ≡ before.plan
  pub races : after.races ≡ before.races
  pub signature : after.signature ≡ before.signature

-- what a call answers, by what it gives if it is accepted
abbrev pub answered : {X : Type 0} → (X → Answer) → Result X Refusal → Result Answer Refusal
answered tell (Ok x) = Ok (tell x)
answered tell (Err r) = Err r

-- what a load gives, as an answer of the rules
abbrev pub load_given : Word × ℕ → Answer
load_given p = Loaded p.0 p.1

-- what a store gives
abbrev pub store_given : Owner × Mark → Answer
store_given p = Stored (number_of_owner p.0) p.1

-- what an evict gives
abbrev pub evict_given : State → Answer
evict_given state = Done (number_of state)

-- what an acquire gives
abbrev pub acquire_given : Grant → Answer
acquire_given grant = Done (grant_number grant)

-- what a release gives
abbrev pub release_given : Option ℕ → Answer
release_given next = Done (passed_number next)

-- the refusal of a check, if it refuses
abbrev pub refused_by : {X : Type 0} → Result X Refusal → Option Refusal
refused_by (Ok x) = None
refused_by (Err r) = Some r

-- the record of a call and its answer
abbrev pub record_of : Call → Result Answer Refusal → AnswerRecord
record_of c a = record { caller = caller_of c; kind = kind_of c; answer = a }
