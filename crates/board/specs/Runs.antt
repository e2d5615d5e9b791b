-- A whole run as a call promises it: the answer table, the board and its signature by the rules, and the laws of runs.
-- Assumes nothing.
use Rattle.std.specs.Prelude.{◌≡◌, List, [], ◌∷◌, ◌++◌, map, length, take, drop, Result}
use Rattle.call.specs.Figures.{Five}
use Rattle.call.specs.declared.answer.Answer.{Answer}
use Rattle.call.specs.declared.answer.AnswerRecord.{AnswerRecord}
use Rattle.call.specs.declared.call.Call.{Call}
use Rattle.call.specs.declared.refusal.Refusal.{Refusal}
use Rattle.races.specs.Remembered.{Remembers}
use Rattle.rules.specs.Laws.{LawfulRun}
use Rattle.rules.specs.Runs.{Played, history_of, play, run}
use Rattle.rules.specs.State.{Accessed, setting}
use Rattle.rules.specs.Steps.{Operations}
use Rattle.word.specs.declared.word.Word.{Word}
use Rattle.board.specs.Obeying.{record_of}
use Rattle.board.specs.Views.{setting_of, view}
use Rattle.board.specs.declared.board.Board.{Board}

-- the records of some calls with their answers, in order
abbrev pub records_of : List Call → List (Result Answer Refusal) → List AnswerRecord
records_of [] answers = []
records_of (c ∷ cs) [] = []
records_of (c ∷ cs) (a ∷ answers) = record_of c a ∷ records_of cs answers

-- the answers that stand in some records
abbrev pub answers_in : List AnswerRecord → List (Result Answer Refusal)
answers_in records = map (λ r. r.answer) records

module _ {P S : Type 0} (words : P → List Word) where
  -- a board is what some calls leave, every part of it: page, copies, owners, locks, counts, plan, this phase's accesses and signature
  pub record Shows (b : Board P S) (p : Played S) : Type 0 where
    pub state : view words b p.state.ledger.accesses ≡ p.state
    pub remembers : Remembers b.races p.state.ledger.accesses
    pub signature : b.signature ≡ p.signature

  -- calls played on a board in turn, with their records in a table: the records stand at its beginning, later ones keep their
  -- contents, and the board is what the rules leave; figures and size stay
  pub record Plays (ops : Operations S) (before after : Board P S) (calls : List Call) (table records : List AnswerRecord) : Type 0 where
    pub figures : after.memory.figures ≡ before.memory.figures
    pub size : after.size ≡ before.size
    pub answers :
        (accesses : List Accessed) → Remembers before.races accesses
        → records ≡ records_of calls (play ops (setting_of before) (view words before accesses) before.signature calls).answers ++ drop (length calls) table
    pub board :
        (accesses : List Accessed) → Remembers before.races accesses
        → Shows after (play ops (setting_of before) (view words before accesses) before.signature calls)

  -- calls played on a board just opened with these figures on this page, into a table: each call's record stands in the table, later
  -- records keep their contents, the board is what the rules leave, and it is a run, of which all laws hold
  pub record Runs (ops : Operations S) (f : Five) (page : List Word) (g : S) (calls : List Call) (table after : List AnswerRecord) (b : Board P S) : Type 0 where
    pub setting : setting_of b ≡ setting f page
    pub answers : after ≡ records_of calls (run ops f page g calls).answers ++ drop (length calls) table
    pub board : Shows b (run ops f page g calls)
    pub lawful : LawfulRun f page (history_of calls (answers_in (take (length calls) after))) (run ops f page g calls).state
