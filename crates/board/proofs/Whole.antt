-- Whole runs on a board: calls that each obey the rules play what the rules play, and on a board just opened that is a run, of which
-- all laws hold. Assumes nothing.
use Rattle.std.proofs.Common.{◌≡◌, ℕ, ◌+◌, ◌<◌, List, [], ◌∷◌, ◌++◌, length, get_or, take, drop, set, Ok, sym, refl, ap, ◌∙◌, subst, arith, length-append, Result}
use lib.Seq.{take-append_seam}
use Rattle.std.proofs.lemmas.List.{take_more, length-take-le}
use Rattle.call.specs.Figures.{Five, figures, checked}
use Rattle.call.specs.declared.answer.Answer.{Answer}
use Rattle.call.specs.declared.answer.AnswerRecord.{AnswerRecord}
use Rattle.call.specs.declared.call.Call.{Call}
use Rattle.call.specs.declared.refusal.Refusal.{Refusal}
use Rattle.races.specs.Remembered.{Remembers}
use Rattle.rules.proofs.Instance.{lawful_run}
use Rattle.rules.specs.Laws.{LawfulRun}
use Rattle.rules.specs.Runs.{Played, Lawful, history_of, play, run}
use Rattle.rules.specs.State.{Accessed, Setting, State, setting, size_of, opening}
use Rattle.rules.specs.Steps.{Operations, step, changed_by, clear_all}
use Rattle.word.specs.declared.word.Word.{Word}
use Rattle.board.specs.Obeying.{Left, Obeys, record_of}
use Rattle.board.specs.Runs.{records_of, answers_in, Shows, Plays, Runs}
use Rattle.board.specs.Views.{setting_of, view}
use Rattle.board.specs.declared.board.Board.{Board}
use Rattle.board.proofs.Playing.{then_step, play_more, play_length, records_length, records_more, answers_back, table_more}

module _ {P S : Type 0} (words : P → List Word) (ops : Operations S) where
  -- no call yet
  pub plays_none : (b : Board P S) (table : List AnswerRecord) → Plays words ops b b [] table table
  plays_none b table =
      record {
        figures = refl;
        size = refl;
        answers = λ accesses m. refl;
        board = λ accesses m. record { state = refl; remembers = m; signature = refl };
      }

  -- a call on a board that shows what was played is one more step
  module _ (base : Setting) (b after : Board P S) (c : Call) (a : Result Answer Refusal) (p : Played S) (same : setting_of b ≡ base) (shows : Shows words b p) (obeys : Obeys words ops b after c a) where
    left : Left words ops b after a (step base (ops.holds p.signature) p.state c)
    left =
        subst (λ (x : Setting). Left words ops b after a (step x (ops.holds p.signature) p.state c)) same
        (subst (λ (g : S). Left words ops b after a (step (setting_of b) (ops.holds g) p.state c)) shows.signature
        (subst (λ (s : State). Left words ops b after a (step (setting_of b) (ops.holds b.signature) s c)) shows.state
        (obeys.rules p.state.ledger.accesses shows.remembers)))

    pub step_answer : a ≡ (step base (ops.holds p.signature) p.state c).answer
    step_answer = left.answer

    pub step_shows : Shows words after (then_step ops base p c)
    step_shows =
        record {
          state = left.state;
          remembers = left.remembers;
          signature = left.signature ∙ ap (λ (g : S). changed_by ops g (step base (ops.holds p.signature) p.state c).changes) shows.signature;
        }

  pub same_setting : (b before : Board P S) → b.memory.figures ≡ before.memory.figures → b.size ≡ before.size → setting_of b ≡ setting_of before
  same_setting b before f s = λ i. record { figures = figures (f i); size = s i }

  -- one more call
  module _ (before b after : Board P S) (cs : List Call) (c : Call) (a : Result Answer Refusal) (table records : List AnswerRecord) (room : length cs < length table) (plays : Plays words ops before b cs table records) (obeys : Obeys words ops b after c a) where
    module _ (accesses : List Accessed) (m : Remembers before.races accesses) where
      abbrev played : Played S
      played = play ops (setting_of before) (view words before accesses) before.signature cs

      more : play ops (setting_of before) (view words before accesses) before.signature (cs ++ (c ∷ [])) ≡ then_step ops (setting_of before) played c
      more = play_more ops (setting_of before) (view words before accesses) before.signature cs c

      long : length played.answers ≡ length cs
      long = play_length ops (setting_of before) (view words before accesses) before.signature cs

      same : setting_of b ≡ setting_of before
      same = same_setting b before plays.figures plays.size

      board_more : Shows words after (play ops (setting_of before) (view words before accesses) before.signature (cs ++ (c ∷ [])))
      board_more =
          subst (λ (q : Played S). Shows words after q) (sym more)
          (step_shows (setting_of before) b after c a played same (plays.board accesses m) obeys)

      told : a ≡ (step (setting_of before) (ops.holds played.signature) played.state c).answer
      told = step_answer (setting_of before) b after c a played same (plays.board accesses m) obeys

      records_grow : records_of cs played.answers ++ (record_of c a ∷ []) ≡ records_of (cs ++ (c ∷ [])) (play ops (setting_of before) (view words before accesses) before.signature (cs ++ (c ∷ []))).answers
      records_grow =
          sym (records_more cs played.answers c a long)
          ∙ (ap (λ (x : Result Answer Refusal). records_of (cs ++ (c ∷ [])) (played.answers ++ (x ∷ []))) told
          ∙ ap (λ (q : Played S). records_of (cs ++ (c ∷ [])) q.answers) (sym more))

      answers_more : set records (length cs) (record_of c a) ≡ records_of (cs ++ (c ∷ [])) (play ops (setting_of before) (view words before accesses) before.signature (cs ++ (c ∷ []))).answers ++ drop (length (cs ++ (c ∷ []))) table
      answers_more =
          ap (λ (t : List AnswerRecord). set t (length cs) (record_of c a)) (plays.answers accesses m)
          ∙ (table_more (records_of cs played.answers) table (record_of c a) (length cs) (records_length cs played.answers long) room
          ∙ (λ i. records_grow i ++ drop (sym (length-append cs (c ∷ [])) i) table))

    pub plays_more : Plays words ops before after (cs ++ (c ∷ [])) table (set records (length cs) (record_of c a))
    plays_more =
        record {
          figures = obeys.figures ∙ plays.figures;
          size = obeys.size ∙ plays.size;
          answers = answers_more;
          board = board_more;
        }

  -- one more of a list of calls
  pub plays_next : (before b after : Board P S) (calls : List Call) (at : ℕ) (d : Call) (a : Result Answer Refusal) (r : AnswerRecord) (table records : List AnswerRecord) → at < length calls → at < length table → Plays words ops before b (take at calls) table records → Obeys words ops b after (get_or calls at d) a → r ≡ record_of (get_or calls at d) a → Plays words ops before after (take (at + 1) calls) table (set records at r)
  plays_next before b after calls at d a r table records l room plays obeys e =
      let many : length (take at calls) ≡ at = length-take-le at calls (omega arith) in
      let next = plays_more before b after (take at calls) (get_or calls at d) a table records (omega arith) plays obeys in
      subst (λ (cs : List Call). Plays words ops before after cs table (set records at r)) (sym (take_more calls at d l))
      (subst (λ (n : ℕ). Plays words ops before after (take at calls ++ (get_or calls at d ∷ [])) table (set records n r)) many
      (subst (λ (x : AnswerRecord). Plays words ops before after (take at calls ++ (get_or calls at d ∷ [])) table (set records (length (take at calls)) x)) (sym e) next))

  -- on a board just opened it is a run
  module _ (lawful : Lawful ops) (f : Five) (page : List Word) (g : S) (opened after : Board P S) (calls : List Call) (table records : List AnswerRecord) (passed : checked f ≡ Ok f) (numbers : figures opened.memory.figures ≡ f) (size : opened.size ≡ size_of f page) (state : view words opened [] ≡ opening f page) (remembers : Remembers opened.races []) (signature : opened.signature ≡ changed_by ops g clear_all) (plays : Plays words ops opened after calls table records) where
    sets : setting_of opened ≡ setting f page
    sets = λ i. record { figures = numbers i; size = size i }

    played_run : play ops (setting_of opened) (view words opened []) opened.signature calls ≡ run ops f page g calls
    played_run = λ i. play ops (sets i) (state i) (signature i) calls

    all_answered : length (run ops f page g calls).answers ≡ length calls
    all_answered = play_length ops (setting f page) (opening f page) (changed_by ops g clear_all) calls

    answers : records ≡ records_of calls (run ops f page g calls).answers ++ drop (length calls) table
    answers =
        plays.answers [] remembers
        ∙ ap (λ (q : Played S). records_of calls q.answers ++ drop (length calls) table) played_run

    back : answers_in (take (length calls) records) ≡ (run ops f page g calls).answers
    back =
        ap (λ (t : List AnswerRecord). answers_in (take (length calls) t)) answers
        ∙ (ap (λ (n : ℕ). answers_in (take n (records_of calls (run ops f page g calls).answers ++ drop (length calls) table))) (sym (records_length calls (run ops f page g calls).answers all_answered))
        ∙ (ap answers_in (take-append_seam (records_of calls (run ops f page g calls).answers) (drop (length calls) table))
        ∙ answers_back calls (run ops f page g calls).answers all_answered))

    pub runs : Runs words ops f page g calls table records after
    runs =
        record {
          setting = same_setting after opened plays.figures plays.size ∙ sets;
          answers = answers;
          board = subst (λ (q : Played S). Shows words after q) played_run (plays.board [] remembers);
          lawful =
              subst (λ (answers : List (Result Answer Refusal)). LawfulRun f page (history_of calls answers) (run ops f page g calls).state) (sym back)
              (lawful_run ops lawful f page g calls passed);
        }
