-- Calls played in turn: one more call is one more step of the rules, one more answer, and one more record in the table.
-- Assumes nothing.
use Rattle.std.proofs.Common.{◌≡◌, ℕ, suc, ◌+◌, ◌-◌, ◌<◌, List, [], ◌∷◌, ◌++◌, length, drop, set, sym, refl, ap, ◌∙◌, arith, Result}
use Rattle.std.proofs.lemmas.List.{append_assoc, set-append_right, drop_more}
use Rattle.call.specs.declared.answer.Answer.{Answer}
use Rattle.call.specs.declared.answer.AnswerRecord.{AnswerRecord}
use Rattle.call.specs.declared.call.Call.{Call}
use Rattle.call.specs.declared.refusal.Refusal.{Refusal}
use Rattle.rules.specs.Runs.{Played, answered_first, play}
use Rattle.rules.specs.State.{State, Setting}
use Rattle.rules.specs.Steps.{Operations, step, changed_by}
use Rattle.board.specs.Obeying.{record_of}
use Rattle.board.specs.Runs.{records_of, answers_in}

-- what one more call answers and leaves
abbrev pub then_step : {S : Type 0} → Operations S → Setting → Played S → Call → Played S
then_step ops b p c =
    record {
      answers = p.answers ++ ((step b (ops.holds p.signature) p.state c).answer ∷ []);
      state = (step b (ops.holds p.signature) p.state c).state;
      signature = changed_by ops p.signature (step b (ops.holds p.signature) p.state c).changes;
    }

pub play_more : {S : Type 0} (ops : Operations S) (b : Setting) (s : State) (g : S) (cs : List Call) (c : Call) → play ops b s g (cs ++ (c ∷ [])) ≡ then_step ops b (play ops b s g cs) c
play_more ops b s g [] c = refl
play_more ops b s g (d ∷ cs) c =
    ap (answered_first (step b (ops.holds g) s d).answer) (play_more ops b (step b (ops.holds g) s d).state (changed_by ops g (step b (ops.holds g) s d).changes) cs c)

-- each call has one answer
pub play_length : {S : Type 0} (ops : Operations S) (b : Setting) (s : State) (g : S) (cs : List Call) → length (play ops b s g cs).answers ≡ length cs
play_length ops b s g [] = refl
play_length ops b s g (d ∷ cs) =
    ap suc (play_length ops b (step b (ops.holds g) s d).state (changed_by ops g (step b (ops.holds g) s d).changes) cs)

-- the records of calls with as many answers
pub records_length : (cs : List Call) (answers : List (Result Answer Refusal)) → length answers ≡ length cs → length (records_of cs answers) ≡ length cs
records_length [] answers e = refl
records_length (c ∷ cs) [] e = grind arith
records_length (c ∷ cs) (a ∷ answers) e = ap suc (records_length cs answers (omega arith))

pub records_more : (cs : List Call) (answers : List (Result Answer Refusal)) (c : Call) (a : Result Answer Refusal) → length answers ≡ length cs → records_of (cs ++ (c ∷ [])) (answers ++ (a ∷ [])) ≡ records_of cs answers ++ (record_of c a ∷ [])
records_more [] [] c a e = refl
records_more [] (x ∷ answers) c a e = grind arith
records_more (d ∷ cs) [] c a e = grind arith
records_more (d ∷ cs) (x ∷ answers) c a e =
    ap (λ (l : List AnswerRecord). record_of d x ∷ l) (records_more cs answers c a (omega arith))

-- the answers that stand in them
pub answers_back : (cs : List Call) (answers : List (Result Answer Refusal)) → length answers ≡ length cs → answers_in (records_of cs answers) ≡ answers
answers_back [] [] e = refl
answers_back [] (x ∷ answers) e = grind arith
answers_back (d ∷ cs) [] e = grind arith
answers_back (d ∷ cs) (x ∷ answers) e = ap (λ (l : List (Result Answer Refusal)). x ∷ l) (answers_back cs answers (omega arith))

-- a table whose first records are known takes one more
pub table_more : (front table : List AnswerRecord) (r : AnswerRecord) (n : ℕ) → length front ≡ n → n < length table → set (front ++ drop n table) n r ≡ (front ++ (r ∷ [])) ++ drop (n + 1) table
table_more front table r n e l =
    set-append_right front (drop n table) n n r e (omega arith)
    ∙ (ap (λ (rest : List AnswerRecord). front ++ rest) (at_zero ∙ refl)
    ∙ sym (append_assoc front (r ∷ []) (drop (n + 1) table)))
  where
    none : n - n ≡ 0
    none = omega arith

    at_zero : set (drop n table) (n - n) r ≡ r ∷ drop (n + 1) table
    at_zero =
        ap (λ (k : ℕ). set (drop n table) k r) none ∙ ap (λ (xs : List AnswerRecord). set xs 0 r) (drop_more table n r l)
