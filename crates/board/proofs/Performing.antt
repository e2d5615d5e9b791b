-- What a call leaves, put together from its parts; and that a call which is refused, or performed after its checks, obeys the rules.
-- Assumes nothing.
use Rattle.std.proofs.Common.{◌≡◌, ℕ, List, Some, None, Ok, Err, Option, Result, refl, subst}
use Rattle.std.specs.Result.{IsErrAnd}
use Rattle.call.specs.declared.answer.Answer.{Answer}
use Rattle.call.specs.declared.call.Call.{Call}
use Rattle.call.specs.declared.refusal.Refusal.{Refusal}
use Rattle.races.specs.Remembered.{Remembers}
use Rattle.rules.specs.State.{Accessed, Lock, Memory, State}
use Rattle.rules.specs.Steps.{Operations, outcome}
use Rattle.word.specs.declared.word.Word.{Word}
use Rattle.board.specs.Obeying.{Checks, Left, Obeys, Performs, answered}
use Rattle.board.specs.Views.{setting_of, view}
use Rattle.board.specs.declared.board.Board.{Board}

-- two states of the rules whose parts are equal
pub same_state : {m n : Memory} {locks others : ℕ → Lock} {counts more : ℕ → ℕ} {plan next : ℕ} {accesses : List Accessed} → m ≡ n → locks ≡ others → counts ≡ more → plan ≡ next → ◌≡◌ {A = State} (record { memory = m; ledger = record { locks = locks; counts = counts; plan = plan; accesses = accesses } }) (record { memory = n; ledger = record { locks = others; counts = more; plan = next; accesses = accesses } })
same_state {accesses = accesses} memory locks counts plan =
    λ i. record { memory = memory i; ledger = record { locks = locks i; counts = counts i; plan = plan i; accesses = accesses } }

module _ {P S : Type 0} (words : P → List Word) (ops : Operations S) where
  -- a refused call leaves everything as it stood, as far as the rules see it
  pub refused_leaves : (b after : Board P S) (c : Call) (r : Refusal) → Checks b c (Some r) → after.memory.figures ≡ b.memory.figures → after.size ≡ b.size → ((accesses : List Accessed) → view words after accesses ≡ view words b accesses) → ((accesses : List Accessed) → Remembers b.races accesses → Remembers after.races accesses) → after.signature ≡ b.signature → Obeys words ops b after c (Err r)
  refused_leaves b after c r told figures size same remembers signature =
      record {
        figures = figures;
        size = size;
        some = b.some;
        rules = λ accesses m.
            subst (λ (o : Option Refusal). Left words ops b after (Err r) (outcome o (setting_of b) (ops.holds b.signature) (view words b accesses) c)) (told accesses m)
            (record { answer = refl; state = same accesses; remembers = remembers accesses m; signature = signature });
      }

  -- and it is the board itself that is left
  pub refused_obeys : (b : Board P S) (c : Call) (r : Refusal) → Checks b c (Some r) → Obeys words ops b b c (Err r)
  refused_obeys b c r told = refused_leaves b b c r told refl refl (λ accesses. refl) (λ accesses m. m) refl

  -- which is what the exit of a `?` gives back
  pub exit_obeys : {X : Type 0} (b : Board P S) (c : Call) (tell : X → Answer) (a : Result X Refusal) (r : Refusal) → IsErrAnd a (λ e. e ≡ r) → Checks b c (Some r) → Obeys words ops b b c (answered tell a)
  exit_obeys b c tell (Ok x) r exit told = absurd exit
  exit_obeys b c tell (Err e) r exit told = rw exit (refused_obeys b c r told)

  -- a call that no check refuses obeys where it is performed
  pub performed_obeys : (before after : Board P S) (c : Call) (a : Result Answer Refusal) → Checks before c None → Performs words ops before after c a → Obeys words ops before after c a
  performed_obeys before after c a told p =
      record {
        figures = p.figures;
        size = p.size;
        some = before.some;
        rules = λ accesses m.
            subst (λ (o : Option Refusal). Left words ops before after a (outcome o (setting_of before) (ops.holds before.signature) (view words before accesses) c)) (told accesses m) (p.rules accesses m);
      }
