-- A list of calls played with a signature's own operations is a run in the sense of the laws: the operations keep the
-- sentences, so the sets that they leave are among those that are free. Assumes nothing.
use Rattle.std.proofs.Common.{◌≡◌, List, [], ◌∷◌, Ok, refl}
use Rattle.call.specs.Figures.{Five, checked}
use Rattle.call.specs.declared.call.Call.{Call}
use Rattle.word.specs.declared.word.Word.{Word}
use Rattle.rules.specs.Laws.{RunLaws, LawfulRun}
use Rattle.rules.specs.Runs.{Lawful, Chain, Ran, history_of, play, run}
use Rattle.rules.specs.State.{State, Setting, setting, opening}
use Rattle.rules.specs.Steps.{Change, put, take_in, clear, Operations, changed, changed_by, clear_all, Changed, Changes, step}
use Rattle.rules.proofs.Decides.{order_decides}
use Rattle.rules.proofs.Equal.{equal_loads}
use Rattle.rules.proofs.Fresh.{no_stale, refusals_told}
use Rattle.rules.proofs.Races.{races_named}
use Rattle.rules.proofs.Settled.{settled_pages}

pub run_laws : (r : Ran) → RunLaws r
run_laws r =
    record {
      no_stale = no_stale r;
      equal_loads = equal_loads r;
      settled_pages = λ q. settled_pages r q;
      order_decides = λ q. order_decides r q;
      refusals_told = refusals_told r;
      races_named = races_named r;
    }

module _ {S : Type 0} (ops : Operations S) (ok : Lawful ops) where
  changed_lawful : (s : S) (c : Change) → Changed c (ops.holds s) (ops.holds (changed ops s c))
  changed_lawful s (put core word) = ok.puts s core word
  changed_lawful s (take_in core other) = ok.takes_in s core other
  changed_lawful s (clear core) = ok.clears s core

  pub changes_lawful : (s : S) (cs : List Change) → Changes cs (ops.holds s) (ops.holds (changed_by ops s cs))
  changes_lawful s [] = λ core word. refl
  changes_lawful s (c ∷ cs) = (ops.holds (changed ops s c), changed_lawful s c, changes_lawful (changed ops s c) cs)

  pub play_chain : (b : Setting) (s : State) (g : S) (cs : List Call) → Chain b s (ops.holds g) (history_of cs (play ops b s g cs).answers) (play ops b s g cs).state
  play_chain b s g [] = refl
  play_chain b s g (c ∷ cs) = (
    refl,
    (
      ops.holds (changed_by ops g (step b (ops.holds g) s c).changes),
      changes_lawful g (step b (ops.holds g) s c).changes,
      play_chain b (step b (ops.holds g) s c).state (changed_by ops g (step b (ops.holds g) s c).changes) cs,
    ),
  )

  -- the run that a played list of calls is
  abbrev pub ran_of : (f : Five) (page : List Word) (g : S) (cs : List Call) → checked f ≡ Ok f → Ran
  ran_of f page g cs passed =
      record {
        figures = f;
        page = page;
        sets = ops.holds (changed_by ops g clear_all);
        history = history_of cs (run ops f page g cs).answers;
        final = (run ops f page g cs).state;
        passed = passed;
        chain = play_chain (setting f page) (opening f page) (changed_by ops g clear_all) cs;
      }

  pub lawful_run : (f : Five) (page : List Word) (g : S) (cs : List Call) → checked f ≡ Ok f → LawfulRun f page (history_of cs (run ops f page g cs).answers) (run ops f page g cs).state
  lawful_run f page g cs passed =
      record { run = ran_of f page g cs passed; figures = refl; page = refl; history = refl; final = refl; laws = run_laws (ran_of f page g cs passed) }
