-- The laws of one run: refusals are told by history, no load is stale, and two loads are equal exactly when no store came
-- between. The first two are read off the moment before the call. For the third, marks of different stores differ: of two
-- stores of one core the later has the greater count. Assumes nothing.
use Rattle.std.proofs.Common.{◌≡◌, ℕ, ◌<◌, [], ◌∷◌, ◌++◌, Some, None, Option, sym, refl, ap, ◌∙◌, subst, arith, Ok, Result}
use Rattle.std.proofs.lemmas.Option.{same_Some}
use Rattle.call.specs.declared.answer.Answer.{Answer}
use Rattle.call.specs.declared.answer.Answer.TheVariants.{Loaded}
use Rattle.call.specs.declared.call.Call.{Call}
use Rattle.call.specs.declared.call.Call.TheVariants as call
use Rattle.call.specs.declared.refusal.Refusal.{Refusal}
use Rattle.sets.specs.Sentences.{Sets}
use Rattle.word.specs.declared.word.Word.{Word}
use Rattle.rules.specs.Effects as effect
use Rattle.rules.specs.Histories.{loaded, load_of, given_by, LoadGiven, Wanted, refused_with, last_store, Fresh}
use Rattle.rules.specs.Laws.{NoStale, RefusalsTold, old_word}
use Rattle.rules.specs.Refusals.{refusal}
use Rattle.rules.specs.Runs.{Event, History, Chain, Ran}
use Rattle.rules.specs.State.{Ledger, State, Setting, setting, opening}
use Rattle.rules.specs.Steps.{step, outcome, again}
use Rattle.rules.proofs.Invariant.{Fits, load_is_fresh}
use Rattle.rules.proofs.Opening.{fits, opening_moment}
use Rattle.rules.proofs.Unrefused.{load_passes}
use Rattle.rules.proofs.Walking.{Moment, Reached, walk}

-- the moment before an event of a run
pub reached : (r : Ran) (before rest : History) → r.history ≡ before ++ rest → Reached (setting r.figures r.page) (fits r.figures r.page r.passed) (old_word r) before rest r.final
reached r before rest split =
    walk (setting r.figures r.page) (fits r.figures r.page r.passed) (old_word r) [] (opening r.figures r.page) r.sets before rest r.final (opening_moment r.figures r.page r.passed r.sets)
    (subst (λ (h : History). Chain (setting r.figures r.page) (opening r.figures r.page) r.sets h r.final) split r.chain)

-- an answer by the rules tells the refusal
pub step_refused : (b : Setting) (g : Sets) (s : State) (c : Call) → refused_with (step b g s c).answer ≡ refusal b s.ledger c
step_refused b g s c = go (refusal b s.ledger c)
  where
    go : (o : Option Refusal) → refused_with (outcome o b g s c).answer ≡ o
    go (Some r) = refl
    go None = refl

pub refusals_told : (r : Ran) → RefusalsTold r
refusals_told r before e after split =
    let p = reached r before (e ∷ after) split in
    ap refused_with p.chain.0
    ∙ (step_refused (setting r.figures r.page) p.sets p.state e.call
    ∙ ap (λ (l : Ledger). refusal (setting r.figures r.page) l e.call) p.moment.told.ledger)

load_of_tells : (c : Call) (w : Wanted) → load_of c ≡ Some w → c ≡ call.Load w.core w.word
load_of_tells (call.Load core word) w e =
    grind arith
load_of_tells _ w e = grind arith

-- what an accepted load tells of its event
pub record LoadEvent (e : Event) (l : LoadGiven) : Type 0 where
  pub source : ℕ
  pub call : e.call ≡ call.Load l.core l.word
  pub answer : e.answer ≡ Ok (Loaded l.given source)

pub loaded_tells : (e : Event) (l : LoadGiven) → loaded e ≡ Some l → LoadEvent e l
loaded_tells e l h = go e.answer (load_of e.call) refl refl h
  where
    go : (a : Result Answer Refusal) (o : Option Wanted) → e.answer ≡ a → load_of e.call ≡ o → given_by a o ≡ Some l → LoadEvent e l
    go (Ok (Loaded x source)) (Some w) p q r =
        let same = same_Some _ l r in
        record { source = source; call = load_of_tells e.call w q ∙ (λ i. call.Load (same i).core (same i).word); answer = p ∙ (λ i. Ok (Loaded (same i).given source)) }
    go _ _ p q r = grind arith

-- a load that is not refused gives the word that the history says
load_fresh : (b : Setting) (ok : Fits b) (old : ℕ → Word) (h : History) (s : State) (g : Sets) (m : Moment b ok old h s g) (core word : ℕ) (x : Word) (source : ℕ) → Ok (Loaded x source) ≡ (step b g s (call.Load core word)).answer → (word < b.size) × (x ≡ m.now word)
load_fresh b ok old h s g m core word x source a = go (refusal b s.ledger (call.Load core word)) refl a
  where
    go : (o : Option Refusal) → refusal b s.ledger (call.Load core word) ≡ o → Ok (Loaded x source) ≡ (outcome o b g s (call.Load core word)).answer → (word < b.size) × (x ≡ m.now word)
    go (Some r) q p = grind arith
    go None q p =
        let pass = load_passes b s.ledger core word q in
        let f = (load_is_fresh b ok m.now s g g m.good core word pass.open_to pass.unraced).fresh in
        let same : x ≡ (effect.load b.figures s.memory (again b g s core word) core word).word = cc in
        (pass.in_size, same ∙ f)

pub no_stale : (r : Ran) → NoStale r
no_stale r before e after l split h =
    let b = setting r.figures r.page in
    let p = reached r before (e ∷ after) split in
    let t = loaded_tells e l h in
    let by_rule : Ok (Loaded l.given t.source) ≡ (step b p.sets p.state (call.Load l.core l.word)).answer = sym t.answer ∙ (p.chain.0 ∙ ap (λ (c : Call). (step b p.sets p.state c).answer) t.call) in
    let f = load_fresh b (fits r.figures r.page r.passed) (old_word r) before p.state p.sets p.moment l.core l.word l.given t.source by_rule in
    subst (λ (x : Word). Fresh (last_store l.word before) (old_word r l.word) x) (sym f.1) (p.moment.told.fresh l.word f.0)
