-- The turns of a lock: at every moment of a run its acquirers are its releasers with the holder and the queue behind them,
-- since a release is by the holder and passes the lock to the head of the queue. So the order of holders begins with the
-- releasers so far and then the holder. Assumes nothing.
use Rattle.std.proofs.Common.{◌≡◌, ℕ, true, not, eqb, List, [], ◌∷◌, ◌++◌, is_some, Some, None, Option, sym, refl, ap, ◌∙◌, subst, ⊎_elim, append_assoc, arith}
use Rattle.std.proofs.lemmas.List.{append-nil}
use Rattle.std.proofs.lemmas.Bool.{cond-true, cond-false, eq-eqb, ne_eqb}
use Rattle.call.specs.declared.call.Call.{Call}
use Rattle.call.specs.declared.call.Call.TheVariants as call
use Rattle.call.specs.declared.refusal.Refusal.{Refusal}
use Rattle.rules.specs.Histories.{refused_with, acquire_of, release_of, Asked, cores_for, acquirers, releasers, ledger_of}
use Rattle.rules.specs.Laws.{Unrefused}
use Rattle.rules.specs.Refusals.{refusal}
use Rattle.rules.specs.Runs.{Event, History, Ran}
use Rattle.rules.specs.State.{Lock, Ledger, Setting, setting}
use Rattle.rules.specs.Steps.{entered, acquired_by, released_to}
use Rattle.rules.proofs.Fresh.{refusals_told}
use Rattle.rules.proofs.Invariant.{holds_tells}
use Rattle.rules.proofs.Splits.{along, joined_push}
use Rattle.rules.proofs.Tables.{upd_cases}
use Rattle.rules.proofs.Unrefused.{release_passes}
use Rattle.rules.proofs.Walking.{of_unrefused, ledger_push}

-- ── a run without a refusal ──

-- each call was accepted, no row of it being met in the ledger before it
pub record Legal (b : Setting) (h : History) : Type 0 where
  pub accepts : (before : History) (e : Event) (after : History) → h ≡ before ++ (e ∷ after) → refused_with e.answer ≡ None
  pub passes : (before : History) (e : Event) (after : History) → h ≡ before ++ (e ∷ after) → refusal b (ledger_of before) e.call ≡ None

accepted_tells : (o : Option Refusal) → not (is_some o) ≡ true → o ≡ None
accepted_tells o e = grind arith

pub legal : (r : Ran) → Unrefused r.history → Legal (setting r.figures r.page) r.history
legal r ok =
    record {
      accepts = λ before e after split. accepted_tells (refused_with e.answer) (ok before e after split);
      passes = λ before e after split. sym (refusals_told r before e after split) ∙ accepted_tells (refused_with e.answer) (ok before e after split);
    }

-- ── holder and queue ──

abbrev held : Option ℕ → List ℕ
held None = []
held (Some c) = c ∷ []

-- the holder, and behind it those who wait
abbrev pub line : Lock → List ℕ
line lock = held lock.holder ++ lock.queue

-- the turns of one lock
pub record Turn (lock : Lock) (acquires releases : List ℕ) : Type 0 where
  pub turns : acquires ≡ releases ++ line lock
  pub nobody : lock.holder ≡ None → lock.queue ≡ []

acquired_turn : (o : Option ℕ) (lock : Lock) (core : ℕ) (got rs : List ℕ) → lock.holder ≡ o → Turn lock got rs → Turn (acquired_by o lock core) (got ++ (core ∷ [])) rs
acquired_turn None lock core got rs e t =
    let free : lock.queue ≡ [] = t.nobody e in
    let none : line lock ≡ [] = (λ i. held (e i) ++ free i) in
    record {
      turns = ap (λ (k : List ℕ). k ++ (core ∷ [])) (t.turns ∙ (ap (λ (k : List ℕ). rs ++ k) none ∙ append-nil rs)) ∙ ap (λ (k : List ℕ). rs ++ (core ∷ k)) (sym free);
      nobody = λ n. grind arith;
    }
acquired_turn (Some d) lock core got rs e t =
    record {
      turns = ap (λ (k : List ℕ). k ++ (core ∷ [])) (t.turns ∙ ap (λ (o : Option ℕ). rs ++ (held o ++ lock.queue)) e) ∙ append_assoc rs (d ∷ lock.queue) (core ∷ []);
      nobody = λ n. grind arith;
    }

released_turn : (q : List ℕ) (lock : Lock) (core : ℕ) (got rs : List ℕ) → lock.queue ≡ q → lock.holder ≡ Some core → Turn lock got rs → Turn (released_to q core) got (rs ++ (core ∷ []))
released_turn [] lock core got rs e h t =
    record {
      turns = t.turns ∙ ((λ i. rs ++ (held (h i) ++ e i)) ∙ sym (append-nil (rs ++ (core ∷ []))));
      nobody = λ n. refl;
    }
released_turn (next ∷ more) lock core got rs e h t =
    record {
      turns = t.turns ∙ ((λ i. rs ++ (held (h i) ++ e i)) ∙ sym (append_assoc rs (core ∷ []) (next ∷ more)));
      nobody = λ n. grind arith;
    }

-- ── along a run ──

cores_here : (lock k core : ℕ) → lock ≡ k → cores_for lock (Some (record { core = core; lock = k })) ≡ core ∷ []
cores_here lock k core e = cond-true (eqb k lock) (core ∷ []) [] (eq-eqb k lock (sym e))

cores_there : (lock k core : ℕ) → (lock ≡ k → ⊥) → cores_for lock (Some (record { core = core; lock = k })) ≡ []
cores_there lock k core n = cond-false (eqb k lock) (core ∷ []) [] (ne_eqb k lock (λ e. n (sym e)))

turn_like : {a b : Lock} {x u y v : List ℕ} → a ≡ b → x ≡ u → y ≡ v → Turn b u v → Turn a x y
turn_like {a} {b} {x} {u} {y} {v} p q r t =
    subst (λ (k : Lock). Turn k x y) (sym p) (subst (λ (k : List ℕ). Turn b k y) (sym q) (subst (λ (k : List ℕ). Turn b u k) (sym r) t))

-- one accepted call
turn_entered : (l : Ledger) (c : Call) (lock : ℕ) (got given : List ℕ) → ((core k : ℕ) → c ≡ call.Release core k → (l.locks k).holder ≡ Some core) → Turn (l.locks lock) got given → Turn ((entered l c).locks lock) (got ++ cores_for lock (acquire_of c)) (given ++ cores_for lock (release_of c))
turn_entered l c lock got given by_holder t = go c refl
  where
    unmoved : Turn (l.locks lock) (got ++ []) (given ++ [])
    unmoved = rw (append-nil got) (rw (append-nil given) t)

    go : (k : Call) → c ≡ k → Turn ((entered l k).locks lock) (got ++ cores_for lock (acquire_of k)) (given ++ cores_for lock (release_of k))
    go (call.Acquire core k) e =
        ⊎_elim
        (λ p. turn_like (p.1 ∙ ap (λ (j : ℕ). acquired_by (l.locks j).holder (l.locks j) core) (sym p.0)) (ap (λ (j : List ℕ). got ++ j) (cores_here lock k core p.0)) (append-nil given)
        (acquired_turn (l.locks lock).holder (l.locks lock) core got given refl t))
        (λ p. turn_like p.1 (ap (λ (j : List ℕ). got ++ j) (cores_there lock k core p.0) ∙ append-nil got) (append-nil given) t)
        (upd_cases l.locks k (acquired_by (l.locks k).holder (l.locks k) core) lock)
    go (call.Release core k) e =
        ⊎_elim
        (λ p. turn_like (p.1 ∙ ap (λ (j : ℕ). released_to (l.locks j).queue core) (sym p.0)) (append-nil got) (ap (λ (j : List ℕ). given ++ j) (cores_here lock k core p.0))
        (released_turn (l.locks lock).queue (l.locks lock) core got given refl (ap (λ (j : ℕ). (l.locks j).holder) p.0 ∙ by_holder core k e) t))
        (λ p. turn_like p.1 (append-nil got) (ap (λ (j : List ℕ). given ++ j) (cores_there lock k core p.0) ∙ append-nil given) t)
        (upd_cases l.locks k (released_to (l.locks k).queue core) lock)
    go (call.Phase plan) e = record { turns = unmoved.turns; nobody = t.nobody }
    go _ e = unmoved

pub turn : (b : Setting) (h : History) → Legal b h → (lock : ℕ) (first rest : History) → h ≡ first ++ rest → Turn ((ledger_of first).locks lock) (acquirers lock first) (releasers lock first)
turn b h ok lock first rest split = along h (λ p. Turn ((ledger_of p).locks lock) (acquirers lock p) (releasers lock p)) start keep first rest split
  where
    start : Turn ((ledger_of []).locks lock) [] []
    start = record { turns = refl; nobody = λ _. refl }

    keep : (before : History) (e : Event) (after : History) → h ≡ before ++ (e ∷ after) → Turn ((ledger_of before).locks lock) (acquirers lock before) (releasers lock before) → Turn ((ledger_of (before ++ (e ∷ []))).locks lock) (acquirers lock (before ++ (e ∷ []))) (releasers lock (before ++ (e ∷ [])))
    keep before e after at t =
        let a = ok.accepts before e after at in
        turn_like
        (ap (λ (l : Ledger). l.locks lock) (ledger_push before e a))
        (joined_push _ before e ∙ ap (λ (o : Option Asked). acquirers lock before ++ cores_for lock o) (of_unrefused acquire_of e a))
        (joined_push _ before e ∙ ap (λ (o : Option Asked). releasers lock before ++ cores_for lock o) (of_unrefused release_of e a))
        (turn_entered (ledger_of before) e.call lock (acquirers lock before) (releasers lock before)
        (λ core k c. holds_tells ((ledger_of before).locks k).holder core (release_passes b (ledger_of before) core k (sym (ap (refusal b (ledger_of before)) c) ∙ ok.passes before e after at)).1)
        t)
