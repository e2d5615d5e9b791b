-- Along a run the invariant holds at every moment, the ledger is the one that the history tells, and the words that the
-- invariant speaks of are the history's: the last store to each place, or the opening word. One walk from the opening to
-- any moment serves all laws. Assumes nothing.
use Rattle.std.proofs.Common.{◌≡◌, ℕ, ◌+◌, ◌<◌, ◌≤◌, Bool, true, false, cond, not, eqb, [], ◌∷◌, ◌++◌, is_some, Some, None, Option, sym, refl, ap, ◌∙◌, subst, ⊎_elim, append_assoc, arith, Err, Result, Ok}
use Rattle.std.proofs.lemmas.List.Sums.{fold_push}
use Rattle.std.proofs.lemmas.Option.{same_Some}
use Rattle.std.proofs.lemmas.List.{append-nil}
use Rattle.std.proofs.lemmas.Bool.{eqb-true, eqb-false, cond-true}
use Rattle.call.specs.declared.answer.Answer.{Answer}
use Rattle.call.specs.declared.call.Call.{Call}
use Rattle.call.specs.declared.call.Call.TheVariants as call
use Rattle.call.specs.declared.refusal.Refusal.{Refusal}
use Rattle.sets.specs.Sentences.{Sets}
use Rattle.word.specs.Lawful.{Stores, mark_of}
use Rattle.word.specs.Marks.{number}
use Rattle.word.specs.declared.word.Word.{Word}
use Rattle.word.proofs.Marks.{stores_lawful, number_mark_at}
use Rattle.rules.specs.Histories.{accepted, refused_with, of_accepted, store_of, stored, Written, ToldStore, Tracked, track_by, tracked, last_store, Fresh, entered_by, ledger_of}
use Rattle.rules.specs.Refusals.{refusal}
use Rattle.rules.specs.Runs.{Event, History, Chain}
use Rattle.rules.specs.State.{Ledger, State, Setting}
use Rattle.rules.specs.Steps.{step, outcome, answered, entered, changes, Changes, next_mark}
use Rattle.rules.specs.Tables.{upd}
use Rattle.rules.proofs.Guards.{guarded_grows, same_grows}
use Rattle.rules.proofs.Invariant.{Fits, Good, now_after, after, accepted_good}
use Rattle.rules.proofs.Tables.{upd_cases}
use Rattle.rules.proofs.Unrefused.{store_passes}

-- what an event tells of its projections
pub of_refused : {X : Type 0} (project : Call → Option X) (e : Event) (r : Refusal) → e.answer ≡ Err r → of_accepted project e ≡ None
of_refused project e r h = ap (λ (a : Result Answer Refusal). of_accepted project (record { call = e.call; answer = a })) h

pub of_unrefused : {X : Type 0} (project : Call → Option X) (e : Event) → refused_with e.answer ≡ None → of_accepted project e ≡ project e.call
of_unrefused project e h = cond-true (accepted e) (project e.call) None (ap (λ (o : Option Refusal). not (is_some o)) h)

-- the ledger after an accepted event
pub entered_accepted : (l : Ledger) (e : Event) → refused_with e.answer ≡ None → entered_by l e ≡ entered l e.call
entered_accepted l e a =
    cond-true (accepted e) (entered l e.call) l (ap (λ (o : Option Refusal). not (is_some o)) a)

pub ledger_push : (before : History) (e : Event) → refused_with e.answer ≡ None → ledger_of (before ++ (e ∷ [])) ≡ entered (ledger_of before) e.call
ledger_push before e a = fold_push entered_by _ before e ∙ entered_accepted (ledger_of before) e a

-- what the history tells of the ledger and of the words
pub record Told (b : Setting) (old now : ℕ → Word) (l : Ledger) (h : History) : Type 0 where
  pub ledger : l ≡ ledger_of h
  pub counts : (w c : ℕ) → (tracked w h).counts c ≡ l.counts c
  pub fresh : (w : ℕ) → w < b.size → Fresh (last_store w h) (old w) (now w)
  pub lawful : (w : ℕ) (s : ToldStore) → last_store w h ≡ Some s → Stores s.core s.count × (s.count ≤ l.counts s.core)

module _ (b : Setting) (fits : Fits b) (old : ℕ → Word) where
  -- ── one step ──

  -- all that is known at a moment
  pub record Moment (h : History) (s : State) (g : Sets) : Type 0 where
    pub now : ℕ → Word
    pub good : Good b now s g
    pub told : Told b old now s.ledger h

  module _ (h : History) (s : State) (g g' : Sets) (m : Moment h s g) (e : Event) where
    abbrev now : ℕ → Word
    now = m.now

    abbrev l : Ledger
    l = s.ledger

    -- an event that is no accepted store moves no word
    quiet_told : (k : Ledger) → stored e ≡ None → k ≡ ledger_of (h ++ (e ∷ [])) → ((c : ℕ) → l.counts c ≡ k.counts c) → Told b old now k (h ++ (e ∷ []))
    quiet_told k none ledger kept =
        record {
          ledger = ledger;
          counts = λ w c. ap (λ (t : Tracked). t.counts c) (unmoved w) ∙ (m.told.counts w c ∙ kept c);
          fresh = λ w p. subst (λ (t : Tracked). Fresh t.last (old w) (now w)) (sym (unmoved w)) (m.told.fresh w p);
          lawful = λ w t p. let old_one = m.told.lawful w t (ap (λ (k : Tracked). k.last) (sym (unmoved w)) ∙ p) in (old_one.0, rw (sym (kept t.core)) old_one.1);
        }
      where
        unmoved : (w : ℕ) → tracked w (h ++ (e ∷ [])) ≡ tracked w h
        unmoved w = fold_push _ _ h e ∙ ap (λ (o : Option Written). track_by w o (tracked w h)) none

    refused_moment : (r : Refusal) → e.answer ≡ Err r → ((c w : ℕ) → g' c w ≡ g c w) → Moment (h ++ (e ∷ [])) s g'
    refused_moment r a same =
        record {
          now = now;
          good =
              record {
                sound = m.good.sound;
                phased =
                    record {
                      still = m.good.phased.still;
                      covered = λ w d lock p q. guarded_grows (l.locks lock) g g' w (same_grows g g' same) (m.good.phased.covered w d lock p q);
                      cores = m.good.phased.cores;
                    };
                long = m.good.long;
              };
          told = quiet_told l (of_refused store_of e r a) (m.told.ledger ∙ sym (fold_push entered_by _ h e ∙ ap (λ (x : Result Answer Refusal). entered_by (ledger_of h) (record { call = e.call; answer = x })) a)) (λ c. refl);
        }

    -- the ledger after an accepted call is the history's
    entered_told : refused_with e.answer ≡ None → entered l e.call ≡ ledger_of (h ++ (e ∷ []))
    entered_told a =
        ap (λ (k : Ledger). entered k e.call) m.told.ledger ∙ sym (ledger_push h e a)

    -- an accepted call that is no store moves no word
    plain_told : store_of e.call ≡ None → refused_with e.answer ≡ None → Told b old now (entered l e.call) (h ++ (e ∷ []))
    plain_told none a =
        quiet_told (entered l e.call) (of_unrefused store_of e a ∙ none) (entered_told a) (counts_kept e.call none)
      where
        counts_kept : (c : Call) → store_of c ≡ None → (k : ℕ) → l.counts k ≡ (entered l c).counts k
        counts_kept (call.Store core word value) p k = absurd cc
        counts_kept _ p k = refl

    -- an accepted store is now the last to its word
    store_told : (core word value : ℕ) → e.call ≡ call.Store core word value → refused_with e.answer ≡ None → core < 8 → l.counts core < 1000000 → Told b old (upd now word (record { value = value; mark = next_mark l core })) (entered l (call.Store core word value)) (h ++ (e ∷ []))
    store_told core word value is_IsStore a in_cores unspent =
        record {
          ledger = subst (λ (c : Call). entered l c ≡ ledger_of (h ++ (e ∷ []))) is_IsStore (entered_told a);
          counts = λ w c. ap (λ (t : Tracked). t.counts c) (moved w) ∙ counts_moved w c;
          fresh = λ w p. subst (λ (t : Tracked). Fresh t.last (old w) (upd now word new w)) (sym (moved w)) (fresh_moved w p);
          lawful = λ w t p. lawful_moved w t (ap (λ (k : Tracked). k.last) (sym (moved w)) ∙ p);
        }
      where
        new : Word
        new = record { value = value; mark = next_mark l core }

        told : ℕ → Option ToldStore
        told w = Some (record { core = core; count = (tracked w h).counts core + 1; value = value })

        moved : (w : ℕ) → tracked w (h ++ (e ∷ [])) ≡ track_by w (Some (record { core = core; word = word; value = value })) (tracked w h)
        moved w =
            fold_push _ _ h e
            ∙ ap (λ (o : Option Written). track_by w o (tracked w h)) (of_unrefused store_of e a ∙ ap store_of is_IsStore)

        counts_moved : (w c : ℕ) → upd (tracked w h).counts core ((tracked w h).counts core + 1) c ≡ upd l.counts core (l.counts core + 1) c
        counts_moved w c =
            grind (arith, upd_cases (tracked w h).counts core ((tracked w h).counts core + 1) c, upd_cases l.counts core (l.counts core + 1) c, m.told.counts w c, m.told.counts w core)

        lawful_moved : (w : ℕ) (t : ToldStore) → cond (eqb word w) (told w) (last_store w h) ≡ Some t → Stores t.core t.count × (t.count ≤ upd l.counts core (l.counts core + 1) t.core)
        lawful_moved w t p = go (eqb word w) p
          where
            alike : (tracked w h).counts core ≡ l.counts core
            alike = m.told.counts w core

            go : (v : Bool) → cond v (told w) (last_store w h) ≡ Some t → Stores t.core t.count × (t.count ≤ upd l.counts core (l.counts core + 1) t.core)
            go true q =
                let same = same_Some _ t q in
                let who : core ≡ t.core = ap (λ (k : ToldStore). k.core) same in
                let many : (tracked w h).counts core + 1 ≡ t.count = ap (λ (k : ToldStore). k.count) same in
                ((omega arith, omega arith, omega arith), grind (arith, upd_cases l.counts core (l.counts core + 1) t.core, who, many, alike))
            go false q =
                let old_one = m.told.lawful w t q in
                let few = old_one.1 in
                (old_one.0, grind (arith, upd_cases l.counts core (l.counts core + 1) t.core, few))

        fresh_moved : (w : ℕ) → w < b.size → Fresh (cond (eqb word w) (told w) (last_store w h)) (old w) (upd now word new w)
        fresh_moved w p = go (eqb word w) refl
          where
            counted_alike : (tracked w h).counts core + 1 ≡ l.counts core + 1
            counted_alike = ap (λ (k : ℕ). k + 1) (m.told.counts w core)

            mark_is : number (next_mark l core) ≡ mark_of core ((tracked w h).counts core + 1)
            mark_is =
                number_mark_at (mark_of core (l.counts core + 1)) (stores_lawful core (l.counts core + 1) (in_cores, omega arith, omega arith))
                ∙ ap (mark_of core) (sym counted_alike)

            go : (t : Bool) → eqb word w ≡ t → Fresh (cond t (told w) (last_store w h)) (old w) (upd now word new w)
            go true q =
                let here : upd now word new w ≡ new = ⊎_elim (λ r. r.1) (λ r. absurd (r.0 (sym (eqb-true word w q)))) (upd_cases now word new w) in
                subst (λ (x : Word). (x.value ≡ value) × (number x.mark ≡ mark_of core ((tracked w h).counts core + 1))) (sym here) (refl, mark_is)
            go false q =
                let there : upd now word new w ≡ now w = ⊎_elim (λ r. absurd (eqb-false word w q (sym r.0))) (λ r. r.1) (upd_cases now word new w) in
                subst (λ (x : Word). Fresh (last_store w h) (old w) x) (sym there) (m.told.fresh w p)

    accepted_moment : refusal b l e.call ≡ None → e.answer ≡ Ok (answered b g s e.call).answer → Changes (changes b.figures l e.call) g g' → Moment (h ++ (e ∷ [])) (after b g s e.call) g'
    accepted_moment open_to a ch =
        record {
          now = now_after l now e.call;
          good = accepted_good b fits now s g g' m.good e.call open_to ch;
          told = go e.call refl open_to;
        }
      where
        unrefused : refused_with e.answer ≡ None
        unrefused = ap refused_with a

        plain : (c : Call) → e.call ≡ c → store_of c ≡ None → Told b old now (entered l c) (h ++ (e ∷ []))
        plain c q none = subst (λ (k : Call). Told b old now (entered l k) (h ++ (e ∷ []))) q (plain_told (ap store_of q ∙ none) unrefused)

        go : (c : Call) → e.call ≡ c → refusal b l c ≡ None → Told b old (now_after l now c) (entered l c) (h ++ (e ∷ []))
        go (call.Store core word value) q r =
            let p = store_passes b l core word value r in
            let few = fits.cores in
            let allowed = fits.allowance in
            let below = p.in_cores in
            let spent = p.unspent in
            store_told core word value q unrefused (omega arith) (omega arith)
        go c q r = plain c q refl

    -- one call, accepted or refused
    pub next_moment : e.answer ≡ (step b g s e.call).answer → Changes (step b g s e.call).changes g g' → Moment (h ++ (e ∷ [])) (step b g s e.call).state g'
    next_moment a ch = go (refusal b l e.call) refl a ch
      where
        go : (o : Option Refusal) → refusal b l e.call ≡ o → e.answer ≡ (outcome o b g s e.call).answer → Changes (outcome o b g s e.call).changes g g' → Moment (h ++ (e ∷ [])) (outcome o b g s e.call).state g'
        go (Some r) q x same = refused_moment r x same
        go None q x c = accepted_moment q x c

  -- ── from one moment to another ──

  -- a moment after some calls of a run, and the rest of the run from there
  pub record Reached (h : History) (rest : History) (t : State) : Type 0 where
    pub state : State
    pub sets : Sets
    pub moment : Moment h state sets
    pub chain : Chain b state sets rest t

  pub walk : (h : History) (s : State) (g : Sets) (first rest : History) (t : State) → Moment h s g → Chain b s g (first ++ rest) t → Reached (h ++ first) rest t
  walk h s g [] rest t m chain =
      subst (λ (k : History). Reached k rest t) (sym (append-nil h)) (record { state = s; sets = g; moment = m; chain = chain })
  walk h s g (e ∷ first) rest t m (a, (g', ch, chain)) =
      subst (λ (k : History). Reached k rest t) (append_assoc h (e ∷ []) first)
      (walk (h ++ (e ∷ [])) (step b g s e.call).state g' first rest t (next_moment h s g g' m e a ch) chain)
