-- What a core's own calls with the phase calls decide, in a history without a refusal: how often it released a lock, how many
-- stores it has made, and the plan in force. And the call at a place among them stands in the history. Assumes nothing.
use Rattle.std.proofs.Common.{◌≡◌, ℕ, ◌+◌, Bool, true, false, cond, eqb, List, [], ◌∷◌, ◌++◌, is_some, Some, None, fold, Option, sym, refl, ap, ◌∙◌, inl, inr, ⊎_elim, zero-add, arith}
use Rattle.std.specs.List.{flat_map}
use Rattle.std.proofs.lemmas.Bool.Decides.{nat_tests}
use Rattle.std.proofs.lemmas.Bool.{cond-true, cond-false, cases_Bool, or_parts}
use Rattle.call.specs.Calls.{caller_of}
use Rattle.call.specs.declared.call.Call.{Call}
use Rattle.call.specs.declared.call.Call.TheVariants as call
use Rattle.rules.specs.Histories.{refused_with, stored, store_of, Written, released, release_of, plan_of, Asked, cores_for, releasers, concerns, calls_of, Tracked, track_by, tracked, entered_by, ledger_of}
use Rattle.rules.specs.Runs.{Event, History}
use Rattle.rules.specs.State.{Ledger}
use Rattle.rules.specs.Steps.{entered}
use Rattle.rules.proofs.Holders.{times, times_append}
use Rattle.rules.proofs.Splits.{Spot, OneOrNone, source}
use Rattle.rules.proofs.Tables.{upd_cases}
use Rattle.rules.proofs.Walking.{of_unrefused, entered_accepted}

-- every call of the history was accepted
abbrev pub AllAccepted : History → Type 0
AllAccepted [] = Unit {0}
AllAccepted (e ∷ h) = (refused_with e.answer ≡ None) × AllAccepted h

pub all_accepted : (h : History) → ((before : History) (e : Event) (after : History) → h ≡ before ++ (e ∷ after) → refused_with e.answer ≡ None) → AllAccepted h
all_accepted [] ok = tt
all_accepted (e ∷ h) ok =
    (ok [] e h refl, all_accepted h (λ before x after s. ok (e ∷ before) x after (ap (λ (k : History). e ∷ k) s)))

pub accepted_front : (a b : History) → AllAccepted (a ++ b) → AllAccepted a
accepted_front [] b ok = tt
accepted_front (e ∷ a) b ok = (ok.0, accepted_front a b ok.1)

-- a call that does not concern a core is none of its calls, nor a phase call
apart : (c : ℕ) (k : Call) → concerns c k ≡ false → (is_some (plan_of k) ≡ false) × (eqb (caller_of k) c ≡ false)
apart c k n = or_parts (is_some (plan_of k)) (eqb (caller_of k) c) n

-- one event more in front
calls_step : (c : ℕ) (e : Event) (h : History) (t : Bool) → concerns c e.call ≡ t → calls_of c (e ∷ h) ≡ cond t (e.call ∷ []) [] ++ calls_of c h
calls_step c e h t q = ap (λ (b : Bool). cond b (e.call ∷ []) [] ++ calls_of c h) q

-- ── releases ──

abbrev pub own_releases : ℕ → ℕ → List Call → ℕ
own_releases c lock [] = 0
own_releases c lock (k ∷ ks) = times c (cores_for lock (release_of k)) + own_releases c lock ks

quiet_release : (c lock : ℕ) (k : Call) → eqb (caller_of k) c ≡ false → times c (cores_for lock (release_of k)) ≡ 0
quiet_release c lock (call.Release core j) n = go (eqb j lock)
  where
    go : (t : Bool) → times c (cond t (core ∷ []) []) ≡ 0
    go true = ap (λ (b : Bool). 0 + cond {A = ℕ} b 1 0) n
    go false = refl
quiet_release c lock _ n = refl

pub releases_own : (c lock : ℕ) (h : History) → AllAccepted h → times c (releasers lock h) ≡ own_releases c lock (calls_of c h)
releases_own c lock [] ok = refl
releases_own c lock (e ∷ h) ok = go (concerns c e.call) refl (releases_own c lock h ok.1)
  where
    split : times c (releasers lock (e ∷ h)) ≡ times c (cores_for lock (release_of e.call)) + times c (releasers lock h)
    split =
        times_append c (cores_for lock (released e)) (releasers lock h)
        ∙ ap (λ (o : Option Asked). times c (cores_for lock o) + times c (releasers lock h)) (of_unrefused release_of e ok.0)

    go : (t : Bool) → concerns c e.call ≡ t → times c (releasers lock h) ≡ own_releases c lock (calls_of c h) → times c (releasers lock (e ∷ h)) ≡ own_releases c lock (calls_of c (e ∷ h))
    go true q more = split ∙ (ap (λ (n : ℕ). times c (cores_for lock (release_of e.call)) + n) more ∙ ap (own_releases c lock) (sym (calls_step c e h true q)))
    go false q more =
        let none = quiet_release c lock e.call (apart c e.call q).1 in
        split ∙ ((λ i. none i + more i) ∙ (zero-add (own_releases c lock (calls_of c h)) ∙ ap (own_releases c lock) (sym (calls_step c e h false q))))

-- ── stores ──

abbrev by_core : ℕ → Option Written → ℕ
by_core c None = 0
by_core c (Some s) = cond {A = ℕ} (eqb s.core c) 1 0

abbrev pub own_stores : ℕ → List Call → ℕ
own_stores c [] = 0
own_stores c (k ∷ ks) = by_core c (store_of k) + own_stores c ks

quiet_store : (c : ℕ) (k : Call) → eqb (caller_of k) c ≡ false → by_core c (store_of k) ≡ 0
quiet_store c (call.Store core word value) n = ap (λ (b : Bool). cond {A = ℕ} b 1 0) n
quiet_store c _ n = refl

tracked_one : (w c : ℕ) (o : Option Written) (t : Tracked) → (track_by w o t).counts c ≡ t.counts c + by_core c o
tracked_one w c None t = omega arith
tracked_one w c (Some s) t =
    grind (arith, nat_tests, upd_cases t.counts s.core (t.counts s.core + 1) c)

stores_on : (w c : ℕ) (t : Tracked) (h : History) → AllAccepted h → (fold (λ k e. track_by w (stored e) k) t h).counts c ≡ t.counts c + own_stores c (calls_of c h)
stores_on w c t [] ok = omega arith
stores_on w c t (e ∷ h) ok = go (concerns c e.call) refl (stores_on w c (track_by w (stored e) t) h ok.1)
  where
    one : (track_by w (stored e) t).counts c ≡ t.counts c + by_core c (store_of e.call)
    one = tracked_one w c (stored e) t ∙ ap (λ (o : Option Written). t.counts c + by_core c o) (of_unrefused store_of e ok.0)

    go : (v : Bool) → concerns c e.call ≡ v → (fold (λ k e. track_by w (stored e) k) (track_by w (stored e) t) h).counts c ≡ (track_by w (stored e) t).counts c + own_stores c (calls_of c h) → (fold (λ k e. track_by w (stored e) k) t (e ∷ h)).counts c ≡ t.counts c + own_stores c (calls_of c (e ∷ h))
    go true q more = let calls = ap (own_stores c) (calls_step c e h true q) in grind (arith, one, more, calls)
    go false q more =
        let none = quiet_store c e.call (apart c e.call q).1 in
        let calls = ap (own_stores c) (calls_step c e h false q) in
        grind (arith, one, more, calls, none)

pub stores_own : (w c : ℕ) (h : History) → AllAccepted h → (tracked w h).counts c ≡ own_stores c (calls_of c h)
stores_own w c h ok = stores_on w c (record { counts = λ _. 0; last = None }) h ok ∙ zero-add (own_stores c (calls_of c h))

-- ── plans ──

abbrev pub plans_in : Option ℕ → List ℕ
plans_in None = []
plans_in (Some plan) = plan ∷ []

abbrev pub plans : List Call → List ℕ
plans ks = flat_map (λ k. plans_in (plan_of k)) ks

abbrev pub plans_of : History → List ℕ
plans_of h = flat_map (λ e. plans_in (plan_of e.call)) h

no_plan : (o : Option ℕ) → is_some o ≡ false → plans_in o ≡ []
no_plan o e = grind arith

pub plans_own : (c : ℕ) (h : History) → plans_of h ≡ plans (calls_of c h)
plans_own c [] = refl
plans_own c (e ∷ h) = go (concerns c e.call) refl (plans_own c h)
  where
    go : (t : Bool) → concerns c e.call ≡ t → plans_of h ≡ plans (calls_of c h) → plans_of (e ∷ h) ≡ plans (calls_of c (e ∷ h))
    go true q more = ap (λ (k : List ℕ). plans_in (plan_of e.call) ++ k) more ∙ ap plans (sym (calls_step c e h true q))
    go false q more =
        let none = no_plan (plan_of e.call) (apart c e.call q).0 in
        (λ i. none i ++ more i) ∙ ap plans (sym (calls_step c e h false q))

abbrev pub last_plan : ℕ → List ℕ → ℕ
last_plan plan [] = plan
last_plan plan (p ∷ ps) = last_plan p ps

plan_after : (l : Ledger) (k : Call) → (entered l k).plan ≡ last_plan l.plan (plans_in (plan_of k))
plan_after l (call.Phase plan) = refl
plan_after l _ = refl

last_append : (p : ℕ) (xs ys : List ℕ) → last_plan p (xs ++ ys) ≡ last_plan (last_plan p xs) ys
last_append p [] ys = refl
last_append p (x ∷ xs) ys = last_append x xs ys

plan_on : (l : Ledger) (h : History) → AllAccepted h → (fold entered_by l h).plan ≡ last_plan l.plan (plans_of h)
plan_on l [] ok = refl
plan_on l (e ∷ h) ok =
    let here = entered_accepted l e ok.0 in
    plan_on (entered_by l e) h ok.1
    ∙ (ap (λ (k : Ledger). last_plan k.plan (plans_of h)) here
    ∙ (ap (λ (p : ℕ). last_plan p (plans_of h)) (plan_after l e.call) ∙ sym (last_append l.plan (plans_in (plan_of e.call)) (plans_of h))))

pub plan_told : (h : History) → AllAccepted h → (ledger_of h).plan ≡ last_plan 0 (plans_of h)
plan_told h ok = plan_on (ledger_of []) h ok

-- ── the call at a place among a core's calls ──

pub record Found (c : ℕ) (k : Call) (mine : List Call) (h : History) : Type 0 where
  pub spot : Spot h
  pub place : calls_of c spot.before ≡ mine
  pub call : spot.event.call ≡ k

one_call : (c : ℕ) → OneOrNone (λ (e : Event). cond (concerns c e.call) (e.call ∷ []) [])
one_call c e = ⊎_elim (λ t. inr (e.call, cond-true _ _ _ t)) (λ t. inl (cond-false _ _ _ t)) (cases_Bool (concerns c e.call))

pub found : (c : ℕ) (h : History) (mine : List Call) (k : Call) (rest : List Call) → calls_of c h ≡ mine ++ (k ∷ rest) → Found c k mine h
found c h mine k rest e =
    let s = source (λ (e : Event). cond (concerns c e.call) (e.call ∷ []) []) (one_call c) h mine k rest e in
    record { spot = s.spot; place = s.same; call = let one = s.gives in grind arith }
