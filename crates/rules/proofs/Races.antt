-- The race that refusal 6 names, found in the history: the ledger's accesses are those of the events of this phase, in order,
-- and the first of them that passes a test stands in the history. Assumes nothing.
use Rattle.std.proofs.Common.{◌≡◌, ℕ, Bool, true, false, cond, not, ◌&&◌, ◌||◌, eqb, leb, ◌⊎◌, List, [], ◌∷◌, ◌++◌, Some, None, Option, sym, refl, ap, ◌∙◌, subst, inl, inr, arith}
use Rattle.std.proofs.lemmas.List.Sums.{fold_push}
use Rattle.std.proofs.lemmas.Option.{none-some}
use Rattle.std.specs.List.{flat_map}
use Rattle.std.proofs.lemmas.List.{append-nil}
use Rattle.std.proofs.Math.Bool.{or-false}
use Rattle.std.proofs.lemmas.Bool.{eqb-true, eqb-false, and_parts, cond-true, cond-false, not-true, both_ways}
use Rattle.call.specs.declared.call.Call.{Call}
use Rattle.call.specs.declared.call.Call.TheVariants as call
use Rattle.call.specs.declared.refusal.Access.{Access}
use Rattle.call.specs.declared.refusal.Access.TheVariants.{Load, Store}
use Rattle.call.specs.declared.refusal.Refusal.{Refusal}
use Rattle.call.specs.declared.refusal.Refusal.TheVariants.{NoCore, OutsideBoard, Waiting, ReadOnly, NotHolder, Race, AllowanceSpent, NoLock, HoldsLock, NotHeld, BadMode, LockHeld}
use Rattle.rules.specs.Histories.{accepted, refused_with, begins, plan_of, touches, accessed, phase_by, this_phase, passes, other_access, entered_by, ledger_of}
use Rattle.rules.specs.Laws.{RacesNamed}
use Rattle.rules.specs.Plans.{Mode, read_only, written, locked, is_read_only, has_bad_mode}
use Rattle.rules.specs.Refusals.{same_access, by_another, earliest, as_race, load_race, store_race, refusal, mode, waits, holds, holds_some, some_held, shut_out}
use Rattle.rules.specs.Runs.{Event, History, Ran}
use Rattle.rules.specs.State.{Accessed, Ledger, Setting, setting}
use Rattle.rules.specs.Steps.{entered}
use Rattle.rules.specs.Tables.{first, when, some_of}
use Rattle.rules.proofs.Accesses.{some_of_append}
use Rattle.rules.proofs.Fresh.{refusals_told}
use Rattle.rules.proofs.Splits.{along, joined_push, OneOrNone, Source, source}

-- ── this phase's accesses ──

abbrev listed : Option Accessed → List Accessed
listed None = []
listed (Some a) = a ∷ []

-- the accesses of some events
abbrev gathered : History → List Accessed
gathered h = flat_map (λ e. listed (accessed e)) h

entered_accesses : (l : Ledger) (c : Call) (phase : History) (e : Event) → e.call ≡ c → accepted e ≡ true → l.accesses ≡ gathered phase → (entered l c).accesses ≡ gathered (phase_by (begins e) phase e)
entered_accesses l c phase e is ok same = go c is
  where
    begins_is : (k : Call) → e.call ≡ k → begins e ≡ plan_of k
    begins_is k p = cond-true (accepted e) (plan_of e.call) None ok ∙ ap plan_of p

    accessed_is : (k : Call) → e.call ≡ k → accessed e ≡ touches k
    accessed_is k p = cond-true (accepted e) (touches e.call) None ok ∙ ap touches p

    stays : (k : Call) → e.call ≡ k → plan_of k ≡ None → gathered (phase_by (begins e) phase e) ≡ l.accesses ++ listed (touches k)
    stays k p none =
        ap (λ (o : Option ℕ). gathered (phase_by o phase e)) (begins_is k p ∙ none)
        ∙ (joined_push _ phase e ∙ (λ i. sym same i ++ listed (accessed_is k p i)))

    go : (k : Call) → e.call ≡ k → (entered l k).accesses ≡ gathered (phase_by (begins e) phase e)
    go (call.Load core word) p = sym (stays (call.Load core word) p refl)
    go (call.Store core word value) p = sym (stays (call.Store core word value) p refl)
    go (call.Phase plan) p = sym (ap (λ (o : Option ℕ). gathered (phase_by o phase e)) (begins_is (call.Phase plan) p))
    go c p = sym (stays c p refl ∙ append-nil l.accesses)

pub accesses_told : (h : History) → (ledger_of h).accesses ≡ gathered (this_phase h)
accesses_told h = along h (λ k. (ledger_of k).accesses ≡ gathered (this_phase k)) refl keep h [] (sym (append-nil h))
  where
    keep : (before : History) (e : Event) (after : History) → h ≡ before ++ (e ∷ after) → (ledger_of before).accesses ≡ gathered (this_phase before) → (ledger_of (before ++ (e ∷ []))).accesses ≡ gathered (this_phase (before ++ (e ∷ [])))
    keep before e after split same =
        ap (λ (l : Ledger). l.accesses) (fold_push entered_by _ before e)
        ∙ (go (accepted e) refl ∙ ap gathered (sym (fold_push _ _ before e)))
      where
        go : (t : Bool) → accepted e ≡ t → (cond t (entered (ledger_of before) e.call) (ledger_of before)).accesses ≡ gathered (phase_by (begins e) (this_phase before) e)
        go true ok = entered_accesses (ledger_of before) e.call (this_phase before) e refl ok same
        go false no_Ok =
            let b : begins e ≡ None = cond-false (accepted e) (plan_of e.call) None no_Ok in
            let a : accessed e ≡ None = cond-false (accepted e) (touches e.call) None no_Ok in
            same
            ∙ sym (ap (λ (o : Option ℕ). gathered (phase_by o (this_phase before) e)) b
            ∙ (joined_push _ (this_phase before) e
            ∙ (ap (λ (o : Option Accessed). gathered (this_phase before) ++ listed o) a ∙ append-nil (gathered (this_phase before)))))

-- ── the first access that passes a test, in the list and in the history ──

record FirstAccess (access : Access) (core word named : ℕ) (all : List Accessed) : Type 0 where
  front : List Accessed
  back : List Accessed
  stands : all ≡ front ++ (record { core = named; word = word; access = access } ∷ back)
  apart : named ≡ core → ⊥
  none : some_of (by_another access core word) front ≡ false

same_access_tells : (a b : Access) → same_access a b ≡ true → a ≡ b
same_access_tells Load _ e = grind arith
same_access_tells Store _ e = grind arith

first_access : (access : Access) (core word named : ℕ) (all : List Accessed) → earliest access core word all ≡ Some named → FirstAccess access core word named all
first_access access core word named [] e = grind arith
first_access access core word named (a ∷ more) e = go (by_another access core word a) refl e (λ k. first_access access core word named more k)
  where
    go : (t : Bool) → by_another access core word a ≡ t → cond t (Some a.core) (earliest access core word more) ≡ Some named → (earliest access core word more ≡ Some named → FirstAccess access core word named more) → FirstAccess access core word named (a ∷ more)
    go true t k later =
        let who : a.core ≡ named = cc in
        let parts = and_parts (same_access a.access access) (eqb a.word word && not (eqb a.core core)) t in
        let inner = and_parts (eqb a.word word) (not (eqb a.core core)) parts.1 in
        let kind = same_access_tells a.access access parts.0 in
        let here = eqb-true a.word word inner.0 in
        let far = eqb-false a.core core (not-true (eqb a.core core) inner.1) in
        record { front = []; back = more; stands = (λ i. record { core = who i; word = here i; access = kind i } ∷ more); apart = λ p. far (who ∙ p); none = refl }
    go false t k later =
        let r = later k in
        record { front = a ∷ r.front; back = r.back; stands = ap (λ (x : List Accessed). a ∷ x) r.stands; apart = r.apart; none = ap (λ (b : Bool). b || some_of (by_another access core word) r.front) t ∙ r.none }

-- the event of an access in the history
one_access : OneOrNone (λ (e : Event). listed (accessed e))
one_access e = go (accessed e)
  where
    go : (o : Option Accessed) → (listed o ≡ []) ⊎ ((a : Accessed) × (listed o ≡ a ∷ []))
    go None = inl refl
    go (Some a) = inr (a, refl)

listed_tells : (o : Option Accessed) (a : Accessed) → listed o ≡ a ∷ [] → o ≡ Some a
listed_tells o a e = grind arith

-- a test of the accesses is one of their events
some_gathered : (access : Access) (core word : ℕ) (h : History) → some_of (by_another access core word) (gathered h) ≡ some_of (other_access access core word) h
some_gathered access core word [] = refl
some_gathered access core word (e ∷ h) =
    some_of_append (by_another access core word) (listed (accessed e)) (gathered h)
    ∙ (λ i. one (accessed e) i || some_gathered access core word h i)
  where
    one : (o : Option Accessed) → some_of (by_another access core word) (listed o) ≡ passes (by_another access core word) o
    one None = refl
    one (Some a) = or-false (by_another access core word a)

none_found : (access : Access) (core word : ℕ) (all : List Accessed) → earliest access core word all ≡ None → some_of (by_another access core word) all ≡ false
none_found access core word [] e = refl
none_found access core word (a ∷ more) e = grind (arith, none_found access core word more)

-- ── the row that names the race ──

-- what the race row found
record FoundRace (accesses : List Accessed) (c : Call) (named : ℕ) (kind : Access) : Type 0 where
  caller : Accessed
  calls : touches c ≡ Some caller
  found : earliest kind caller.core caller.word accesses ≡ Some named
  loads_last : kind ≡ Load → (caller.access ≡ Store) × (earliest Store caller.core caller.word accesses ≡ None)

-- rows that are met by a test each, before the rest; and whether none of them names a race
abbrev tested : List (Bool × Refusal) → List (Option Refusal) → List (Option Refusal)
tested [] rest = rest
tested (p ∷ ps) rest = when p.0 p.1 ∷ tested ps rest

abbrev is_race : Refusal → Bool
is_race (Race named kind) = true
is_race _ = false

abbrev raceless : List (Bool × Refusal) → Bool
raceless [] = true
raceless (p ∷ ps) = not (is_race p.1) && raceless ps

-- a race that comes first stands behind the rows that name none
past : (ps : List (Bool × Refusal)) (rest : List (Option Refusal)) (named : ℕ) (kind : Access) → raceless ps ≡ true → first (tested ps rest) ≡ Some (Race named kind) → first rest ≡ Some (Race named kind)
past [] rest named kind r e = e
past ((false, x) ∷ ps) rest named kind r e = past ps rest named kind (and_parts (not (is_race x)) (raceless ps) r).1 e
past ((true, x) ∷ ps) rest named kind r e =
    let same : x ≡ Race named kind = cc in
    absurd (both_ways (is_race x) (not-true (is_race x) (and_parts (not (is_race x)) (raceless ps) r).0) (ap is_race same))

alone : (o : Option Refusal) (y : Refusal) → first (o ∷ []) ≡ Some y → o ≡ Some y
alone o y e = grind arith

only : (o : Option Refusal) (t : Bool) (y x : Refusal) → (y ≡ x → ⊥) → first (o ∷ when t x ∷ []) ≡ Some y → o ≡ Some y
only o t y x n e = grind arith

race_tells : (access : Access) (o : Option ℕ) (named : ℕ) (kind : Access) → as_race access o ≡ Some (Race named kind) → (o ≡ Some named) × (access ≡ kind)
race_tells access None named kind e = grind arith
race_tells access (Some c) named kind e = (cc, cc)

load_found : (m : Mode) (accesses : List Accessed) (core word named : ℕ) (kind : Access) → load_race m accesses core word ≡ Some (Race named kind) → FoundRace accesses (call.Load core word) named kind
load_found written accesses core word named kind e =
    let t = race_tells Store (earliest Store core word accesses) named kind e in
    record {
      caller = record { core = core; word = word; access = Load };
      calls = refl;
      found = subst (λ (k : Access). earliest k core word accesses ≡ Some named) t.1 t.0;
      loads_last = λ l. absurd (cc (t.1 ∙ l));
    }
load_found _ accesses core word named kind e = grind arith

store_found : (m : Mode) (accesses : List Accessed) (core word value named : ℕ) (kind : Access) → store_race m accesses core word ≡ Some (Race named kind) → FoundRace accesses (call.Store core word value) named kind
store_found read_only accesses core word value named kind e = grind arith
store_found (locked lock) accesses core word value named kind e = grind arith
store_found written accesses core word value named kind e = go (earliest Store core word accesses) refl e
  where
    go : (o : Option ℕ) → earliest Store core word accesses ≡ o → first (as_race Store o ∷ as_race Load (earliest Load core word accesses) ∷ []) ≡ Some (Race named kind) → FoundRace accesses (call.Store core word value) named kind
    go (Some d) s k =
        let who : d ≡ named = cc in
        let what : Store ≡ kind = cc in
        record {
          caller = record { core = core; word = word; access = Store };
          calls = refl;
          found = subst (λ (x : Access). earliest x core word accesses ≡ Some named) what (s ∙ ap (λ (x : ℕ). Some x) who);
          loads_last = λ l. absurd (cc (what ∙ l));
        }
    go None s k =
        let t = race_tells Load (earliest Load core word accesses) named kind (alone (as_race Load (earliest Load core word accesses)) (Race named kind) k) in
        record {
          caller = record { core = core; word = word; access = Store };
          calls = refl;
          found = subst (λ (x : Access). earliest x core word accesses ≡ Some named) t.1 t.0;
          loads_last = λ _. (refl, s);
        }

found_race : (b : Setting) (l : Ledger) (c : Call) (named : ℕ) (kind : Access) → refusal b l c ≡ Some (Race named kind) → FoundRace l.accesses c named kind
found_race b l (call.Load core word) named kind e =
    load_found (mode b l word) l.accesses core word named kind
    (alone _ _ (past ((leb b.figures.cores core, NoCore) ∷ (leb b.size word, OutsideBoard) ∷ (waits l.locks core, Waiting) ∷ (shut_out l.locks (mode b l word) core, NotHolder) ∷ []) (load_race (mode b l word) l.accesses core word ∷ []) named kind refl e))
found_race b l (call.Store core word value) named kind e =
    store_found (mode b l word) l.accesses core word value named kind
    (only _ (leb b.figures.allowance (l.counts core)) _ AllowanceSpent (λ x. grind arith)
    (past ((leb b.figures.cores core, NoCore) ∷ (leb b.size word, OutsideBoard) ∷ (waits l.locks core, Waiting) ∷ (is_read_only (mode b l word), ReadOnly) ∷ (shut_out l.locks (mode b l word) core, NotHolder) ∷ []) (store_race (mode b l word) l.accesses core word ∷ when (leb b.figures.allowance (l.counts core)) AllowanceSpent ∷ []) named kind refl e))
found_race b l (call.Evict core word) named kind e =
    absurd (none-some _ (past ((leb b.figures.cores core, NoCore) ∷ (leb b.size word, OutsideBoard) ∷ []) [] named kind refl e))
found_race b l (call.Acquire core lock) named kind e =
    absurd (none-some _ (past ((leb b.figures.cores core, NoCore) ∷ (waits l.locks core, Waiting) ∷ (leb 8 lock, NoLock) ∷ (holds_some l.locks core, HoldsLock) ∷ []) [] named kind refl e))
found_race b l (call.Release core lock) named kind e =
    absurd (none-some _ (past ((leb b.figures.cores core, NoCore) ∷ (waits l.locks core, Waiting) ∷ (leb 8 lock, NoLock) ∷ (not (holds l.locks core lock), NotHeld) ∷ []) [] named kind refl e))
found_race b l (call.Phase plan) named kind e =
    absurd (none-some _ (past ((has_bad_mode plan, BadMode) ∷ (some_held l.locks, LockHeld) ∷ []) [] named kind refl e))
found_race b l call.Settle named kind e = grind arith

-- ── the law ──

pub races_named : (r : Ran) → RacesNamed r
races_named r before e after named kind split refused =
    record {
      caller = f.caller;
      calls = f.calls;
      other = a.apart;
      earlier = v.spot.before;
      event = v.spot.event;
      later = v.spot.after;
      stands = v.spot.stands;
      names = listed_tells (accessed v.spot.event) _ v.gives;
      earliest = sym (some_gathered kind f.caller.core f.caller.word v.spot.before) ∙ (ap (some_of (by_another kind f.caller.core f.caller.word)) v.same ∙ a.none);
      loads_last = λ l. let p = f.loads_last l in (p.0, sym (some_gathered Store f.caller.core f.caller.word (this_phase before)) ∙ (ap (some_of (by_another Store f.caller.core f.caller.word)) (sym (accesses_told before)) ∙ none_found Store f.caller.core f.caller.word (ledger_of before).accesses p.1));
    }
  where
    f : FoundRace (ledger_of before).accesses e.call named kind
    f = found_race (setting r.figures r.page) (ledger_of before) e.call named kind (sym (refusals_told r before e after split) ∙ ap refused_with refused)

    a : FirstAccess kind f.caller.core f.caller.word named (ledger_of before).accesses
    a = first_access kind f.caller.core f.caller.word named (ledger_of before).accesses f.found

    v : Source (λ (e : Event). listed (accessed e)) a.front (record { core = named; word = f.caller.word; access = kind }) (this_phase before)
    v = source (λ (e : Event). listed (accessed e)) one_access (this_phase before) a.front (record { core = named; word = f.caller.word; access = kind }) a.back (sym (accesses_told before) ∙ a.stands)
