-- In two runs with the same order, a store of a word that comes before an access of it in one comes before it in the other.
-- Else, of one core, its own calls would disagree; and of two cores, both accesses would lie in one phase under one plan:
-- where a read_only strip refuses the store, in a written strip the first run shows a race, and in a locked strip the same
-- cores have released the lock before both, so that both are by the one holder. Assumes nothing.
use Rattle.std.proofs.Common.{◌≡◌, ℕ, ◌+◌, ◌/◌, ◌^◌, ◌<◌, ◌≤◌, Bool, true, false, cond, List, [], ◌∷◌, ◌++◌, length, Some, None, fold, Option, sym, refl, ap, ◌∙◌, subst, ⊎_elim, append_assoc, mod-lt, arith, lit<, length-append}
use Rattle.std.proofs.lemmas.List.Sums.{fold-append}
use Rattle.std.proofs.lemmas.List.Concat.{flat_map-append}
use Rattle.std.proofs.lemmas.Option.{same_Some}
use Rattle.std.proofs.lemmas.List.{append-nil, append_cancel_left, nil_from_length}
use Rattle.std.proofs.lemmas.Bool.{eq-eqb, cases_eq, both_ways}
use Rattle.call.specs.Figures.{Five, strip_of}
use Rattle.call.specs.declared.call.Call.{Call}
use Rattle.call.specs.declared.call.Call.TheVariants as call
use Rattle.call.specs.declared.refusal.Access.TheVariants.{Store}
use Rattle.rules.specs.Histories.{accepted, refused_with, store_of, Written, Wanted, plan_of, acquirers, releasers, concerns, calls_of, entered_by, ledger_of}
use Rattle.rules.specs.Laws.{SameOrder}
use Rattle.rules.specs.Plans.{Mode, read_only, written, locked, bits_of, mode_of_bits, mode_of, is_read_only}
use Rattle.rules.specs.Refusals.{refusal, load_race, store_race, earliest}
use Rattle.rules.specs.Runs.{Event, History, Ran}
use Rattle.rules.specs.State.{Ledger, Setting, setting}
use Rattle.rules.specs.Steps.{entered}
use Rattle.rules.proofs.Accesses.{first_none, no_race, only_own, stored_in, stored_after_load, stored_before, stored_now}
use Rattle.rules.proofs.Holders.{same_beginning, holders_begin}
use Rattle.rules.proofs.Invariant.{not_shut_out}
use Rattle.rules.proofs.Own.{AllAccepted, all_accepted, accepted_front, own_releases, releases_own, plans, plans_in, plans_of, plans_own, last_plan, plan_told}
use Rattle.rules.proofs.Splits.{Spot, Placed, earlier, same, later, two_splits}
use Rattle.rules.proofs.Turns.{Legal, legal, turn, line}
use Rattle.rules.proofs.Unrefused.{load_passes, store_passes}
use Rattle.rules.proofs.Walking.{entered_accepted}

-- ── accesses ──

-- a core and the word that it loads or stores
abbrev pub access_of : Call → Option Wanted
access_of (call.Load core word) = Some (record { core = core; word = word })
access_of (call.Store core word value) = Some (record { core = core; word = word })
access_of _ = None

-- what an accepted access tells: in a locked strip the core holds the lock, in a written strip no other core has stored the word
record Accesses (f : Five) (l : Ledger) (core word : ℕ) : Type 0 where
  by_holder : (lock : ℕ) → mode_of f l.plan word ≡ locked lock → (l.locks lock).holder ≡ Some core
  alone : mode_of f l.plan word ≡ written → earliest Store core word l.accesses ≡ None

accesses : (b : Setting) (l : Ledger) (k : Call) (a : Wanted) → access_of k ≡ Some a → refusal b l k ≡ None → Accesses b.figures l a.core a.word
accesses b l (call.Load core word) a e ok =
    let p = load_passes b l core word ok in
    let eq : record { core = core; word = word } ≡ a = cc in
    subst (λ (x : Wanted). Accesses b.figures l x.core x.word) eq
    record {
      by_holder = λ lock m. not_shut_out l (mode_of b.figures l.plan word) core lock m p.open_to;
      alone = λ m. no_race Store (earliest Store core word l.accesses) (ap (λ (x : Mode). load_race x l.accesses core word) (sym m) ∙ p.unraced);
    }
accesses b l (call.Store core word value) a e ok =
    let p = store_passes b l core word value ok in
    let eq : record { core = core; word = word } ≡ a = cc in
    subst (λ (x : Wanted). Accesses b.figures l x.core x.word) eq
    record {
      by_holder = λ lock m. not_shut_out l (mode_of b.figures l.plan word) core lock m p.open_to;
      alone = λ m. no_race Store (earliest Store core word l.accesses) (first_none _ _ (ap (λ (x : Mode). store_race x l.accesses core word) (sym m) ∙ p.unraced)).0;
    }
accesses b l _ a e ok = grind arith

pub access_below : (b : Setting) (l : Ledger) (k : Call) (a : Wanted) → access_of k ≡ Some a → refusal b l k ≡ None → a.core < b.figures.cores
access_below b l (call.Load core word) a e ok =
    grind (arith, (load_passes b l core word ok).in_cores)
access_below b l (call.Store core word value) a e ok =
    grind (arith, (store_passes b l core word value ok).in_cores)
access_below b l _ a e ok = grind arith

pub store_tells : (k : Call) (s : Written) → store_of k ≡ Some s → k ≡ call.Store s.core s.word s.value
store_tells (call.Store core word value) s e =
    grind arith
store_tells _ s e = grind arith

-- the core and the word of a store
abbrev pub used_by : Written → Wanted
used_by s = record { core = s.core; word = s.word }

pub store_accesses : (k : Call) (s : Written) → store_of k ≡ Some s → access_of k ≡ Some (used_by s)
store_accesses k s e = ap access_of (store_tells k s e)

-- an access is one of its core's calls
pub access_concerns : (k : Call) (a : Wanted) → access_of k ≡ Some a → concerns a.core k ≡ true
access_concerns (call.Load core word) a e = grind (arith, eq-eqb core a.core)
access_concerns (call.Store core word value) a e = grind (arith, eq-eqb core a.core)
access_concerns _ a e = grind arith

-- ── a store of this phase stays among its accesses ──

both_empty : {X : Type 0} (xs ys : List X) → xs ++ ys ≡ [] → (xs ≡ []) × (ys ≡ [])
both_empty [] ys e = (refl, e)
both_empty (x ∷ xs) ys e = absurd cc

stays_stored : (d w : ℕ) (l : Ledger) (h : History) → plans_of h ≡ [] → stored_in l.accesses d w ≡ true → stored_in (fold entered_by l h).accesses d w ≡ true
stays_stored d w l [] none st = st
stays_stored d w l (e ∷ h) none st = stays_stored d w (entered_by l e) h (both_empty (plans_in (plan_of e.call)) (plans_of h) none).1 (go (accepted e))
  where
    entered_stays : (k : Call) → e.call ≡ k → stored_in (entered l k).accesses d w ≡ true
    entered_stays (call.Load core word) q = stored_after_load l.accesses core word d w ∙ st
    entered_stays (call.Store core word value) q = stored_before l.accesses core word d w st
    entered_stays (call.Phase plan) q =
        let empty : plan ∷ [] ≡ [] = ap (λ (k : Call). plans_in (plan_of k)) (sym q) ∙ (both_empty (plans_in (plan_of e.call)) (plans_of h) none).0 in
        absurd cc
    entered_stays _ q = st

    go : (t : Bool) → stored_in (cond t (entered l e.call) l).accesses d w ≡ true
    go true = entered_stays e.call refl
    go false = st

-- ── one order in both runs ──

-- the same call at the same place among a core's calls
pub record Twins (c : ℕ) {h k : History} (s : Spot h) (t : Spot k) : Type 0 where
  pub place : calls_of c s.before ≡ calls_of c t.before
  pub call : s.event.call ≡ t.event.call

-- one of the core's calls more makes its calls longer
longer : (c : ℕ) (a : History) (e : Event) (m : History) → concerns c e.call ≡ true → length (calls_of c a) < length (calls_of c (a ++ (e ∷ m)))
longer c a e m t =
    let whole = ap length (flat_map-append _ a (e ∷ m)) ∙ length-append (calls_of c a) (calls_of c (e ∷ m)) in
    let here : length (calls_of c (e ∷ m)) ≡ 1 + length (calls_of c m) = ap (λ (b : Bool). length (cond b (e.call ∷ []) [] ++ calls_of c m)) t ∙ omega arith in
    omega arith

-- a list that is as long as the whole is the whole
no_more : (xs ys : List ℕ) → length (xs ++ ys) ≤ length xs → ys ≡ []
no_more xs ys l = let whole = length-append xs ys in nil_from_length ys (omega arith)

-- four bits name one of eight locks
locked_below : (bits lock : ℕ) → bits < 16 → mode_of_bits bits ≡ locked lock → lock < 8
locked_below bits lock small e = grind arith

-- the calls before a spot were accepted
pub before_ok : (h : History) → ((before : History) (e : Event) (after : History) → h ≡ before ++ (e ∷ after) → refused_with e.answer ≡ None) → (p : Spot h) → AllAccepted p.before
before_ok h ok p =
    accepted_front p.before (p.event ∷ p.after) (subst AllAccepted p.stands (all_accepted h ok))

-- a core that holds a lock where it has made the same calls: the same cores have released the lock before
pub same_releasers : (r q : Ran) → SameOrder r q → (c lock : ℕ) → lock < 8 → (X : Spot r.history) (Y : Spot q.history) → calls_of c X.before ≡ calls_of c Y.before → ((ledger_of X.before).locks lock).holder ≡ Some c → ((ledger_of Y.before).locks lock).holder ≡ Some c → releasers lock X.before ≡ releasers lock Y.before
same_releasers r q order c lock below X Y place holds_x holds_y =
    let ok_r = legal r order.all_accepted in
    let ok_q = legal q order.others_accepted in
    let one = holders_begin (setting r.figures r.page) r.history ok_r lock c X.before (X.event ∷ X.after) X.stands holds_x in
    let two = holders_begin (setting q.figures q.page) q.history ok_q lock c Y.before (Y.event ∷ Y.after) Y.stands holds_y in
    same_beginning c (releasers lock X.before) (releasers lock Y.before) one.0 two.0
    (sym one.1 ∙ (order.holders lock below ∙ two.1))
    (releases_own c lock X.before (before_ok r.history ok_r.accepts X)
    ∙ (ap (own_releases c lock) place ∙ sym (releases_own c lock Y.before (before_ok q.history ok_q.accepts Y))))

module _ (r q : Ran) (order : SameOrder r q) (S T : Spot r.history) (S' T' : Spot q.history) (s : Written) (a : Wanted) (stores : store_of S.event.call ≡ Some s) (uses : access_of T.event.call ≡ Some a) (one_word : s.word ≡ a.word) (twin_s : Twins s.core S S') (twin_t : Twins a.core T T') (M : History) (first : T.before ≡ S.before ++ (S.event ∷ M)) where
  stores_concerns : concerns s.core S.event.call ≡ true
  stores_concerns = access_concerns S.event.call (used_by s) (store_accesses S.event.call s stores)

  -- of one core, its own calls would disagree
  not_one_core : s.core ≡ a.core → length (calls_of a.core T'.before) ≤ length (calls_of a.core S'.before) → ⊥
  not_one_core who less =
      let grown : length (calls_of a.core S.before) < length (calls_of a.core T.before) = rw first (longer a.core S.before S.event M (ap (λ (c : ℕ). concerns c S.event.call) (sym who) ∙ stores_concerns)) in
      let s_same : length (calls_of a.core S.before) ≡ length (calls_of a.core S'.before) = ap (λ (c : ℕ). length (calls_of c S.before)) (sym who) ∙ (ap length twin_s.place ∙ ap (λ (c : ℕ). length (calls_of c S'.before)) who) in
      let t_same = ap length twin_t.place in
      omega arith

  abbrev br : Setting
  br = setting r.figures r.page

  abbrev bq : Setting
  bq = setting q.figures q.page

  ok_r : Legal br r.history
  ok_r = legal r order.all_accepted

  ok_q : Legal bq q.history
  ok_q = legal q order.others_accepted

  module _ (M' : History) (late : S'.before ≡ T'.before ++ (T'.event ∷ M')) (apart : s.core ≡ a.core → ⊥) where
    -- ── no phase call lies between the two, in either run ──

    s_plans : plans_of S.before ≡ plans_of S'.before
    s_plans = plans_own s.core S.before ∙ (ap plans twin_s.place ∙ sym (plans_own s.core S'.before))

    t_plans : plans_of T.before ≡ plans_of T'.before
    t_plans = plans_own a.core T.before ∙ (ap plans twin_t.place ∙ sym (plans_own a.core T'.before))

    no_plans : plans_of (S.event ∷ M) ≡ []
    no_plans =
        let there = ap length (ap plans_of late ∙ flat_map-append _ T'.before (T'.event ∷ M')) ∙ length-append (plans_of T'.before) (plans_of (T'.event ∷ M')) in
        let here = ap plans_of first ∙ flat_map-append _ S.before (S.event ∷ M) in
        let s_len = ap length s_plans in
        let t_len = ap length t_plans in
        let h_len = ap length here in
        no_more (plans_of S.before) (plans_of (S.event ∷ M)) (omega arith)

    one_plans : plans_of T.before ≡ plans_of S.before
    one_plans =
        ap plans_of first ∙ (flat_map-append _ S.before (S.event ∷ M) ∙ (ap (λ (k : List ℕ). plans_of S.before ++ k) no_plans ∙ append-nil (plans_of S.before)))

    -- the plan in force at the four moments
    abbrev plan : ℕ
    plan = last_plan 0 (plans_of S.before)

    plan_s : (ledger_of S.before).plan ≡ plan
    plan_s = plan_told S.before (before_ok r.history ok_r.accepts S)

    plan_t : (ledger_of T.before).plan ≡ plan
    plan_t = plan_told T.before (before_ok r.history ok_r.accepts T) ∙ ap (last_plan 0) one_plans

    plan_s' : (ledger_of S'.before).plan ≡ plan
    plan_s' = plan_told S'.before (before_ok q.history ok_q.accepts S') ∙ ap (last_plan 0) (sym s_plans)

    plan_t' : (ledger_of T'.before).plan ≡ plan
    plan_t' = plan_told T'.before (before_ok q.history ok_q.accepts T') ∙ ap (last_plan 0) (sym t_plans ∙ one_plans)

    -- what the four accesses tell
    at_s : Accesses r.figures (ledger_of S.before) s.core s.word
    at_s = accesses br (ledger_of S.before) S.event.call (used_by s) (store_accesses S.event.call s stores) (ok_r.passes S.before S.event S.after S.stands)

    at_t : Accesses r.figures (ledger_of T.before) a.core a.word
    at_t = accesses br (ledger_of T.before) T.event.call a uses (ok_r.passes T.before T.event T.after T.stands)

    at_s' : Accesses q.figures (ledger_of S'.before) s.core s.word
    at_s' = accesses bq (ledger_of S'.before) S'.event.call (used_by s) (store_accesses S'.event.call s (ap store_of (sym twin_s.call) ∙ stores)) (ok_q.passes S'.before S'.event S'.after S'.stands)

    at_t' : Accesses q.figures (ledger_of T'.before) a.core a.word
    at_t' = accesses bq (ledger_of T'.before) T'.event.call a (ap access_of (sym twin_t.call) ∙ uses) (ok_q.passes T'.before T'.event T'.after T'.stands)

    abbrev mode : Mode
    mode = mode_of r.figures plan a.word

    mode_s : mode_of r.figures (ledger_of S.before).plan s.word ≡ mode
    mode_s = λ i. mode_of r.figures (plan_s i) (one_word i)

    mode_t : mode_of r.figures (ledger_of T.before).plan a.word ≡ mode
    mode_t = λ i. mode_of r.figures (plan_t i) a.word

    mode_s' : mode_of q.figures (ledger_of S'.before).plan s.word ≡ mode
    mode_s' = λ i. mode_of (sym order.figures i) (plan_s' i) (one_word i)

    mode_t' : mode_of q.figures (ledger_of T'.before).plan a.word ≡ mode
    mode_t' = λ i. mode_of (sym order.figures i) (plan_t' i) a.word

    -- a read_only strip takes no store
    not_read_only : mode ≡ read_only → ⊥
    not_read_only m =
        let k = store_tells S.event.call s stores in
        let p = store_passes br (ledger_of S.before) s.core s.word s.value (sym (ap (refusal br (ledger_of S.before)) k) ∙ ok_r.passes S.before S.event S.after S.stands) in
        both_ways (is_read_only (mode_of r.figures (ledger_of S.before).plan s.word)) p.writable (ap is_read_only (mode_s ∙ m))

    -- in a written strip the first run has a race
    not_written : mode ≡ written → ⊥
    not_written m = apart (only_own (ledger_of T.before).accesses a.core a.word s.core (at_t.alone (mode_t ∙ m)) among)
      where
        k : S.event.call ≡ call.Store s.core s.word s.value
        k = store_tells S.event.call s stores

        entered_here : entered_by (ledger_of S.before) S.event ≡ entered (ledger_of S.before) (call.Store s.core s.word s.value)
        entered_here =
            entered_accepted (ledger_of S.before) S.event (ok_r.accepts S.before S.event S.after S.stands) ∙ ap (entered (ledger_of S.before)) k

        in_s : stored_in (entered_by (ledger_of S.before) S.event).accesses s.core a.word ≡ true
        in_s =
            ap (λ (l : Ledger). stored_in l.accesses s.core a.word) entered_here
            ∙ (ap (λ (w : ℕ). stored_in (entered (ledger_of S.before) (call.Store s.core s.word s.value)).accesses s.core w) (sym one_word)
            ∙ stored_now (ledger_of S.before).accesses s.core s.word)

        among : stored_in (ledger_of T.before).accesses s.core a.word ≡ true
        among =
            ap (λ (h : History). stored_in (ledger_of h).accesses s.core a.word) first
            ∙ (ap (λ (l : Ledger). stored_in l.accesses s.core a.word) (fold-append entered_by _ S.before (S.event ∷ M))
            ∙ stays_stored s.core a.word (entered_by (ledger_of S.before) S.event) M (both_empty (plans_in (plan_of S.event.call)) (plans_of M) no_plans).1 in_s)

    -- in a locked strip both accesses would be by the one holder
    not_locked : (lock : ℕ) → mode ≡ locked lock → ⊥
    not_locked lock m = apart one_holder
      where
        in_locks : lock < 8
        in_locks = locked_below (bits_of plan (strip_of r.figures a.word)) lock (mod-lt (plan / 16 ^ strip_of r.figures a.word) (lit< tt)) m

        holds_s : ((ledger_of S.before).locks lock).holder ≡ Some s.core
        holds_s = at_s.by_holder lock (mode_s ∙ m)

        holds_t : ((ledger_of T.before).locks lock).holder ≡ Some a.core
        holds_t = at_t.by_holder lock (mode_t ∙ m)

        s_releasers : releasers lock S.before ≡ releasers lock S'.before
        s_releasers = same_releasers r q order s.core lock in_locks S S' twin_s.place holds_s (at_s'.by_holder lock (mode_s' ∙ m))

        t_releasers : releasers lock T.before ≡ releasers lock T'.before
        t_releasers = same_releasers r q order a.core lock in_locks T T' twin_t.place holds_t (at_t'.by_holder lock (mode_t' ∙ m))

        none_between : releasers lock (S.event ∷ M) ≡ []
        none_between =
            let there = ap length (ap (releasers lock) late ∙ flat_map-append _ T'.before (T'.event ∷ M')) ∙ length-append (releasers lock T'.before) (releasers lock (T'.event ∷ M')) in
            let here = ap length (ap (releasers lock) first ∙ flat_map-append _ S.before (S.event ∷ M)) in
            let s_len = ap length s_releasers in
            let t_len = ap length t_releasers in
            no_more (releasers lock S.before) (releasers lock (S.event ∷ M)) (omega arith)

        one_releasers : releasers lock T.before ≡ releasers lock S.before
        one_releasers =
            ap (releasers lock) first ∙ (flat_map-append _ S.before (S.event ∷ M) ∙ (ap (λ (k : List ℕ). releasers lock S.before ++ k) none_between ∙ append-nil (releasers lock S.before)))

        one_holder : s.core ≡ a.core
        one_holder =
            let turn_s = turn br r.history ok_r lock S.before (S.event ∷ S.after) S.stands in
            let turn_t = turn br r.history ok_r lock T.before (T.event ∷ T.after) T.stands in
            let queue_s = ((ledger_of S.before).locks lock).queue in
            let queue_t = ((ledger_of T.before).locks lock).queue in
            let got_s : acquirers lock S.before ≡ releasers lock S.before ++ (s.core ∷ queue_s) = turn_s.turns ∙ ap (λ (o : Option ℕ). releasers lock S.before ++ line (record { holder = o; queue = queue_s; last = None })) holds_s in
            let got_t : acquirers lock T.before ≡ releasers lock T.before ++ (a.core ∷ queue_t) = turn_t.turns ∙ ap (λ (o : Option ℕ). releasers lock T.before ++ line (record { holder = o; queue = queue_t; last = None })) holds_t in
            let from_s : acquirers lock T.before ≡ releasers lock S.before ++ (s.core ∷ (queue_s ++ acquirers lock (S.event ∷ M))) = ap (acquirers lock) first ∙ (flat_map-append _ S.before (S.event ∷ M) ∙ (ap (λ (k : List ℕ). k ++ acquirers lock (S.event ∷ M)) got_s ∙ append_assoc (releasers lock S.before) (s.core ∷ queue_s) (acquirers lock (S.event ∷ M)))) in
            let from_t : acquirers lock T.before ≡ releasers lock S.before ++ (a.core ∷ queue_t) = got_t ∙ ap (λ (k : List ℕ). k ++ (a.core ∷ queue_t)) one_releasers in
            let tails = append_cancel_left (releasers lock S.before) (s.core ∷ (queue_s ++ acquirers lock (S.event ∷ M))) (a.core ∷ queue_t) (sym from_s ∙ from_t) in
            let eq : s.core ≡ a.core = cc in
            eq

    not_late : ⊥
    not_late = go mode refl
      where
        go : (m : Mode) → mode ≡ m → ⊥
        go read_only e = not_read_only e
        go written e = not_written e
        go (locked lock) e = not_locked lock e

  pub keeps_order : (M' : History) × (T'.before ≡ S'.before ++ (S'.event ∷ M'))
  keeps_order = go (two_splits S'.before S'.event S'.after T'.before T'.event T'.after (sym S'.stands ∙ T'.stands))
    where
      go : Placed S'.before S'.event T'.before T'.event → (M' : History) × (T'.before ≡ S'.before ++ (S'.event ∷ M'))
      go (earlier M' e) = (M', e)
      go (same e x) =
          let one_call : S.event.call ≡ T.event.call = twin_s.call ∙ (ap (λ (k : Event). k.call) x ∙ sym twin_t.call) in
          let both = same_Some (used_by s) a (sym (store_accesses S.event.call s stores) ∙ (ap access_of one_call ∙ uses)) in
          let equal = ap (λ (h : History). length (calls_of a.core h)) e in
          absurd (not_one_core (ap (λ (k : Wanted). k.core) both) (omega arith))
      go (later M' e) =
          ⊎_elim
          (λ who. absurd (not_one_core who (let grown : length (calls_of a.core T'.before) < length (calls_of a.core S'.before) = rw e (longer a.core T'.before T'.event M' (access_concerns T'.event.call a (ap access_of (sym twin_t.call) ∙ uses))) in omega arith)))
          (λ apart. absurd (not_late M' e apart))
          (cases_eq s.core a.core)
