-- The order law: the last store before a load is carried over to the other run and back, so both loads give what the same
-- store wrote; its count agrees since the core's own calls do. Assumes nothing.
use Rattle.std.proofs.Common.{◌≡◌, ℕ, ◌+◌, ◌<◌, Bool, true, false, cond, eqb, List, [], ◌∷◌, ◌++◌, Some, None, Option, sym, refl, ap, ◌∙◌, subst, ⊎_elim, append_assoc, arith}
use Rattle.std.proofs.lemmas.List.Sums.{fold-append}
use Rattle.std.proofs.lemmas.List.Concat.{flat_map-append}
use Rattle.std.proofs.lemmas.List.{append_cancel_left}
use Rattle.std.proofs.lemmas.Bool.{eqb-true, both_ways, cases_Bool, cond-true, eq-eqb}
use Rattle.call.specs.declared.call.Call.{Call}
use Rattle.call.specs.declared.call.Call.TheVariants as call
use Rattle.call.specs.declared.refusal.Refusal.{Refusal}
use Rattle.word.specs.declared.word.Word.{Word}
use Rattle.rules.specs.Histories.{refused_with, stored, store_of, Written, Wanted, writes, stores_to, ToldStore, Tracked, track_by, tracked, last_store, Fresh, loaded, given_by, load_of, concerns, calls_of, ledger_of}
use Rattle.rules.specs.Laws.{Unrefused, SameOrder, OrderDecides, old_word, size}
use Rattle.rules.specs.Refusals.{refusal}
use Rattle.rules.specs.Runs.{Event, History, Ran}
use Rattle.rules.specs.State.{Setting, setting}
use Rattle.rules.specs.Steps.{step, outcome}
use Rattle.rules.specs.Tables.{some_of}
use Rattle.rules.proofs.Equal.{fresh_same, later}
use Rattle.rules.proofs.Fresh.{reached, no_stale, loaded_tells}
use Rattle.rules.proofs.Order.{access_of, used_by, access_below, store_accesses, access_concerns, Twins, before_ok, keeps_order}
use Rattle.rules.proofs.Own.{found, own_stores, stores_own}
use Rattle.rules.proofs.Settled.{fresh_alike}
use Rattle.rules.proofs.Splits.{Spot, Last, last_of, none_at, tail_same}
use Rattle.rules.proofs.Turns.{legal}
use Rattle.rules.proofs.Unrefused.{load_passes}
use Rattle.rules.proofs.Opening.{fits}
use Rattle.rules.proofs.Walking.{Reached, of_unrefused}

-- ── twins ──

pub same_order_back : (r q : Ran) → SameOrder r q → SameOrder q r
same_order_back r q o =
    record {
      figures = sym o.figures;
      alike = record { sizes = sym o.alike.sizes; values = λ w l. sym (o.alike.values w (rw o.alike.sizes l)) };
      all_accepted = o.others_accepted;
      others_accepted = o.all_accepted;
      calls = λ c l. sym (o.calls c l);
      holders = λ l p. sym (o.holders l p);
    }

-- an accepted access is by one of the eight cores
access_core : (r : Ran) → Unrefused r.history → (s : Spot r.history) (a : Wanted) → access_of s.event.call ≡ Some a → a.core < 8
access_core r ok s a uses =
    let below = access_below (setting r.figures r.page) (ledger_of s.before) s.event.call a uses ((legal r ok).passes s.before s.event s.after s.stands) in
    let few = (fits r.figures r.page r.passed).cores in
    omega arith

-- each call of a core has its twin in the other run
pub twin : (r q : Ran) → SameOrder r q → (c : ℕ) → c < 8 → (s : Spot r.history) → concerns c s.event.call ≡ true → (t : Spot q.history) × Twins c s t
twin r q o c below s t =
    let mine = calls_of c s.before in
    let here : calls_of c (s.event ∷ s.after) ≡ s.event.call ∷ calls_of c s.after = ap (λ (b : Bool). cond b (s.event.call ∷ []) [] ++ calls_of c s.after) t in
    let whole : calls_of c q.history ≡ mine ++ (s.event.call ∷ calls_of c s.after) = sym (o.calls c below) ∙ (ap (calls_of c) s.stands ∙ (flat_map-append _ s.before (s.event ∷ s.after) ∙ ap (λ (k : List Call). mine ++ k) here)) in
    let f = found c q.history mine s.event.call (calls_of c s.after) whole in
    (f.spot, record { place = sym f.place; call = sym f.call })

-- an accepted access has its twin
access_twin : (r q : Ran) → SameOrder r q → (s : Spot r.history) (a : Wanted) → access_of s.event.call ≡ Some a → (t : Spot q.history) × Twins a.core s t
access_twin r q o s a uses =
    twin r q o a.core (access_core r o.all_accepted s a uses) s (access_concerns s.event.call a uses)

pub twins_back : (c : ℕ) {h k : History} (s : Spot h) (t : Spot k) → Twins c s t → Twins c t s
twins_back c s t p = record { place = sym p.place; call = sym p.call }

-- a member of what stands before a spot is a spot of the whole
abbrev pub inner : {h : History} (t : Spot h) (a : History) (e : Event) (m : History) → t.before ≡ a ++ (e ∷ m) → Spot h
inner t a e m split =
    record { before = a; event = e; after = m ++ (t.event ∷ t.after); stands = t.stands ∙ (ap (λ (k : History). k ++ (t.event ∷ t.after)) split ∙ append_assoc a (e ∷ m) (t.event ∷ t.after)) }

-- ── stores to a word ──

-- an accepted store to the word
record StoresTo (w : ℕ) (e : Event) : Type 0 where
  store : Written
  call : store_of e.call ≡ Some store
  here : store.word ≡ w

stores_tells : (w : ℕ) (e : Event) → refused_with e.answer ≡ None → stores_to w e ≡ true → StoresTo w e
stores_tells w e a t = go (store_of e.call) refl (ap (writes w) (sym (of_unrefused store_of e a)) ∙ t)
  where
    go : (o : Option Written) → store_of e.call ≡ o → writes w o ≡ true → StoresTo w e
    go None q p = absurd (both_ways false refl p)
    go (Some s) q p = record { store = s; call = q; here = eqb-true s.word w p }

tells_stores : (w : ℕ) (e : Event) (s : Written) → refused_with e.answer ≡ None → store_of e.call ≡ Some s → s.word ≡ w → stores_to w e ≡ true
tells_stores w e s a c h = ap (writes w) (of_unrefused store_of e a ∙ c) ∙ eq-eqb s.word w h

-- a store with its count
abbrev told_as : Written → ℕ → Option ToldStore
told_as s count = Some (record { core = s.core; count = count; value = s.value })

-- the last store, where it is known
last_at : (w : ℕ) (a : History) (e : Event) (m : History) (s : Written) → refused_with e.answer ≡ None → store_of e.call ≡ Some s → s.word ≡ w → some_of (stores_to w) m ≡ false → last_store w (a ++ (e ∷ m)) ≡ told_as s ((tracked w a).counts s.core + 1)
last_at w a e m s ok c h none =
    let moved : track_by w (stored e) (tracked w a) ≡ track_by w (Some s) (tracked w a) = ap (λ (o : Option Written). track_by w o (tracked w a)) (of_unrefused store_of e ok ∙ c) in
    let there : (track_by w (stored e) (tracked w a)).last ≡ told_as s ((tracked w a).counts s.core + 1) = ap (λ (t : Tracked). t.last) moved ∙ cond-true (eqb s.word w) _ _ (eq-eqb s.word w h) in
    ap (λ (t : Tracked). t.last) (fold-append _ _ a (e ∷ m))
    ∙ (⊎_elim (λ p. p.1) (λ p. absurd (both_ways (some_of (stores_to w) m) none p.0)) (later w (track_by w (stored e) (tracked w a)) m) ∙ there)

last_none : (w : ℕ) (h : History) → some_of (stores_to w) h ≡ false → last_store w h ≡ None
last_none w h none =
    ⊎_elim (λ p. p.1) (λ p. absurd (both_ways (some_of (stores_to w) h) none p.0)) (later w (record { counts = λ _. 0; last = None }) h)

-- ── the last store is carried over ──

module _ (r q : Ran) (o : SameOrder r q) where
  accepts_r : (s : Spot r.history) → refused_with s.event.answer ≡ None
  accepts_r s = (legal r o.all_accepted).accepts s.before s.event s.after s.stands

  accepts_q : (s : Spot q.history) → refused_with s.event.answer ≡ None
  accepts_q s = (legal q o.others_accepted).accepts s.before s.event s.after s.stands

  -- a store before the second of two twins has a twin before the first
  module _ (T : Spot r.history) (T' : Spot q.history) (a : Wanted) (uses : access_of T.event.call ≡ Some a) (twins : Twins a.core T T') where
    uses' : access_of T'.event.call ≡ Some a
    uses' = ap access_of (sym twins.call) ∙ uses

    record Carried (S' : Spot q.history) (s : Written) : Type 0 where
      spot : Spot r.history
      twins_s : Twins s.core spot S'
      between : History
      first : T.before ≡ spot.before ++ (spot.event ∷ between)

    carried : (S' : Spot q.history) (s : Written) → store_of S'.event.call ≡ Some s → s.word ≡ a.word → (M' : History) → T'.before ≡ S'.before ++ (S'.event ∷ M') → Carried S' s
    carried S' s call here M' split =
        let found_s = access_twin q r (same_order_back r q o) S' (used_by s) (store_accesses S'.event.call s call) in
        let k = keeps_order q r (same_order_back r q o) S' T' found_s.0 T s a call uses' here found_s.1 (twins_back a.core T T' twins) M' split in
        record { spot = found_s.0; twins_s = twins_back s.core S' found_s.0 found_s.1; between = k.0; first = k.1 }

    -- no store before the first: none before the second
    none_either : some_of (stores_to a.word) T.before ≡ false → some_of (stores_to a.word) T'.before ≡ false
    none_either none = ⊎_elim (λ some. absurd (never some)) (λ p. p) (cases_Bool (some_of (stores_to a.word) T'.before))
      where
        never : some_of (stores_to a.word) T'.before ≡ true → ⊥
        never some =
            let l = last_of (stores_to a.word) T'.before some in
            let S' = inner T' l.before l.event l.after l.stands in
            let st = stores_tells a.word l.event (accepts_q S') l.passes in
            let c = carried S' st.store st.call st.here l.after l.stands in
            let t = tells_stores a.word c.spot.event st.store (accepts_r c.spot) (ap store_of c.twins_s.call ∙ st.call) st.here in
            both_ways (stores_to a.word c.spot.event) (none_at (stores_to a.word) c.spot.before c.spot.event c.between (ap (some_of (stores_to a.word)) (sym c.first) ∙ none)) t

    -- the last store before the first has a twin that is the last before the second
    agree_some : some_of (stores_to a.word) T.before ≡ true → last_store a.word T.before ≡ last_store a.word T'.before
    agree_some some =
        ap (last_store a.word) l.stands
        ∙ (last_at a.word l.before l.event l.after st.store (accepts_r S) st.call st.here l.none_later
        ∙ (same_told
        ∙ (sym (last_at a.word S'.before S'.event after.0 st.store (accepts_q S') call' st.here none_later')
        ∙ ap (last_store a.word) (sym after.1))))
      where
        l : Last (stores_to a.word) T.before
        l = last_of (stores_to a.word) T.before some

        S : Spot r.history
        S = inner T l.before l.event l.after l.stands

        st : StoresTo a.word l.event
        st = stores_tells a.word l.event (accepts_r S) l.passes

        found_s : (t : Spot q.history) × Twins st.store.core S t
        found_s = access_twin r q o S (used_by st.store) (store_accesses l.event.call st.store st.call)

        S' : Spot q.history
        S' = found_s.0

        call' : store_of S'.event.call ≡ Some st.store
        call' = ap store_of (sym found_s.1.call) ∙ st.call

        after : (M' : History) × (T'.before ≡ S'.before ++ (S'.event ∷ M'))
        after = keeps_order r q o S T S' T' st.store a st.call uses st.here found_s.1 twins l.after l.stands

        same_told : told_as st.store ((tracked a.word l.before).counts st.store.core + 1) ≡ told_as st.store ((tracked a.word S'.before).counts st.store.core + 1)
        same_told =
            ap (λ (n : ℕ). told_as st.store (n + 1))
            (stores_own a.word st.store.core l.before (before_ok r.history (legal r o.all_accepted).accepts S)
            ∙ (ap (own_stores st.store.core) found_s.1.place
            ∙ sym (stores_own a.word st.store.core S'.before (before_ok q.history (legal q o.others_accepted).accepts S'))))

        -- a later store would have a twin between the two
        never : some_of (stores_to a.word) after.0 ≡ true → ⊥
        never more =
            let k = last_of (stores_to a.word) after.0 more in
            let upto : T'.before ≡ (S'.before ++ (S'.event ∷ k.before)) ++ (k.event ∷ k.after) = after.1 ∙ (ap (λ (x : History). S'.before ++ (S'.event ∷ x)) k.stands ∙ sym (append_assoc S'.before (S'.event ∷ k.before) (k.event ∷ k.after))) in
            let U' = inner T' (S'.before ++ (S'.event ∷ k.before)) k.event k.after upto in
            let su = stores_tells a.word k.event (accepts_q U') k.passes in
            let c = carried U' su.store su.call su.here k.after upto in
            let u_uses = store_accesses k.event.call su.store su.call in
            let s_first = keeps_order q r (same_order_back r q o) S' U' S c.spot st.store (used_by su.store) call' u_uses (st.here ∙ sym su.here) (twins_back st.store.core S S' found_s.1) (twins_back su.store.core c.spot U' c.twins_s) k.before refl in
            let whole : l.before ++ (l.event ∷ l.after) ≡ l.before ++ (l.event ∷ (s_first.0 ++ (c.spot.event ∷ c.between))) = sym l.stands ∙ (c.first ∙ (ap (λ (x : History). x ++ (c.spot.event ∷ c.between)) s_first.1 ∙ append_assoc l.before (l.event ∷ s_first.0) (c.spot.event ∷ c.between))) in
            let tails = append_cancel_left l.before (l.event ∷ l.after) (l.event ∷ (s_first.0 ++ (c.spot.event ∷ c.between))) whole in
            let rest = tail_same l.event l.event l.after (s_first.0 ++ (c.spot.event ∷ c.between)) tails in
            let t = tells_stores a.word c.spot.event su.store (accepts_r c.spot) (ap store_of c.twins_s.call ∙ su.call) su.here in
            both_ways (stores_to a.word c.spot.event) (none_at (stores_to a.word) s_first.0 c.spot.event c.between (ap (some_of (stores_to a.word)) (sym rest) ∙ l.none_later)) t

        none_later' : some_of (stores_to a.word) after.0 ≡ false
        none_later' = ⊎_elim (λ more. absurd (never more)) (λ p. p) (cases_Bool (some_of (stores_to a.word) after.0))

    pub agree : last_store a.word T.before ≡ last_store a.word T'.before
    agree =
        ⊎_elim agree_some
        (λ none. last_none a.word T.before none ∙ sym (last_none a.word T'.before (none_either none)))
        (cases_Bool (some_of (stores_to a.word) T.before))

-- ── the law ──

-- an accepted load of a run has given a word
load_gives : (q : Ran) (t : Spot q.history) (w : Wanted) → t.event.call ≡ call.Load w.core w.word → refused_with t.event.answer ≡ None → (x : Word) × (loaded t.event ≡ Some (record { core = w.core; word = w.word; given = x }))
load_gives q t w c a = go (refusal b p.state.ledger (call.Load w.core w.word)) refl by_rule
  where
    b : Setting
    b = setting q.figures q.page

    p : Reached (setting q.figures q.page) (fits q.figures q.page q.passed) (old_word q) t.before (t.event ∷ t.after) q.final
    p = reached q t.before (t.event ∷ t.after) t.stands

    by_rule : t.event.answer ≡ (step (setting q.figures q.page) p.sets p.state (call.Load w.core w.word)).answer
    by_rule = p.chain.0 ∙ ap (λ (k : Call). (step (setting q.figures q.page) p.sets p.state k).answer) c

    go : (o : Option Refusal) → refusal b p.state.ledger (call.Load w.core w.word) ≡ o → t.event.answer ≡ (outcome o (setting q.figures q.page) p.sets p.state (call.Load w.core w.word)).answer → (x : Word) × (loaded t.event ≡ Some (record { core = w.core; word = w.word; given = x }))
    go (Some r) e k = absurd (cc (sym a ∙ ap refused_with k))
    go None e k = (_, (λ i. given_by (k i) (load_of (c i))))

pub order_decides : (r q : Ran) → OrderDecides r q
order_decides r q o before e after l split h =
    record {
      others_before = T'.before;
      other = T'.event;
      others_after = T'.after;
      stands = T'.stands;
      place = sym twins.place;
      call = sym twins.call;
      gives = gives.1 ∙ (λ i. Some (record { core = l.core; word = l.word; given = sym same_word_given i }));
    }
  where
    T : Spot r.history
    T = record { before = before; event = e; after = after; stands = split }

    a : Wanted
    a = record { core = l.core; word = l.word }

    is_load : e.call ≡ call.Load l.core l.word
    is_load = (loaded_tells e l h).call

    uses : access_of e.call ≡ Some a
    uses = ap access_of is_load

    found_t : (t : Spot q.history) × Twins l.core T t
    found_t = access_twin r q o T a uses

    T' : Spot q.history
    T' = found_t.0

    twins : Twins l.core T T'
    twins = found_t.1

    gives : (x : Word) × (loaded T'.event ≡ Some (record { core = l.core; word = l.word; given = x }))
    gives = load_gives q T' a (sym twins.call ∙ is_load) (accepts_q r q o T')

    one : Fresh (last_store l.word before) (old_word r l.word) l.given
    one = no_stale r before e after l split h

    two : Fresh (last_store l.word T'.before) (old_word q l.word) gives.0
    two = no_stale q T'.before T'.event T'.after (record { core = l.core; word = l.word; given = gives.0 }) T'.stands gives.1

    inside : l.word < size r
    inside = (load_passes (setting r.figures r.page) (ledger_of before) l.core l.word (sym (ap (refusal (setting r.figures r.page) (ledger_of before)) is_load) ∙ (legal r o.all_accepted).passes before e after split)).in_size

    same_word_given : l.given ≡ gives.0
    same_word_given =
        fresh_same (last_store l.word T'.before) (old_word q l.word) l.given gives.0
        (subst (λ (s : Option ToldStore). Fresh s (old_word q l.word) l.given) (agree r q o T T' a uses twins) (fresh_alike (last_store l.word before) (old_word r l.word) (old_word q l.word) l.given (o.alike.values l.word inside) one))
        two
