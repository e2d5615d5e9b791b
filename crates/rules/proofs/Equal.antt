-- Two loads of one word are equal exactly when no store to it came between. Without one, both give what the same store
-- wrote. With one, the later load gives the mark of a store whose count is above its core's count at the first load, and no
-- mark before has that core and count. Assumes nothing.
use Rattle.std.proofs.Common.{◌≡◌, ℕ, ◌+◌, ◌<◌, ◌≤◌, Bool, true, false, cond, ◌||◌, eqb, ◌⊎◌, [], ◌∷◌, ◌++◌, Some, None, fold, Option, sym, refl, ap, ◌∙◌, subst, inl, inr, ⊎_elim, append_assoc, arith}
use Rattle.std.proofs.lemmas.List.Sums.{fold-append}
use Rattle.std.proofs.lemmas.Bool.{both_ways}
use Rattle.call.specs.declared.call.Call.{Call}
use Rattle.call.specs.declared.call.Call.TheVariants as call
use Rattle.word.specs.Lawful.{Stores, mark_of}
use Rattle.word.specs.Marks.{number}
use Rattle.word.specs.declared.word.Word.{Word}
use Rattle.word.proofs.Marks.{same_mark, marks_apart}
use Rattle.rules.specs.Histories.{accepted, stored, store_of, Written, writes, stores_to, ToldStore, Tracked, track_by, tracked, last_store, Fresh}
use Rattle.rules.specs.Laws.{EqualLoads, old_word}
use Rattle.rules.specs.Runs.{History, Ran}
use Rattle.rules.specs.Tables.{upd, some_of}
use Rattle.rules.proofs.Fresh.{reached, no_stale, loaded_tells}
use Rattle.rules.proofs.Tables.{upd_cases}

-- a word is settled by its value and its mark's number
pub same_word : (x y : Word) → x.value ≡ y.value → number x.mark ≡ number y.mark → x ≡ y
same_word x y v m = let k = same_mark x.mark y.mark m in λ i. record { value = v i; mark = k i }

pub fresh_same : (o : Option ToldStore) (old x y : Word) → Fresh o old x → Fresh o old y → x ≡ y
fresh_same None old x y p q = p ∙ sym q
fresh_same (Some s) old x y p q = same_word x y (p.0 ∙ sym q.0) (p.1 ∙ sym q.1)

-- the tracking of a word from some moment on
abbrev pub track_on : ℕ → Tracked → History → Tracked
track_on w t h = fold (λ k e. track_by w (stored e) k) t h

-- after more events: no store to the word, and its last store as before; or a store whose count is above its core's before
pub record Later (w : ℕ) (t u : Tracked) : Type 0 where
  pub store : ToldStore
  pub last : u.last ≡ Some store
  pub above : t.counts store.core < store.count

counts_rise : (w : ℕ) (o : Option Written) (t : Tracked) (c : ℕ) → t.counts c ≤ (track_by w o t).counts c
counts_rise w None t c = omega arith
counts_rise w (Some s) t c = grind (arith, upd_cases t.counts s.core (t.counts s.core + 1) c)

-- which of the two
abbrev pub After : ℕ → Tracked → Tracked → Bool → Type 0
After w t u some = ((some ≡ false) × (u.last ≡ t.last)) ⊎ ((some ≡ true) × Later w t u)

later_step : (w : ℕ) (t : Tracked) (o : Option Written) (u : Tracked) (some : Bool) → After w (track_by w o t) u some → After w t u (writes w o || some)
later_step w t None u some p = p
later_step w t (Some s) u some p = go (eqb s.word w) refl p
  where
    moved : Bool → Tracked
    moved here =
        record { counts = upd t.counts s.core (t.counts s.core + 1); last = cond here (Some (record { core = s.core; count = t.counts s.core + 1; value = s.value })) t.last }

    above_before : (k : ToldStore) → upd t.counts s.core (t.counts s.core + 1) k.core < k.count → t.counts k.core < k.count
    above_before k q = grind (arith, upd_cases t.counts s.core (t.counts s.core + 1) k.core, q)

    go : (here : Bool) → eqb s.word w ≡ here → After w (moved here) u some → After w t u (here || some)
    go true e (inl q) = inr (refl, record { store = record { core = s.core; count = t.counts s.core + 1; value = s.value }; last = q.1; above = omega arith })
    go true e (inr q) = inr (refl, record { store = q.1.store; last = q.1.last; above = above_before q.1.store q.1.above })
    go false e (inl q) = inl q
    go false e (inr q) = inr (q.0, record { store = q.1.store; last = q.1.last; above = above_before q.1.store q.1.above })

pub later : (w : ℕ) (t : Tracked) (h : History) → After w t (track_on w t h) (some_of (stores_to w) h)
later w t [] = inl (refl, refl)
later w t (e ∷ h) =
    later_step w t (stored e) (track_on w (track_by w (stored e) t) h) (some_of (stores_to w) h) (later w (track_by w (stored e) t) h)

-- a fresh word with a later store is another word
pub fresh_apart : (o : Option ToldStore) (s : ToldStore) (old x y : Word) → Stores s.core s.count → ((k : ToldStore) → o ≡ Some k → Stores k.core k.count × ((k.core ≡ s.core) → k.count < s.count)) → Fresh o old x → Fresh (Some s) old y → x ≡ y → ⊥
fresh_apart None s old x y st before p q e =
    let some = st.1 in
    let m : number x.mark ≡ 0 = ap (λ (k : Word). number k.mark) p in
    let n : number x.mark ≡ mark_of s.core s.count = ap (λ (k : Word). number k.mark) e ∙ q.1 in
    omega arith
fresh_apart (Some k) s old x y st before p q e =
    let known = before k refl in
    let same : mark_of k.core k.count ≡ mark_of s.core s.count = sym p.1 ∙ (ap (λ (z : Word). number z.mark) e ∙ q.1) in
    let parts = marks_apart k.core k.count s.core s.count known.0 st same in
    let less = known.1 parts.0 in
    let equal = parts.1 in
    omega arith

pub equal_loads : (r : Ran) → EqualLoads r
equal_loads r before e between f after l m split h k same = (to, from)
  where
    first_fresh : Fresh (last_store l.word before) (old_word r l.word) l.given
    first_fresh = no_stale r before e (between ++ (f ∷ after)) l split h

    second_fresh : Fresh (last_store l.word (before ++ (e ∷ between))) (old_word r l.word) m.given
    second_fresh = rw same (no_stale r (before ++ (e ∷ between)) f after m (split ∙ sym (append_assoc before (e ∷ between) (f ∷ after))) k)

    no_store : stored e ≡ None
    no_store = ap (λ (c : Call). cond (accepted e) (store_of c) None) (loaded_tells e l h).call ∙ go (accepted e)
      where
        go : (t : Bool) → cond t (store_of (call.Load l.core l.word)) None ≡ None
        go true = refl
        go false = refl

    moved : After l.word (tracked l.word before) (tracked l.word (before ++ (e ∷ between))) (some_of (stores_to l.word) between)
    moved =
        let whole = later l.word (tracked l.word before) (e ∷ between) in
        let quiet : some_of (stores_to l.word) (e ∷ between) ≡ some_of (stores_to l.word) between = ap (λ (o : Option Written). writes l.word o || some_of (stores_to l.word) between) no_store in
        subst (λ (t : Tracked). After l.word (tracked l.word before) t (some_of (stores_to l.word) between)) (sym (fold-append _ _ before (e ∷ between)))
        (subst (λ (t : Bool). After l.word (tracked l.word before) (track_on l.word (tracked l.word before) (e ∷ between)) t) quiet whole)

    from : some_of (stores_to l.word) between ≡ false → l.given ≡ m.given
    from none =
        ⊎_elim
        (λ p. fresh_same (last_store l.word before) (old_word r l.word) l.given m.given first_fresh (subst (λ (o : Option ToldStore). Fresh o (old_word r l.word) m.given) p.1 second_fresh))
        (λ p. absurd (both_ways (some_of (stores_to l.word) between) none p.0))
        moved

    to : l.given ≡ m.given → some_of (stores_to l.word) between ≡ false
    to eq = ⊎_elim (λ p. p.0) (λ p. absurd (differ p.1)) moved
      where
        differ : Later l.word (tracked l.word before) (tracked l.word (before ++ (e ∷ between))) → ⊥
        differ p =
            let one = reached r before (e ∷ (between ++ (f ∷ after))) split in
            let two = reached r (before ++ (e ∷ between)) (f ∷ after) (split ∙ sym (append_assoc before (e ∷ between) (f ∷ after))) in
            let lawful = (two.moment.told.lawful l.word p.store p.last).0 in
            fresh_apart (last_store l.word before) p.store (old_word r l.word) l.given m.given lawful
            (λ k q. let known = one.moment.told.lawful l.word k q in (known.0, (λ who. let few = known.1 in let counts = one.moment.told.counts l.word k.core in let above = p.above in grind (arith, who, few, counts, above))))
            first_fresh
            (subst (λ (o : Option ToldStore). Fresh o (old_word r l.word) m.given) p.last second_fresh)
            eq
