-- Tables that are just made hold nothing, and the count of owned words goes word by word. Assumes nothing.
use Rattle.std.proofs.Common.{◌≡◌, ℕ, zero, suc, ◌+◌, ◌<◌, ◌≤◌, Bool, true, false, cond, ltb, List, [], ◌∷◌, ◌++◌, length, get_or, replicate, is_some, take, count_by, Some, None, Option, sym, refl, ap, ◌∙◌, add-one, arith}
use mathlib.Core.HLevel.{is_prop→PathP}
use denote.Struct.Props.{props}
use Rattle.std.proofs.lemmas.List.{get_or_past, take_all}
use Rattle.std.proofs.lemmas.List.Sums.{count_by_more_yes, count_by_more_no}
use Rattle.std.proofs.lemmas.Bool.{ltb-true, ltb-false}
use Rattle.std.specs.Option.{option_map}
use Rattle.word.specs.Words.{blank_word}
use Rattle.word.specs.declared.word.Word.{Word}
use Rattle.call.specs.Figures.{Five}
use Rattle.rules.specs.Questions.{owned_among}
use Rattle.rules.specs.State.{invalid, Memory, empty_caches}
use Rattle.rules.specs.Tables.{below}
use Rattle.memory.specs.Entries.{copy_in, empty}
use Rattle.memory.specs.Owners.{Core, Place, seat, holds}
use Rattle.memory.specs.Views.{copies_of, owner_number, owners_of, memory_of}
use Rattle.memory.specs.declared.bounds.Below.{Below}
use Rattle.memory.specs.declared.entry.Entry.{Entry}
use Rattle.memory.specs.declared.entry.State.TheVariants.{Invalid}
use Rattle.memory.proofs.Owned.{Owned}
use Rattle.memory.proofs.Views.{same_memory}

-- a table that is filled with its default reads as that everywhere
filled : {X : Type 0} (n : ℕ) (x : X) (k : ℕ) → get_or (replicate n x) k x ≡ x
filled zero x k = refl
filled (suc n) x zero = refl
filled (suc n) x (suc k) = filled n x k

-- two numbers below a limit are one where they are equal
same_below : {limit : ℕ} (n m : Below limit) → n.number ≡ m.number → n ≡ m
same_below {limit = limit} n m e =
    λ i. record { number = e i; within = is_prop→PathP (λ j. ltb (e j) limit ≡ true) (λ j. hlevel props) n.within m.within i }

-- an invalid entry of place 0 with the blank word
pub blank_entry : (e : Entry) → e.state ≡ Invalid → e.place.number ≡ 0 → e.word ≡ blank_word → e ≡ empty
blank_entry e state place word = λ i. record { state = state i; place = same_below e.place empty.place place i; word = word i }

-- tables that hold nothing have no owner
pub open_owned : (f : Five) (k : ℕ) (es : List Entry) → Owned f es (replicate k None)
open_owned f k es w = ap (holds f es w) (filled k None w)

no_copy : (n c i : ℕ) → copies_of (replicate n empty) c i ≡ invalid
unfolding copies_of
no_copy n c i = go (ltb i 64)
  where
    go : (b : Bool) → cond b (copy_in (get_or (replicate n empty) (seat c i) empty)) invalid ≡ invalid
    go true = ap copy_in (filled n empty (seat c i))
    go false = refl

no_owner : (k w : ℕ) → owners_of (replicate k None) w ≡ None
unfolding owners_of
no_owner k w = ap owner_number (filled k None w)

-- a memory just opened
pub opened_view : (n k : ℕ) (page ps : List Word) (es : List Entry) (os : List (Option Core)) → ps ≡ page → es ≡ replicate n empty → os ≡ replicate k None → memory_of ps es os ≡ empty_caches page
opened_view n k page ps es os pe ee oe =
    same_memory _ _ _ _ _ _ pe (ap copies_of ee ∙ (λ t c i. no_copy n c i t)) (ap owners_of oe ∙ (λ t w. no_owner k w t))

-- a word past the table has no owner
pub owner_past : (os : List (Option Core)) (w : ℕ) → length os ≤ w → None ≡ owners_of os w
unfolding owners_of
owner_past os w h = sym (ap owner_number (get_or_past os w None h))

-- a number that has no place is past the table
pub no_place : (p : Option Place) (w : ℕ) → option_map (λ n. n.number) p ≡ cond (ltb w 4096) (Some w) None → p ≡ None → 4096 ≤ w
no_place p w told none = go (ltb w 4096) refl (sym (ap (option_map (λ n. n.number)) none) ∙ told)
  where
    go : (b : Bool) → ltb w 4096 ≡ b → ◌≡◌ {A = Option ℕ} None (cond b (Some w) None) → 4096 ≤ w
    go true h t = let z : ◌≡◌ {A = ℕ} 0 1 = cc in let no_way : ⊥ = omega arith in absurd no_way
    go false h t = ltb-false w 4096 h

-- the place of a number is that number
pub same_place : (p : Option Place) (w : ℕ) (place : Place) → option_map (λ n. n.number) p ≡ cond (ltb w 4096) (Some w) None → p ≡ Some place → place.number ≡ w
same_place p w place told some = go (ltb w 4096) (sym (ap (option_map (λ n. n.number)) some) ∙ told)
  where
    go : (b : Bool) → Some place.number ≡ cond b (Some w) None → place.number ≡ w
    go true t = cc
    go false t = let z : ◌≡◌ {A = ℕ} 0 1 = cc in let no_way : ⊥ = omega arith in absurd no_way

-- the owner of a word, by the place of its number
pub owner_there : (os : List (Option Core)) (p : Option Place) (w : ℕ) (place : Place) (r o : Option Core) → option_map (λ n. n.number) p ≡ cond (ltb w 4096) (Some w) None → p ≡ Some place → r ≡ get_or os place.number None → r ≡ o → owner_number o ≡ owners_of os w
unfolding owners_of
owner_there os p w place r o told some read is =
    ap owner_number (sym is ∙ (read ∙ ap (λ (k : ℕ). get_or os k None) (same_place p w place told some)))

-- one more word
pub owned_more : (m : Memory) (ws : List ℕ) (w : ℕ) → owned_among m (ws ++ (w ∷ [])) ≡ owned_among m ws + cond {A = ℕ} (is_some (m.owners w)) 1 0
owned_more m [] w = omega arith
owned_more m (v ∷ ws) w = omega (arith, owned_more m ws w)

-- the owners of the first words are counted in the table
pub owned_taken : (ps : List Word) (es : List Entry) (os : List (Option Core)) (n : ℕ) → count_by is_some (take n os) ≡ owned_among (memory_of ps es os) (below n)
unfolding owners_of
owned_taken ps es os zero = refl
owned_taken ps es os (suc n) =
    go (ltb n (length os)) refl ∙ (ap (λ (k : ℕ). k + cond {A = ℕ} (is_some (owners_of os n)) 1 0) (owned_taken ps es os n) ∙ sym (owned_more (memory_of ps es os) (below n) n))
  where
    counted : ℕ → ℕ
    counted k = count_by is_some (take k os)

    here : n < length os → (o : Option Core) → get_or os n None ≡ o → counted (suc n) ≡ counted n + cond {A = ℕ} (is_some (owner_number o)) 1 0
    here less None e = let same = count_by_more_no is_some os n None less (ap is_some e) in let k = rw add-one at same in omega (arith, k)
    here less (Some c) e = let more = count_by_more_yes is_some os n None less (ap is_some e) in rw add-one at more

    go : (b : Bool) → ltb n (length os) ≡ b → counted (suc n) ≡ counted n + cond {A = ℕ} (is_some (owner_number (get_or os n None))) 1 0
    go true h = here (ltb-true n (length os) h) (get_or os n None) refl
    go false h =
        let past = ltb-false n (length os) h in
        let none : counted (suc n) ≡ counted n = ap (count_by is_some) (take_all (suc n) os (omega (arith, past)) ∙ sym (take_all n os past)) in
        rw (get_or_past os n None past) (omega (arith, none))
