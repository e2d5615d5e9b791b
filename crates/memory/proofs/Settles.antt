-- Settle goes through the places in turn. What is still to come stands as it stood at the start, so that what is counted at
-- each step is what the rules count. Assumes nothing.
use Rattle.std.proofs.Common.{◌≡◌, ℕ, suc, ◌+◌, ◌/◌, ◌%◌, ◌<◌, ◌≤◌, Bool, true, false, cond, ◌&&◌, List, [], ◌∷◌, ◌++◌, get_or, fold, Option, sym, refl, ap, ◌∙◌, add-one, arith}
use Rattle.std.proofs.lemmas.Nat.{div-add-mod', mod_below}
use Rattle.std.proofs.lemmas.List.Sums.{fold_push}
use Rattle.std.specs.Int.{from_bool}
use Rattle.word.specs.declared.word.Word.{Word}
use Rattle.call.specs.Figures.{Five}
use Rattle.rules.specs.Effects as effect
use Rattle.rules.specs.Effects.{Place, places, tally, write_back}
use Rattle.rules.specs.State.{Memory}
use Rattle.memory.specs.Entries.{copy_in, copy_by, empty}
use Rattle.memory.specs.Owners.{Core, is_registered}
use Rattle.memory.specs.Views.{copies_of, memory_of}
use Rattle.memory.specs.Walks.{place_at, within, walked}
use Rattle.memory.specs.declared.entry.Entry.{Entry}
use Rattle.memory.specs.declared.entry.State.{State}
use Rattle.memory.specs.declared.entry.State.TheVariants.{Invalid, Valid, Registered}
use Rattle.memory.proofs.Views.{copies_at}
use Rattle.memory.proofs.Walks.{walked_in, walked_past, walked_all, tally_more, one_of, one_most}

abbrev pub step : Memory → Place → Memory
step n p = write_back n p.core p.slot

abbrev pub test : Memory → Place → Bool
test m p = effect.is_registered (m.copies p.core p.slot)

-- what holds when the walk has come to a place: m and es as it began, n and fs now
pub record Settling (f : Five) (m n : Memory) (es fs : List Entry) (at count : ℕ) : Type 0 where
  pub written : n ≡ fold step m (walked f at)
  pub counted : count ≡ tally (test m) (walked f at)
  pub small : count ≤ at
  pub rest : (k : ℕ) → at ≤ k → get_or fs k empty ≡ get_or es k empty

registered_copy : (e : Entry) → effect.is_registered (copy_in e) ≡ is_registered e.state
registered_copy e = go e.state
  where
    go : (s : State) → effect.is_registered (copy_by s e.place.number e.word) ≡ is_registered s
    go Invalid = refl
    go Valid = refl
    go Registered = refl

-- the entry at a place is the copy of its core and slot
pub copy_at : (es : List Entry) (at : ℕ) → copies_of es (at / 64) (at % 64) ≡ copy_in (get_or es at empty)
copy_at es at =
    copies_at es (at / 64) (at % 64) (mod_below at 64 (omega arith))
    ∙ ap (λ (k : ℕ). copy_in (get_or es k empty)) (div-add-mod' at 64)

-- one step
pub settling_more : (f g : Five) (ps : List Word) (es fs hs : List Entry) (os : List (Option Core)) (n n' : Memory) (at count : ℕ) (wrote : Bool) → g ≡ f → Settling f (memory_of ps es os) n es fs at count → n' ≡ cond (within g at) (write_back n (at / 64) (at % 64)) n → wrote ≡ (within g at && is_registered (get_or fs at empty).state) → ((k : ℕ) → at < k → get_or hs k empty ≡ get_or fs k empty) → Settling f (memory_of ps es os) n' es hs (at + 1) (count + from_bool wrote)
settling_more f g ps es fs hs os n n' at count wrote gf s ne we re =
    rw add-one (go (within f at) refl)
  where
    m : Memory
    m = memory_of ps es os

    same_test : is_registered (get_or fs at empty).state ≡ test m (place_at at)
    same_test =
        ap (λ (e : Entry). is_registered e.state) (s.rest at (omega arith))
        ∙ (sym (registered_copy (get_or es at empty)) ∙ ap effect.is_registered (sym (copy_at es at)))

    rest_after : (k : ℕ) → suc at ≤ k → get_or hs k empty ≡ get_or es k empty
    rest_after k l = re k (omega arith) ∙ s.rest k (omega arith)

    told : from_bool wrote ≡ cond {A = ℕ} (within g at && is_registered (get_or fs at empty).state) 1 0
    told = one_of wrote ∙ ap (λ (b : Bool). cond {A = ℕ} b 1 0) we

    go : (b : Bool) → within f at ≡ b → Settling f m n' es hs (suc at) (count + from_bool wrote)
    go true e =
        let here : within g at ≡ true = ap (λ (k : Five). within k at) gf ∙ e in
        let made : n' ≡ write_back n (at / 64) (at % 64) = ne ∙ ap (λ (b : Bool). cond b (write_back n (at / 64) (at % 64)) n) here in
        let more : from_bool wrote ≡ cond {A = ℕ} (test m (place_at at)) 1 0 = told ∙ ap (λ (b : Bool). cond {A = ℕ} (b && is_registered (get_or fs at empty).state) 1 0) here ∙ ap (λ (b : Bool). cond {A = ℕ} b 1 0) same_test in
        record {
          written =
              made ∙ ap (λ (k : Memory). write_back k (at / 64) (at % 64)) s.written
              ∙ (sym (fold_push step m (walked f at) (place_at at)) ∙ ap (fold step m) (sym (walked_in f at e)));
          counted =
              let grown = tally_more (test m) (walked f at) (place_at at) in
              let walk : tally (test m) (walked f (suc at)) ≡ tally (test m) (walked f at ++ (place_at at ∷ [])) = ap (tally (test m)) (walked_in f at e) in
              omega (arith, s.counted, grown, walk, more);
          small = omega (arith, one_most wrote, s.small);
          rest = rest_after;
        }
    go false e =
        let here : within g at ≡ false = ap (λ (k : Five). within k at) gf ∙ e in
        let made : n' ≡ n = ne ∙ ap (λ (b : Bool). cond b (write_back n (at / 64) (at % 64)) n) here in
        let more : from_bool wrote ≡ 0 = told ∙ ap (λ (b : Bool). cond {A = ℕ} (b && is_registered (get_or fs at empty).state) 1 0) here in
        record {
          written = made ∙ (s.written ∙ ap (fold step m) (sym (walked_past f at e)));
          counted =
              let walk : tally (test m) (walked f (suc at)) ≡ tally (test m) (walked f at) = ap (tally (test m)) (walked_past f at e) in
              omega (arith, s.counted, walk, more);
          small = omega (arith, one_most wrote, s.small);
          rest = rest_after;
        }

-- where the walk begins
pub settling_none : (f : Five) (m : Memory) (es : List Entry) → Settling f m m es es 0 0
unfolding walked
settling_none f m es = record { written = refl; counted = refl; small = omega arith; rest = λ k h. refl }

-- at its end all places are settled
pub settling_all : (f : Five) (m n : Memory) (es fs : List Entry) (at count : ℕ) → f.slots ≤ 64 → f.cores ≤ 8 → at ≡ 512 → Settling f m n es fs at count → record { answer : count ≡ (effect.settle f m).answer; after : n ≡ (effect.settle f m).memory }
settling_all f m n es fs at count l k e s =
    let all : walked f at ≡ places f = ap (walked f) e ∙ walked_all f l k in
    record { answer = s.counted ∙ ap (tally (test m)) all; after = s.written ∙ ap (fold step m) all }
