-- A board just opened: checked figures give the limits that the proofs use, and the invariant holds. Assumes nothing.
use Rattle.std.proofs.Common.{◌≡◌, ℕ, zero, suc, ◌<◌, Bool, true, false, cond, leb, List, [], ◌∷◌, length, get_or, Ok, Err, Result, refl, ap, arith}
use Rattle.std.proofs.lemmas.Bool.{and_parts, leb-true, both_ways}
use Rattle.call.specs.Figures.{Five, checked}
use Rattle.call.specs.Rows.{passes_cores, passes_slots, passes_words, passes_strip, passes_allowance}
use Rattle.call.specs.declared.fault.FigureFault.TheVariants.{Cores, Slots, Words, Strip, Allowance}
use Rattle.sets.specs.Sentences.{Sets}
use Rattle.word.specs.declared.word.Word.{Word}
use Rattle.rules.specs.State.{setting, size_of, opening, opened, unmarked}
use Rattle.word.specs.Words.{blank_word}
use Rattle.rules.proofs.Invariant.{Fits, Good}
use Rattle.rules.proofs.Walking.{Moment}

-- a result that is accepted passed its test
pub passed : {X Y : Type 0} (t : Bool) (r : Result X Y) (y : Y) (x : X) → cond t r (Err y) ≡ Ok x → (t ≡ true) × (r ≡ Ok x)
passed true r y x e = (refl, e)
passed false r y x e = absurd cc

-- opening keeps the length and every value, and takes the marks off below the size
pub opened_length : (n : ℕ) (page : List Word) → length (opened n page) ≡ length page
opened_length n [] = refl
opened_length zero (x ∷ xs) = refl
opened_length (suc n) (x ∷ xs) = ap suc (opened_length n xs)

pub opened_at : (n : ℕ) (page : List Word) (w : ℕ) → w < n → get_or (opened n page) w blank_word ≡ unmarked (get_or page w blank_word)
opened_at n [] w l = refl
opened_at zero (x ∷ xs) w l = absurd (omega arith)
opened_at (suc n) (x ∷ xs) zero l = refl
opened_at (suc n) (x ∷ xs) (suc w) l = opened_at n xs w (omega arith)

module _ (f : Five) (page : List Word) (ok : checked f ≡ Ok f) where
  pub fits : Fits (setting f page)
  fits =
      let p1 = passed (passes_cores f.cores) _ Cores f ok in
      let p2 = passed (passes_slots f.slots) _ Slots f p1.1 in
      let p3 = passed (passes_words f.words) _ Words f p2.1 in
      let p4 = passed (passes_strip f.words f.strip) _ Strip f p3.1 in
      let p5 = passed (passes_allowance f.allowance) _ Allowance f p4.1 in
      let few = leb-true f.words 4096 (and_parts (leb 1 f.words) (leb f.words 4096) p3.0).1 in
      record {
        cores = leb-true f.cores 8 (and_parts (leb 1 f.cores) (leb f.cores 8) p1.0).1;
        size = omega arith;
        slots = leb-true 1 f.slots (and_parts (leb 1 f.slots) (leb f.slots 64) p2.0).0;
        allowance = leb-true f.allowance 1000000 (and_parts (leb 1 f.allowance) (leb f.allowance 1000000) p5.0).1;
      }

  opening_good : (g : Sets) → Good (setting f page) (λ w. get_or (opened (size_of f page) page) w blank_word) (opening f page) g
  opening_good g =
      record {
        sound =
            record {
              owned = λ w c e. absurd cc;
              mine = λ c i w x e. grind arith;
              stands = λ c i w x e. grind arith;
              home = λ w e. refl;
              seen = λ c w x e. grind arith;
            };
        phased =
            record {
              still = λ w d m e. both_ways false refl e;
              covered = λ w d lock m e. absurd (both_ways false refl e);
              cores = λ lock. record { holder = λ c e. absurd cc; queue = λ c h. absurd h; last = λ c e. absurd cc };
            };
        long = rw opened_length (omega arith);
      }

  pub opening_moment : (g : Sets) → Moment (setting f page) fits (λ w. get_or page w blank_word) [] (opening f page) g
  opening_moment g =
      record {
        now = λ w. get_or (opened (size_of f page) page) w blank_word;
        good = opening_good g;
        told = record { ledger = refl; counts = λ w c. refl; fresh = λ w l. opened_at (size_of f page) page w l; lawful = λ w s e. grind arith };
      }
