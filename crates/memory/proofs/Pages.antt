-- A page read past its end gives a blank-word word, and the words below a size are unmarked one by one.
-- Assumes nothing.
use Rattle.std.proofs.Common.{◌≡◌, ℕ, zero, suc, ◌+◌, ◌<◌, ◌≤◌, Bool, true, false, cond, ltb, List, [], ◌∷◌, length, get_or, set, Ok, Err, Result, sym, refl, ap, ◌∙◌, add-one, arith}
use Rattle.std.proofs.lemmas.List.{get_or_past}
use Rattle.std.proofs.lemmas.Bool.{ltb-false}
use Rattle.page.specs.Pages.{read_answer, outside}
use Rattle.page.specs.declared.outside.Outside.{Outside}
use Rattle.word.specs.declared.word.Word.{Word}
use Rattle.rules.specs.State.{unmarked, opened}
use Rattle.word.specs.Words.{blank_word}

-- a read that is outside
pub read_past : (page : List Word) (w : ℕ) (x : Word) (e : Outside) → Err e ≡ read_answer page w → x ≡ blank_word → x ≡ get_or page w blank_word
read_past page w x e told is = is ∙ sym (get_or_past page w blank_word (go (ltb w (length page)) refl told))
  where
    go : (b : Bool) → ltb w (length page) ≡ b → ◌≡◌ {A = Result Word Outside} (Err e) (cond b (Ok (get_or page w blank_word)) (Err outside)) → length page ≤ w
    go true h t = let z : ◌≡◌ {A = ℕ} 0 1 = cc in let no_way : ⊥ = omega arith in absurd no_way
    go false h t = ltb-false w (length page) h

-- no word is unmarked yet
pub opened_none : (page : List Word) → page ≡ opened 0 page
opened_none [] = refl
opened_none (x ∷ xs) = refl

-- one more word is unmarked
pub opened_more : (page : List Word) (w : ℕ) → w < length page → set (opened w page) w (unmarked (get_or (opened w page) w blank_word)) ≡ opened (suc w) page
opened_more [] w h = let no_way : ⊥ = omega arith in absurd no_way
opened_more (x ∷ xs) zero h = ap (λ (l : List Word). unmarked x ∷ l) (opened_none xs)
opened_more (x ∷ xs) (suc w) h = ap (λ (l : List Word). unmarked x ∷ l) (opened_more xs w (omega arith))

-- the step of the loop
pub opened_step : (page now after : List Word) (w : ℕ) → w < length page → now ≡ opened w page → after ≡ set now w (unmarked (get_or now w blank_word)) → after ≡ opened (w + 1) page
opened_step page now after w h e s =
    s
    ∙ (ap (λ (l : List Word). set l w (unmarked (get_or l w blank_word))) e ∙ (opened_more page w h ∙ ap (λ (k : ℕ). opened k page) (sym (add-one w))))
