-- Ten cases of the rules in one table, and what each says. Each stands on a fresh board of 2 cores, 4 slots, 8 words, strips of
-- 4 words and an allowance of 10 stores, unless it names other figures. Assumes nothing.
use Rattle.std.specs.Prelude.{◌≡◌, ℕ, Bool, true, false, List, [], ◌∷◌, map, Ok, Err, fold, Result}
use Rattle.call.specs.Figures.{Five, five, checked}
use Rattle.call.specs.Told.{told, answer_told, figure_number}
use Rattle.call.specs.declared.answer.Told.{Told}
use Rattle.call.specs.declared.call.Call.{Call}
use Rattle.call.specs.declared.call.Call.TheVariants.{Load, Store, Acquire, Phase}
use Rattle.call.specs.declared.fault.FigureFault.{FigureFault}
use Rattle.sets.specs.Fills.{fill}
use Rattle.sets.specs.Rows.{bits_put, words_of_bits}
use Rattle.sets.specs.Sentences.{Sets}
use Rattle.word.specs.Lawful.{lawful}
use Rattle.rules.specs.Questions.{owned}
use Rattle.rules.specs.Signed.{played, no_bits, zero_page}
use Rattle.rules.specs.State.{setting}

pub data Case : Type 0 where
  -- calls on a fresh board, and what their answers tell
  answers : Five → List Call → List Told → Case
  -- calls on a fresh board, and how many words then have an owner
  owns : Five → List Call → ℕ → Case
  -- a number, and whether it is a mark
  marks : ℕ → Bool → Case
  -- words put for core 0 into a Bloom signature, its fill, and a word with whether it is in
  blooms : List ℕ → ℕ → ℕ → Bool → Case
  -- figures, and the number of their refusal, 0 if accepted
  figures : Five → ℕ → Case

abbrev pub refusal_number : Result Five FigureFault → ℕ
refusal_number (Ok f) = 0
refusal_number (Err e) = figure_number e

abbrev pub with_words : List ℕ → Sets
with_words ws = fold (λ bits w. bits_put bits 0 w) no_bits ws

abbrev pub Says : Case → Type 0
Says (answers f calls expected) = map answer_told (played f calls).answers ≡ expected
Says (owns f calls n) = owned (setting f (zero_page f)) (played f calls).state.memory ≡ n
Says (marks n yes_or_no) = lawful n ≡ yes_or_no
Says (blooms ws n w in_or_not) = (fill (with_words ws) 0 ≡ n) × (words_of_bits (with_words ws) 0 w ≡ in_or_not)
Says (figures f n) = refusal_number (checked f) ≡ n

abbrev pub AllSay : List Case → Type 0
AllSay [] = Unit {0}
AllSay (c ∷ cs) = Says c × AllSay cs

abbrev pub sample : Five
sample = five 2 4 8 4 10

abbrev pub cases : List Case
cases =
    -- a load comes from the page, and again from the core's own copy
    answers sample (Load 0 3 ∷ Load 0 3 ∷ []) (told 0 1 0 0 ∷ told 0 0 0 0 ∷ [])
    -- the last word loads, the one after it is outside
    ∷ answers sample (Load 0 7 ∷ Load 0 8 ∷ []) (told 0 1 0 0 ∷ told 2 0 0 0 ∷ [])
    -- in a written strip a store after another core's load is a race with that load
    ∷ answers sample (Phase 1 ∷ Load 0 2 ∷ Store 1 2 9 ∷ []) (told 0 0 0 0 ∷ told 0 1 0 0 ∷ told 6 0 0 0 ∷ [])
    -- a load into the slot of a registered word sends that word home
    ∷ answers sample (Phase 1 ∷ Store 0 1 9 ∷ Load 0 5 ∷ []) (told 0 0 0 0 ∷ told 0 1 0 1 ∷ told 0 1 0 0 ∷ [])
    ∷ owns sample (Phase 1 ∷ Store 0 1 9 ∷ Load 0 5 ∷ []) 0
    -- in the next phase another core may store the word, and takes it from its owner
    ∷ answers sample (Phase 1 ∷ Store 0 1 9 ∷ Phase 1 ∷ Store 1 1 8 ∷ []) (told 0 0 0 0 ∷ told 0 1 0 1 ∷ told 0 0 0 0 ∷ told 0 2 0 1048577 ∷ [])
    -- an allowance of two stores
    ∷ answers (five 2 4 8 4 2) (Phase 1 ∷ Store 0 1 5 ∷ Store 0 1 6 ∷ Store 0 1 7 ∷ []) (told 0 0 0 0 ∷ told 0 1 0 1 ∷ told 0 0 0 2 ∷ told 7 0 0 0 ∷ [])
    -- lock 7 is the last
    ∷ answers sample (Acquire 0 7 ∷ Acquire 0 8 ∷ []) (told 0 0 0 0 ∷ told 8 0 0 0 ∷ [])
    -- core 7's last mark, the number above it, and core 1 with count 0
    ∷ marks 8340032 true
    ∷ marks 8340033 false
    ∷ marks 1048576 false
    -- two words share a bit, and a third word is not in
    ∷ blooms (0 ∷ 1 ∷ []) 3 257 false
    -- sixteen strips of four words hold 64 words and no more
    ∷ figures (five 2 4 64 4 10) 0
    ∷ figures (five 2 4 65 4 10) 17
    ∷ []
