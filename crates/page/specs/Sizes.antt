-- Why no page has more than 4,096 words: the facts that the stores give as members stand here, since a store's member
-- may cite only what stands beside its definitions. Assumes nothing.
use Rattle.std.specs.Prelude.{◌≡◌, ℕ, ◌≤◌, List, length}
use Rattle.std.proofs.Common.{arith}
use Rattle.std.proofs.lemmas.List.FromFn.{length-map-range_with_len}
use Rattle.word.specs.declared.word.Word.{Word}
use Rattle.page.specs.ByteWords.{byte_words}
use Rattle.page.specs.Slots.{Slot, laid}

-- a list of a known length has at most that many elements
pub at_most : {X : Type 0} (xs : List X) (n : ℕ) → length xs ≡ n → length xs ≤ n
at_most xs n e = omega arith

-- bytes spell at most 4,096 words
pub bytes_at_most : (bytes : List ℕ) → length (byte_words bytes) ≤ 4096
bytes_at_most bytes = simp length-map-range_with_len (omega arith)

-- a bank has as many words as the list below
pub laid_at_most : (slots : List Slot) (below : List Word) → length below ≤ 4096 → length (laid slots below) ≤ 4096
laid_at_most slots below h = simp length-map-range_with_len h
