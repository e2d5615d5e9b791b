-- The two questions, which alter nothing: peek gives a page word that has no owner, and owned counts the words with an owner.
-- Assumes nothing.
use Rattle.std.specs.Prelude.{ℕ, ◌+◌, cond, List, [], ◌∷◌, is_some, Some, None, Ok, Err, Option, Result, nat_le}
use Rattle.call.specs.declared.refusal.Refusal.{Refusal}
use Rattle.call.specs.declared.refusal.Refusal.TheVariants.{OutsideBoard, Owned}
use Rattle.word.specs.declared.word.Word.{Word}
use Rattle.rules.specs.State.{Setting, Memory, page_word}
use Rattle.rules.specs.Tables.{first, when, below}

-- the rows of peek, in order
abbrev pub peek_refusal : Setting → Memory → ℕ → Option Refusal
peek_refusal b m word = first (when (nat_le b.size word) OutsideBoard ∷ when (is_some (m.owners word)) Owned ∷ [])

abbrev pub peeked : Option Refusal → Memory → ℕ → Result Word Refusal
peeked None m word = Ok (page_word m word)
peeked (Some r) m word = Err r

abbrev pub peek : Setting → Memory → ℕ → Result Word Refusal
peek b m word = peeked (peek_refusal b m word) m word

-- how many of some words have an owner
abbrev pub owned_among : Memory → List ℕ → ℕ
owned_among m [] = 0
owned_among m (w ∷ ws) = cond {A = ℕ} (is_some (m.owners w)) 1 0 + owned_among m ws

abbrev pub owned : Setting → Memory → ℕ
owned b m = owned_among m (below b.size)
