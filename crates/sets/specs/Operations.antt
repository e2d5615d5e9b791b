-- A signature's own operations: its sets, and what it is after a put, a take in and a clear. Assumes nothing.
use Rattle.std.specs.Prelude.{ℕ}
use Rattle.sets.specs.Sentences.{Sets}

pub record Operations (S : Type 0) : Type 0 where
  -- whether a core's set holds a word
  pub holds : S → Sets
  -- the signature after a word is put into a core's set
  pub put : S → ℕ → ℕ → S
  -- the signature after a core's set has taken in another core's
  pub take_in : S → ℕ → ℕ → S
  -- the signature after a core's set is cleared
  pub clear : S → ℕ → S
