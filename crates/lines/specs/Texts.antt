-- How texts are set apart in a line, and how a text is written over bytes. Assumes nothing.
use Rattle.std.specs.Prelude.{◌≡◌, ℕ, ◌+◌, List, [], ◌∷◌, ◌++◌, length, take, drop}

-- the end of a line
abbrev pub newline : List ℕ
newline = 10 ∷ []

-- texts as one line: a single space between two of them, and a newline at the end
abbrev pub spaced : List (List ℕ) → List ℕ
spaced [] = newline
spaced (t ∷ []) = t ++ newline
spaced (t ∷ u ∷ us) = t ++ (32 ∷ spaced (u ∷ us))

-- bytes with a text written over them from a place on; the others keep what they held
unfoldable pub written : List ℕ → ℕ → List ℕ → List ℕ
written bytes at text = take at bytes ++ (text ++ drop (at + length text) bytes)

-- a text was written over bytes from a place on: what the bytes are after it, and the place past it
pub record Wrote (before : List ℕ) (at : ℕ) (text : List ℕ) (after : List ℕ) (end : ℕ) : Type 0 where
  pub bytes : after ≡ written before at text
  pub past : end ≡ at + length text
