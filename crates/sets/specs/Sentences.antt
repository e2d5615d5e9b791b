-- What every signature keeps: the sentences about put, take in and clear, as relations between the sets before and the
-- sets after. Laws of runs cite these alone. Assumes nothing.
use Rattle.std.specs.Prelude.{◌≡◌, ℕ, ◌<◌, Bool, true, ◌≢◌}

-- what a signature means: for each core the set of its words, as a test of (core, word)
abbrev pub Sets : Type 0
Sets = ℕ → ℕ → Bool

-- the ranges: a core 0 to 7 and a word 0 to 4,095
abbrev pub InRange : ℕ → ℕ → Type 0
InRange core word = (core < 8) × (word < 4096)

-- no set of any core is altered
abbrev pub Unaltered : Sets → Sets → Type 0
Unaltered before after = (d v : ℕ) → after d v ≡ before d v

-- the sets of all cores but one are unaltered
abbrev pub OthersUnaltered : Sets → Sets → ℕ → Type 0
OthersUnaltered before after core = (d v : ℕ) → (d ≢ core) → after d v ≡ before d v

-- nothing is held outside the ranges
abbrev pub Bounded : Sets → Type 0
Bounded sets = (d v : ℕ) → sets d v ≡ true → InRange d v

-- every word that the first sets hold for a core the second hold for it too
abbrev pub Within : Sets → Sets → Type 0
Within small large = (d v : ℕ) → small d v ≡ true → large d v ≡ true

-- put: the core's set holds the word and all it held, the other cores' sets are unaltered; outside the ranges no set is altered
pub record Put (before after : Sets) (core word : ℕ) : Type 0 where
  pub named : InRange core word → after core word ≡ true
  pub kept : (v : ℕ) → before core v ≡ true → after core v ≡ true
  pub others : OthersUnaltered before after core
  pub outside : (InRange core word → ⊥) → Unaltered before after

-- take in: the core's set holds all it held and all that the other core's set holds, the other cores' sets are unaltered; with
-- either core out of range no set is altered
pub record TakenIn (before after : Sets) (core other : ℕ) : Type 0 where
  pub taken : core < 8 → other < 8 → (v : ℕ) → before other v ≡ true → after core v ≡ true
  pub kept : (v : ℕ) → before core v ≡ true → after core v ≡ true
  pub others : OthersUnaltered before after core
  pub outside : ((core < 8) × (other < 8) → ⊥) → Unaltered before after

-- clear: nothing is added to the core's set, the other cores' sets are unaltered; with the core out of range no set is altered
pub record Cleared (before after : Sets) (core : ℕ) : Type 0 where
  pub no_more : (v : ℕ) → after core v ≡ true → before core v ≡ true
  pub others : OthersUnaltered before after core
  pub outside : (core < 8 → ⊥) → Unaltered before after
