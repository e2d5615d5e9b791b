-- The walk through all entries, one by one, over the slots that a board's figures give its cores. Assumes nothing.
use Rattle.std.specs.Prelude.{ℕ, zero, suc, ◌/◌, ◌%◌, Bool, cond, ◌&&◌, List, [], ◌∷◌, ◌++◌, nat_lt}
use Rattle.call.specs.Figures.{Five}
use Rattle.rules.specs.Effects.{Place}

-- the core and the slot of an entry's place among all entries
abbrev pub place_at : ℕ → Place
place_at at = record { core = at / 64; slot = at % 64 }

-- whether the figures have this core and this slot
abbrev pub within : Five → ℕ → Bool
within f at = nat_lt (at / 64) f.cores && nat_lt (at % 64) f.slots

-- the places below a number that the figures have, rising
unfoldable pub walked : Five → ℕ → List Place
walked f zero = []
walked f (suc at) = walked f at ++ cond (within f at) (place_at at ∷ []) []
