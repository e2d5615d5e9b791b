-- That the memory of this phase's accesses is that of some list of accesses. It stands apart since the type of a board cites it.
-- Assumes nothing.
use Rattle.std.specs.Prelude.{List}
use Rattle.races.specs.Remembered.{Remembers}
use Rattle.races.specs.declared.races.Races.{Races}
use Rattle.rules.specs.State.{Accessed}

-- some list of accesses is remembered
abbrev pub RemembersSome : Races → Type 0
RemembersSome races = ∥ ((accesses : List Accessed) × Remembers races accesses) ∥₁
