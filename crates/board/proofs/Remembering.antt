-- The memory of accesses stays that of some list: where it keeps up with a list that grows. Assumes nothing.
use Rattle.std.proofs.Common.{List}
use Rattle.std.proofs.Math.Logic.{∥∥₁_map}
use Rattle.races.specs.Remembered.{Remembers}
use Rattle.races.specs.declared.races.Races.{Races}
use Rattle.rules.specs.State.{Accessed}
use Rattle.board.specs.Memories.{RemembersSome}

-- a memory that keeps up with what each remembered list becomes
pub some_kept : (before after : Races) (longer : List Accessed → List Accessed) → ((accesses : List Accessed) → Remembers before accesses → Remembers after (longer accesses)) → RemembersSome before → RemembersSome after
some_kept before after longer keeps some = ∥∥₁_map some (λ p. (longer p.0, keeps p.0 p.1))
