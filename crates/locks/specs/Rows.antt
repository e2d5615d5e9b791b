-- What an acquire and a release of one lock answer. Assumes nothing.
use Rattle.std.specs.Prelude.{ℕ, List, [], ◌∷◌, Some, None, Option}
use Rattle.rules.specs.State.{Lock}
use Rattle.locks.specs.declared.grant.Grant.{Grant}
use Rattle.locks.specs.declared.grant.Grant.TheVariants.{Granted, Queued}

-- what an acquire is answered: a free lock is granted, with its last releaser, and for a held lock the core is queued
abbrev pub granted : Option ℕ → Lock → Grant
granted None lock = Granted lock.last
granted (Some holder) lock = Queued

-- the core that a released lock passes to: the first in the queue, if there is one
abbrev pub passed_to : List ℕ → Option ℕ
passed_to [] = None
passed_to (next ∷ more) = Some next
