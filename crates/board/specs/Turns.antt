-- What becomes of a lock that is asked for or put down: whose signature is taken in, and what the answer tells. Assumes nothing.
use Rattle.std.specs.Prelude.{ℕ, ◌+◌, List, [], ◌∷◌, Some, None, Option}
use Rattle.locks.specs.declared.grant.Grant.{Grant}
use Rattle.locks.specs.declared.grant.Grant.TheVariants.{Granted, Queued}
use Rattle.rules.specs.Steps.{Change, take_in, takes_from}

-- a core that is granted a lock takes in its last releaser's signature, if there is one
abbrev pub taken_on : Grant → ℕ → List Change
taken_on (Granted last) core = takes_from last core
taken_on Queued core = []

-- what the acquire answers: 0 granted, 1 queued
abbrev pub grant_number : Grant → ℕ
grant_number (Granted last) = 0
grant_number Queued = 1

-- the core that a lock passes to, if there is one, takes in the releaser's signature
abbrev pub handed_on : Option ℕ → ℕ → List Change
handed_on None core = []
handed_on (Some next) core = take_in next core ∷ []

-- what the release answers: that core and one, or 0
abbrev pub passed_number : Option ℕ → ℕ
passed_number None = 0
passed_number (Some next) = next + 1
