-- The first core that made an access, and the first other than it: all that is needed to name the earliest access by a core
-- other than any given one. Assumes nothing.
use Rattle.std.specs.Prelude.{ℕ, cond, Some, None, Option, ◌==◌}
use Rattle.races.specs.declared.pair.Pair.{Pair}

abbrev pub pair : Option ℕ → Option ℕ → Pair
pair first second = record { first = first; second = second }

-- nobody yet
abbrev pub nobody : Pair
nobody = pair None None

abbrev pub second_by : Option ℕ → ℕ → ℕ → Pair
second_by None first core = pair (Some first) (Some core)
second_by (Some second) first core = pair (Some first) (Some second)

abbrev pub noted_by : Option ℕ → Option ℕ → ℕ → Pair
noted_by None second core = pair (Some core) None
noted_by (Some first) second core = cond (first == core) (pair (Some first) second) (second_by second first core)

-- the pair after an access by a core: a newcomer is kept while there is room for it
abbrev pub noted : Pair → ℕ → Pair
noted p core = noted_by p.first p.second core

abbrev pub other_by : Option ℕ → Option ℕ → ℕ → Option ℕ
other_by None second core = None
other_by (Some first) second core = cond (first == core) second (Some first)

-- the earliest core other than this one
abbrev pub other_than : Pair → ℕ → Option ℕ
other_than p core = other_by p.first p.second core
