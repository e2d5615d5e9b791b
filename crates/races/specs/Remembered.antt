-- What the memory means: of each word the first loaders and the first storers of this phase; and that this tells, for every core,
-- the earliest access by another core in a list of accesses. Assumes nothing.
use Rattle.std.specs.Prelude.{◌≡◌, ℕ, ◌<◌, cond, List, ◌==◌}
use Rattle.call.specs.declared.refusal.Access.{Access}
use Rattle.call.specs.declared.refusal.Access.TheVariants.{Load, Store}
use Rattle.rules.specs.Refusals.{earliest}
use Rattle.rules.specs.State.{Accessed}
use Rattle.races.specs.Pairs.{nobody, noted, other_than}
use Rattle.races.specs.Stamps.{seen_at}
use Rattle.races.specs.declared.pair.Pair.{Pair}
use Rattle.races.specs.declared.races.Races.{Races}
use Rattle.races.specs.declared.seen.Seen.{Seen}

abbrev pub pair_of : Seen → Access → Pair
pair_of s Load = s.loads
pair_of s Store = s.stores

-- what is remembered of a word: nothing, unless it has this phase's stamp
abbrev pub current : Seen → ℕ → Access → Pair
current s stamp access = cond (s.stamp == stamp) (pair_of s access) nobody

abbrev pub remembered_in : List Seen → ℕ → Access → ℕ → Pair
remembered_in seen stamp access word = current (seen_at seen word) stamp access

abbrev pub remembered : Races → Access → ℕ → Pair
remembered r access word = remembered_in r.seen r.stamp access word

-- a table tells the earliest access by another core, as a list of accesses has it, of every word of the table
abbrev pub Tells : List Seen → ℕ → List Accessed → Type 0
Tells seen stamp accesses =
    (access : Access) (core word : ℕ) → word < 4096 → other_than (remembered_in seen stamp access word) core ≡ earliest access core word accesses

abbrev pub Remembers : Races → List Accessed → Type 0
Remembers r accesses = Tells r.seen r.stamp accesses

-- a word's memory after an access of a core
abbrev pub noted_in : Access → Seen → ℕ → Seen
noted_in Load s core = record { stamp = s.stamp; loads = noted s.loads core; stores = s.stores }
noted_in Store s core = record { stamp = s.stamp; loads = s.loads; stores = noted s.stores core }
