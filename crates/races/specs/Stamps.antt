-- The order of stamps that the type of the memory keeps. It stands apart since the type cites it. Assumes nothing.
use Rattle.std.specs.Prelude.{ℕ, Bool, List, nat_le, slice_index_or}
use Rattle.races.specs.Pairs.{nobody}
use Rattle.races.specs.declared.seen.Seen.{Seen}

-- what is remembered of a word that was never accessed
abbrev pub unseen : Seen
unseen = record { stamp = 0; loads = nobody; stores = nobody }

-- what the table has at a word
abbrev pub seen_at : List Seen → ℕ → Seen
seen_at seen word = slice_index_or seen word unseen

-- no word has a stamp above this one
abbrev pub up_to : List Seen → ℕ → ℕ → Bool
up_to seen stamp word = nat_le (seen_at seen word).stamp stamp
