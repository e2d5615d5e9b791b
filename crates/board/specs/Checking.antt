-- The rows of load and of store that look at the mode of the word's strip. Assumes nothing.
use Rattle.std.specs.Prelude.{ℕ, List, [], ◌∷◌, Option}
use Rattle.call.specs.declared.refusal.Refusal.{Refusal}
use Rattle.call.specs.declared.refusal.Refusal.TheVariants.{ReadOnly, NotHolder}
use Rattle.rules.specs.Plans.{Mode, is_read_only}
use Rattle.rules.specs.Refusals.{shut_out, load_race, store_race}
use Rattle.rules.specs.State.{Accessed, Lock}
use Rattle.rules.specs.Tables.{when}

module _ (mode : Mode) (locks : ℕ → Lock) (accesses : List Accessed) (core word : ℕ) where
  abbrev pub load_rows : List (Option Refusal)
  load_rows = when (shut_out locks mode core) NotHolder ∷ load_race mode accesses core word ∷ []

  abbrev pub store_rows : List (Option Refusal)
  store_rows =
      when (is_read_only mode) ReadOnly ∷ when (shut_out locks mode core) NotHolder ∷ store_race mode accesses core word ∷ []
