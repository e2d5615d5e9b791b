-- Why a load and a store are refused, row by row: the place, whether the core waits, the strip's mode, the allowance. Assumes nothing.
use Rattle.std.proofs.Common.{◌≡◌, ℕ, List, ◌∷◌, ◌++◌, Some, None, Ok, Err, Option, Result, ap, ◌∙◌, nat_le}
use Rattle.std.specs.Result.{IsErrAnd}
use Rattle.call.specs.Figures.{figures}
use Rattle.call.specs.declared.call.Call.TheVariants.{Evict, Store}
use Rattle.call.specs.declared.refusal.Refusal.{Refusal}
use Rattle.call.specs.declared.refusal.Refusal.TheVariants.{Waiting, AllowanceSpent}
use Rattle.locks.specs.Views.{locks_of}
use Rattle.rules.specs.Plans.{mode_of}
use Rattle.rules.specs.Refusals.{refusal, rows, waits}
use Rattle.rules.specs.State.{Accessed}
use Rattle.rules.specs.Tables.{first, when}
use Rattle.board.specs.Checking.{store_rows}
use Rattle.board.specs.Obeying.{refused_by}
use Rattle.board.specs.Views.{setting_of, ledger_of, counts_of}
use Rattle.board.specs.declared.board.Board.{Board}
use Rattle.board.proofs.Checks.{first_met, first_past, row_met, row_past, row_last}

-- the exit of a `?` gives back its refusal
pub exit_told : {X : Type 0} (a : Result X Refusal) (r : Refusal) → IsErrAnd a (λ e. e ≡ r) → refused_by a ≡ Some r
exit_told (Ok x) r exit = absurd exit
exit_told (Err e) r exit = ap Some exit

module _ {P S : Type 0} (b : Board P S) (accesses : List Accessed) (core word : ℕ) where
  abbrev place : List (Option Refusal)
  place = rows (setting_of b) (ledger_of b accesses) (Evict core word)

  abbrev waiting : Option Refusal
  waiting = when (waits (locks_of b.locks) core) Waiting

  abbrev mode_rows : List (Option Refusal)
  mode_rows = store_rows (mode_of (figures b.memory.figures) b.plan word) (locks_of b.locks) accesses core word

  pub place_met : (r : Refusal) (ys : List (Option Refusal)) → Some r ≡ first place → Some r ≡ first (place ++ ys)
  place_met r ys e = first_met place ys r e

  module _ (placed : None ≡ first place) where
    pub waiting_met : (r : Refusal) (ys : List (Option Refusal)) → Some r ≡ waiting → Some r ≡ first (place ++ (waiting ∷ ys))
    waiting_met r ys e = row_met waiting ys r e ∙ first_past place (waiting ∷ ys) placed

    pub waiting_past : (ys : List (Option Refusal)) → None ≡ waiting → first ys ≡ first (place ++ (waiting ∷ ys))
    waiting_past ys e = row_past waiting ys e ∙ first_past place (waiting ∷ ys) placed

    module _ (value : ℕ) (free : None ≡ waiting) where
      pub mode_met : (r : Refusal) → Some r ≡ first mode_rows → Some r ≡ refusal (setting_of b) (ledger_of b accesses) (Store core word value)
      mode_met r e = first_met mode_rows _ r e ∙ waiting_past _ free

      -- beyond the mode only the allowance is left
      pub mode_past : None ≡ first mode_rows → when (nat_le (figures b.memory.figures).allowance (counts_of b.counts core)) AllowanceSpent ≡ refusal (setting_of b) (ledger_of b accesses) (Store core word value)
      mode_past e = row_last _ ∙ (first_past mode_rows _ e ∙ waiting_past _ free)
