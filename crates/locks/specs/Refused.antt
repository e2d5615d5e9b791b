-- Why both acquire and release are refused, and what a call answers and leaves where it may be refused. Assumes nothing.
use Rattle.std.specs.Prelude.{ℕ, List, ◌∷◌, Some, None, Ok, Err, Option, Result, nat_le}
use Rattle.call.specs.declared.refusal.Refusal.{Refusal}
use Rattle.call.specs.declared.refusal.Refusal.TheVariants.{NoCore, Waiting, NoLock}
use Rattle.rules.specs.Refusals.{waits}
use Rattle.rules.specs.State.{Lock}
use Rattle.rules.specs.Tables.{when}

-- the rows that acquire and release begin with, in order, and then those of the call alone
abbrev pub common_rows : (ℕ → Lock) → ℕ → ℕ → List (Option Refusal) → List (Option Refusal)
common_rows locks core lock own =
    when (nat_le 8 core) NoCore
    ∷ when (waits locks core) Waiting
    ∷ when (nat_le 8 lock) NoLock
    ∷ own

-- a refusal where there is one, else the answer
abbrev pub answered : {X : Type 0} → Option Refusal → X → Result X Refusal
answered None x = Ok x
answered (Some refusal) x = Err refusal

-- a refusal leaves the locks as they stood
abbrev pub left : Option Refusal → (ℕ → Lock) → (ℕ → Lock) → ℕ → Lock
left None before after = after
left (Some refusal) before after = before
