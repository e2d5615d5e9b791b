-- Acquire and release: the board has checked the core against its figures, and the locks check the rest. Assumes nothing.
use Rattle.std.proofs.Common.{◌≡◌, ℕ, ◌<◌, false, not, leb, List, [], ◌∷◌, Some, None, Ok, Err, Option, sym, refl, ap, ◌∙◌, subst, arith}
use Rattle.std.proofs.lemmas.Bool.{lt-leb}
use Rattle.call.specs.declared.refusal.Refusal.{Refusal}
use Rattle.call.specs.declared.refusal.Refusal.TheVariants.{NoCore, Waiting, NoLock, HoldsLock, NotHeld}
use Rattle.locks.specs.Acquire.{acquire_rows}
use Rattle.locks.specs.Refused.{answered, left}
use Rattle.locks.specs.Release.{release_rows}
use Rattle.locks.specs.Rows.{granted, passed_to}
use Rattle.locks.specs.declared.grant.Grant.{Grant}
use Rattle.rules.specs.Refusals.{waits, holds, holds_some}
use Rattle.rules.specs.State.{Lock}
use Rattle.rules.specs.Steps.{granted_changes, handed_changes, queued_answer, passed_answer}
use Rattle.rules.specs.Tables.{first, when}
use Rattle.board.specs.Turns.{taken_on, grant_number, handed_on, passed_number}
use Rattle.board.proofs.Checks.{row_past}

-- two readings of whether there is such a core, both passed, and the same rows after
pub same_rows : (cores core : ℕ) (rest : List (Option Refusal)) → core < 8 → None ≡ when (leb cores core) NoCore → first (when (leb 8 core) NoCore ∷ rest) ≡ first (when (leb cores core) NoCore ∷ rest)
same_rows cores core rest less passed =
    let within : leb 8 core ≡ false = lt-leb 8 core less in
    sym (row_past (when (leb 8 core) NoCore) rest (sym (ap (λ b. when b NoCore) within))) ∙ row_past (when (leb cores core) NoCore) rest passed

module _ (locks : ℕ → Lock) (cores core lock : ℕ) (less : core < 8) (passed : None ≡ when (leb cores core) NoCore) where
  -- why the locks refuse an acquire, and a release, is why the rules do
  pub acquire_told : first (acquire_rows locks core lock) ≡ first (when (leb cores core) NoCore ∷ when (waits locks core) Waiting ∷ when (leb 8 lock) NoLock ∷ when (holds_some locks core) HoldsLock ∷ [])
  acquire_told = same_rows cores core (when (waits locks core) Waiting ∷ when (leb 8 lock) NoLock ∷ when (holds_some locks core) HoldsLock ∷ []) less passed

  pub release_told : first (release_rows locks core lock) ≡ first (when (leb cores core) NoCore ∷ when (waits locks core) Waiting ∷ when (leb 8 lock) NoLock ∷ when (not (holds locks core lock)) NotHeld ∷ [])
  release_told = same_rows cores core (when (waits locks core) Waiting ∷ when (leb 8 lock) NoLock ∷ when (not (holds locks core lock)) NotHeld ∷ []) less passed

module _ {X : Type 0} where
  -- what an answer tells of the rows, and of what it gives
  pub told_err : (o : Option Refusal) (x : X) (r : Refusal) → Err r ≡ answered o x → Some r ≡ o
  told_err None x r e = grind arith
  told_err (Some s) x r e = cc

  pub told_ok : (o : Option Refusal) (x y : X) → Ok y ≡ answered o x → (None ≡ o) × (y ≡ x)
  told_ok None x y e = (refl, cc)
  told_ok (Some s) x y e = grind arith

-- what is left where the rows are known
pub left_refused : (o : Option Refusal) (r : Refusal) (before after : ℕ → Lock) → Some r ≡ o → left o before after ≡ before
left_refused o r before after e = subst (λ (p : Option Refusal). left p before after ≡ before) e refl

pub left_done : (o : Option Refusal) (before after : ℕ → Lock) → None ≡ o → left o before after ≡ after
left_done o before after e = subst (λ (p : Option Refusal). left p before after ≡ after) e refl

-- what is granted tells whether the lock was free, and its last releaser
pub grant_tells : (holder : Option ℕ) (lock : Lock) (grant : Grant) (core : ℕ) → grant ≡ granted holder lock → (grant_number grant ≡ queued_answer holder) × (taken_on grant core ≡ granted_changes holder lock core)
grant_tells None lock grant core e = (ap grant_number e, ap (λ (x : Grant). taken_on x core) e)
grant_tells (Some h) lock grant core e = (ap grant_number e, ap (λ (x : Grant). taken_on x core) e)

-- the core that a lock passes to is the first in its queue
pub passed_tells : (queue : List ℕ) (next : Option ℕ) (core : ℕ) → next ≡ passed_to queue → (passed_number next ≡ passed_answer queue) × (handed_on next core ≡ handed_changes queue core)
passed_tells queue next core e =
    (ap passed_number e ∙ number queue, ap (λ (o : Option ℕ). handed_on o core) e ∙ changes queue)
  where
    number : (q : List ℕ) → passed_number (passed_to q) ≡ passed_answer q
    number [] = refl
    number (n ∷ q) = refl

    changes : (q : List ℕ) → handed_on (passed_to q) core ≡ handed_changes q core
    changes [] = refl
    changes (n ∷ q) = refl
