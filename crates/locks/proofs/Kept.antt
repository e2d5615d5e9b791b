-- The locks that are kept: what is asked of them is told by what the core does, since the two are tied. Assumes nothing.
use Rattle.std.proofs.Common.{◌≡◌, ℕ, ◌<◌, ◌≤◌, true, false, length, is_some, Some, None, Option, sym, refl, ◌∙◌, arith}
use Rattle.std.proofs.lemmas.List.{get_or_past}
use Rattle.std.proofs.lemmas.Bool.{false≢true}
use Rattle.rules.specs.Refusals.{waits, holds_some}
use Rattle.rules.specs.State.{free}
use Rattle.locks.specs.Ties.{waiting, holding}
use Rattle.locks.specs.Views.{locks_of, does}
use Rattle.locks.specs.declared.attendance.Attendance.{Attendance}
use Rattle.locks.specs.declared.attendance.Attendance.TheVariants.{Away, Holds, Waits}
use Rattle.locks.specs.declared.table.Locks.{Locks}
use Rattle.locks.proofs.Ties.{room_for}
use Rattle.locks.proofs.Questions.{waits_told, holds_told}

module _ (s : Locks) where
  pub past_seven : (l : ℕ) → 8 ≤ l → locks_of s l ≡ free
  past_seven l h = let n = s.eight_locks in get_or_past s.rows l free (omega arith)

  pub waits_of : (core : ℕ) → waits (locks_of s) core ≡ waiting (does s core)
  waits_of core = waits_told (locks_of s) (does s) core past_seven s.queued s.held

  pub holds_of : (core : ℕ) → holds_some (locks_of s) core ≡ holding (does s core)
  holds_of core = holds_told (locks_of s) (does s) core past_seven s.queued s.held

  -- a core that neither waits nor holds does nothing
  pub neither : (core : ℕ) → waits (locks_of s) core ≡ false → holds_some (locks_of s) core ≡ false → does s core ≡ Away
  neither core w h = go (does s core) (sym w ∙ waits_of core) (sym h ∙ holds_of core)
    where
      go : (d : Attendance) → false ≡ waiting d → false ≡ holding d → d ≡ Away
      go Away p q = refl
      go (Holds held) p q = absurd (false≢true q)
      go (Waits wanted) p q = absurd (false≢true p)

  pub does_past : (c : ℕ) → 8 ≤ c → does s c ≡ Away
  does_past c h = let n = s.eight_cores in get_or_past s.cores c Away (omega arith)

  -- a held lock has room in its queue for a core that does nothing
  pub has_room : (core lock : ℕ) → core < 8 → does s core ≡ Away → is_some (locks_of s lock).holder ≡ true → length (locks_of s lock).queue < 7
  has_room core lock below away h = go (locks_of s lock).holder refl h
    where
      go : (o : Option ℕ) → (locks_of s lock).holder ≡ o → is_some o ≡ true → length (locks_of s lock).queue < 7
      go None e t = absurd (false≢true t)
      go (Some holder) e t = room_for (locks_of s) (does s) core lock s.queued s.held away holder e below does_past
