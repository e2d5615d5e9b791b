-- The verdict on a job, from what was opened: figures where all calls have room, else the fault. Assumes nothing.
use Rattle.std.proofs.Common.{◌≡◌, ℕ, ◌≤◌, Bool, true, false, cond, ltb, List, length, Ok, Err, Result, sym, refl, ap, ◌∙◌, arith}
use Rattle.std.proofs.lemmas.Bool.{ltb-false}
use Rattle.call.specs.Figures.{Five}
use Rattle.call.specs.declared.call.Call.{Call}
use Rattle.call.specs.declared.fault.JobFault.{JobFault}
use Rattle.call.specs.declared.fault.JobFault.TheVariants.{Table}
use Rattle.job.specs.Jobs.{figures_read, calls_read}
use Rattle.job.specs.Reading.{Says}
use Rattle.play.specs.Playing.{with_room, checked_with}

-- a job whose check passes says its figures and its calls, and the table has room
pub record Accepted (r : Result Says JobFault) (f : Five) (room : ℕ) : Type 0 where
  pub what : Says
  pub verdict : with_room r room ≡ Ok what
  pub figures : f ≡ what.figures
  pub calls : calls_read r ≡ what.calls
  pub room_enough : length (calls_read r) ≤ room

pub accepted : (r : Result Says JobFault) (f : Five) (room : ℕ) → Ok f ≡ checked_with (figures_read r) (calls_read r) room → Accepted r f room
accepted (Err e) f room told = grind arith
accepted (Ok s) f room told = go (ltb room (length s.calls)) refl told
  where
    go : (b : Bool) → ltb room (length s.calls) ≡ b → Ok f ≡ cond b (Err Table) (Ok s.figures) → Accepted (Ok s) f room
    go true short t = grind arith
    go false long t =
        record {
          what = s;
          verdict = ap (λ (b : Bool). cond b (Err Table) (Ok s)) long;
          figures = cc;
          calls = refl;
          room_enough = ltb-false room (length s.calls) long;
        }

-- a job whose check fails has that fault
pub refused : (r : Result Says JobFault) (e : JobFault) (room : ℕ) → Err e ≡ checked_with (figures_read r) (calls_read r) room → with_room r room ≡ Err e
refused (Err d) e room told = let same : e ≡ d = cc in ap Err (sym same)
refused (Ok s) e room told = go (ltb room (length s.calls)) refl told
  where
    go : (b : Bool) → ltb room (length s.calls) ≡ b → Err e ≡ cond b (Err Table) (Ok s.figures) → with_room (Ok s) room ≡ Err e
    go true short t = let same : e ≡ Table = cc in ap (λ (b : Bool). cond b (Err Table) (Ok s)) short ∙ ap Err (sym same)
    go false long t = grind arith

-- what was opened stands for what was read
pub opened_as : (found : Result Five JobFault) (f g : Result Five JobFault) (cs ds : List Call) (room : ℕ) → f ≡ g → cs ≡ ds → found ≡ checked_with f cs room → found ≡ checked_with g ds room
opened_as found f g cs ds room e k told = told ∙ (λ i. checked_with (e i) (k i) room)
