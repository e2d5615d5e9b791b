-- The calls of a job read one after another: a call that is read is the next of them, and where none is left all were read.
-- Assumes nothing.
use Rattle.std.proofs.Common.{◌≡◌, ℕ, zero, suc, ◌<◌, ◌≤◌, List, [], ◌∷◌, length, get_or, drop, arith}
use Rattle.call.specs.declared.call.Call.{Call}

-- a call that is read: there is such a place, it stands there, and those past it are left
pub record Read (calls : List Call) (n : ℕ) (c : Call) (more : List Call) : Type 0 where
  pub there : n < length calls
  pub stands : c ≡ get_or calls n c
  pub past : more ≡ drop (suc n) calls

pub read_call : (calls : List Call) (n : ℕ) (c : Call) (more : List Call) → drop n calls ≡ c ∷ more → Read calls n c more
read_call [] zero c more e = grind arith
read_call [] (suc n) c more e = grind arith
read_call (x ∷ xs) zero c more e = record { there = omega arith; stands = cc; past = cc }
read_call (x ∷ xs) (suc n) c more e =
    let r = read_call xs n c more e in
    record { there = omega (arith, r.there); stands = r.stands; past = r.past }

pub all_read : (calls : List Call) (n : ℕ) → drop n calls ≡ [] → length calls ≤ n
all_read [] n e = omega arith
all_read (x ∷ xs) zero e = grind arith
all_read (x ∷ xs) (suc n) e = omega (arith, all_read xs n e)
