-- The counts of the cores' stores as a table of the rules. Assumes nothing.
use Rattle.std.proofs.Common.{◌≡◌, ℕ, zero, suc, ◌<◌, List, length, get_or, set, replicate, refl}
use Rattle.locks.proofs.Tables.{set_upd}
use Rattle.rules.specs.Tables.{upd}
use Rattle.board.specs.Views.{counts_of}

pub counts_set : (counts : List ℕ) (core count : ℕ) → core < length counts → counts_of (set counts core count) ≡ upd (counts_of counts) core count
unfolding counts_of
counts_set counts core count within = λ i d. set_upd counts core count 0 within d i

-- no store yet
zeros : (n core : ℕ) → ◌≡◌ {A = ℕ} (get_or (replicate n 0) core 0) 0
zeros zero core = refl
zeros (suc n) zero = refl
zeros (suc n) (suc core) = zeros n core

pub no_counts : (n : ℕ) → counts_of (replicate n 0) ≡ (λ (core : ℕ). let none : ℕ = 0 in none)
unfolding counts_of
no_counts n = λ i core. zeros n core i
