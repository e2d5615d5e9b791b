use Rattle.std.proofs.Common.{◌≡◌, ℕ, ◌<◌, ◌≤◌, length, get_or}
use lib.Bits.{bit_or}
use Rattle.signature.proofs.rows.methods.joined.Given as goal

abbrev pub invariant-loop-i : goal.invariant-loop-i
invariant-loop-i g l =
    (length l.row ≡ g.row.WIDTH)
    × (length l.row ≡ length l.initial.row)
    × ((k : ℕ) → k < l.i → get_or l.row k 0 ≡ bit_or (get_or l.initial.row k 0) (get_or l.fn.other k 0))
    × ((k : ℕ) → l.i ≤ k → get_or l.row k 0 ≡ get_or l.initial.row k 0)
