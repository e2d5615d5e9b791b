use Rattle.std.proofs.Common.{◌≡◌, ℕ, false, sym, subst, arith}
use Rattle.rules.specs.Tables.{some_of, below}
use Rattle.memory.specs.Modes.{bad_at}
use Rattle.memory.proofs.Modes.{some_below}
use Rattle.memory.proofs.mode.has_bad_mode.Goals as goal

pub returns-then-is_bad : goal.returns-then-is_bad
returns-then-is_bad c =
    sym (some_below (bad_at c.args.plan) c.loop-strip.strip 16 c.loop-strip-test.true (sym c.if-is_bad.ensures))

pub returns : goal.returns
returns c =
    let all : c.loop-strip.strip ≡ 16 = omega arith in
    sym (subst (λ (k : ℕ). some_of (bad_at c.args.plan) (below k) ≡ false) all c.loop-strip.invariant)
