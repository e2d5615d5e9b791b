use Rattle.std.proofs.Common.{◌≡◌, ℕ, sym, refl, ap, ◌∙◌, subst, arith}
use Rattle.std.proofs.Output.{has_written_append, has_written_of_eq}
use Rattle.std.specs.Fmt.{HasWritten}
use Rattle.listing.specs.Lines.{plan_text, strips_text, modes}
use Rattle.listing.proofs.Strips.{all_strips, next_strip}
use Rattle.listing.proofs.wording.PlanDisplay.fmt.Goals as goal

pub returns-then-self-eq0-clause-writes : goal.returns-then-self-eq0-clause-writes
unfolding plan_text
returns-then-self-eq0-clause-writes g c plain ok =
    subst (λ (p : ℕ). HasWritten g.W.Write.write_str_gives c.args.f.now (plan_text p) c.write.new.self) (sym c.if-self-eq0.true) (c.write.ensures.writes plain ok)

pub loop-number-preserved : goal.loop-number-preserved
loop-number-preserved g c plain =
    let before = c.loop-number.invariant plain in
    has_written_of_eq _ _ _ _ _ (next_strip c.args.self.now.0 c.loop-number.number) (has_written_append _ _ _ _ _ _ before (c.in_ok-write.ensures.writes before.plain refl))

pub returns-clause-writes : goal.returns-clause-writes
returns-clause-writes g c plain ok =
    let last : c.loop-number.number ≡ 16 = omega arith in
    let all = ap (λ (k : ℕ). strips_text 0 (modes k c.args.self.now.0)) last ∙ sym (all_strips c.args.self.now.0 c.if-self-eq0.false) in
    has_written_of_eq _ _ _ _ _ all (c.loop-number.invariant plain)
