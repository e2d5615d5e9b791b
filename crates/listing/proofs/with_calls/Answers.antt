use Rattle.std.proofs.Common.{ℕ, ◌+◌, ◌++◌, string_bytes, sym, ap, ◌∙◌, rules}
use Rattle.std.proofs.lemmas.List.{append-nil}
use Rattle.job.specs.Jobs.{rest}
use Rattle.listing.specs.Lines.{call_line, call_lines}
use Rattle.listing.proofs.Texts.{line_step}
use Rattle.listing.proofs.with_calls.Goals as goal

pub loop-index-init : goal.loop-index-init
loop-index-init c = search rules

pub loop-index-preserved : goal.loop-index-preserved
loop-index-preserved c =
    let step = c.in-Some.ensures.steps in
    let before = string_bytes c.loop-index.text in
    let longer = c.in_ok-write.ensures.bytes ∙ ap (λ (k : ℕ). before ++ call_line (k + 1) c.in-Some.call) step.1 in
    line_step before (string_bytes c.write.new.self) c.loop-index.index-iterator.count c.next.new.self.count (rest c.loop-index.index-iterator.iter) (rest c.next.new.self.iter) c.in-Some.call step.0 step.2 longer
    ∙ c.loop-index.invariant

pub returns : goal.returns
returns c =
    let none = c.in-None.ensures.steps in
    let text = string_bytes c.loop-index.text in
    sym (append-nil text)
    ∙ ap (λ cs. text ++ call_lines (c.loop-index.index-iterator.count + 1) cs) (sym none.0.0)
    ∙ c.loop-index.invariant
