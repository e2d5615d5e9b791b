use Rattle.std.proofs.Common.{◌≡◌, ◌++◌, string_bytes, ◌∙◌}
use Rattle.std.proofs.lemmas.Result.{IfOk-weaker}
use Rattle.call.specs.Figures.{figures}
use Rattle.job.specs.Jobs.{rest, calls_of, verdict_of}
use Rattle.listing.specs.Lines.{figures_line, call_lines, text_of}
use Rattle.listing.proofs.Apart.{lines_apart}
use Rattle.listing.proofs.text_of.Goals as goal

pub returns-in_ok-text-in-Ok : goal.returns-in_ok-text-in-Ok
returns-in_ok-text-in-Ok c =
    let job = c.args.job in
    let head = c.in_ok-text-in-Ok.ensures in
    let count = c.records.ensures in
    let whole : string_bytes c.in_ok-text-in-Ok.text ++ call_lines 1 (rest job) ≡ text_of (verdict_of job) (calls_of job) =
    (λ i. head i ++ call_lines 1 (c.requires i))
    ∙ (λ i. figures_line (figures c.in-Ok.figures) (count i) ++ call_lines 1 (calls_of job))
    ∙ (λ i. text_of (c.in-Ok.ensures i) (calls_of job)) in
    record { value = IfOk-weaker c.with_calls.result _ _ (λ s e. e ∙ whole) c.with_calls.ensures; apart = lines_apart }
