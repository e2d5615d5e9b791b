use Rattle.std.proofs.Common.{◌≡◌, IfOk, string_bytes, subst}
use Rattle.call.specs.Figures.{Five, five, figures}
use Rattle.listing.specs.Lines.{figures_line}
use Rattle.listing.proofs.wording.figures_line.Goals as goal

pub returns : goal.returns
returns c =
    let numbers : five c.cores.result c.slots.result c.words.result c.strip.result c.allowance.result ≡ figures c.args.figures.now =
    λ i. five (c.cores.ensures i) (c.slots.ensures i) (c.words.ensures i) (c.strip.ensures i) (c.allowance.ensures i) in
    subst (λ (f : Five). IfOk c.format.result (λ s. string_bytes s ≡ figures_line f c.args.records)) numbers c.format.ensures.ok
