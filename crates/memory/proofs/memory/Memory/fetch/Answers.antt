use Rattle.std.proofs.Common.{ap, ◌∙◌, arith}
use Rattle.call.specs.Figures.{figures}
use Rattle.memory.specs.Views.{view}
use Rattle.memory.proofs.Loads.{fetch_steps}
use Rattle.memory.proofs.Views.{seat_below}
use Rattle.memory.proofs.memory.Memory.fetch.Goals as goal

pub returns : goal.returns
returns g c =
    let words = g.P.PageStore.words in
    let m = c.args.self.now in
    let a = c.write_back.new.self in
    let b = c.current-source.new.self in
    let d = c.fill.new.self in
    let at = c.seat-at.result in
    let wrote = c.write_back.ensures in
    let cur = c.current-source.ensures in
    let filled = c.fill.ensures in
    let steps = fetch_steps (figures m.figures) (figures a.figures) (view words m) (words a.page) (words d.page) a.entries b.entries d.entries a.owners d.owners at c.args.core.number c.args.word c.current-source.result.1 c.current-source.result.0 (ap figures wrote.figures) c.seat-at.ensures.core c.seat-at.ensures.slot (omega (arith, a.caches, seat_below at)) a.owned wrote.after cur.word cur.source (filled.page ∙ cur.page) cur.entries filled.entries (filled.owners ∙ cur.owners) in
    record {
      figures = filled.figures ∙ (cur.figures ∙ wrote.figures);
      word = steps.word;
      source = steps.source;
      after = steps.after;
    }
