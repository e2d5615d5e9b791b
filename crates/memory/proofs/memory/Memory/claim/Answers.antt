use Rattle.std.proofs.Common.{ap, ◌∙◌, arith}
use Rattle.call.specs.Figures.{figures}
use Rattle.memory.specs.Entries.{number_of_owner}
use Rattle.memory.specs.Owners.{index_of}
use Rattle.memory.specs.Views.{view}
use Rattle.memory.proofs.Loads.{settled_idle}
use Rattle.memory.proofs.Stores.{claim_steps}
use Rattle.memory.proofs.Views.{seat_below}
use Rattle.memory.proofs.memory.Memory.claim.Goals as goal

pub returns : goal.returns
returns g c =
    let words = g.P.PageStore.words in
    let m = c.args.self.now in
    let a = c.write_back.new.self in
    let b = c.take-owner.new.self in
    let d = c.register.new.self in
    let at = c.seat-at.result in
    let wrote = c.write_back.ensures in
    let took = c.take-owner.ensures in
    let put = c.register.ensures in
    let steps = claim_steps (figures m.figures) (figures a.figures) (view words m) (words a.page) (words b.page) (words d.page) a.entries b.entries d.entries a.owners b.owners d.owners at c.args.core.number c.args.word (number_of_owner c.take-owner.result) c.args.stored (ap figures wrote.figures) c.seat-at.ensures.core c.seat-at.ensures.slot a.caches a.words a.owned (settled_idle m.entries a.entries (index_of at) (omega (arith, m.caches, seat_below at)) wrote.entries) wrote.after took.answer took.page took.entries took.owners put.page put.entries put.owners in
    record {
      figures = put.figures ∙ (took.figures ∙ wrote.figures);
      answer = steps.answer;
      after = steps.after;
    }
