use Rattle.std.proofs.Common.{ap, ◌∙◌}
use Rattle.call.specs.Figures.{figures}
use Rattle.rules.specs.Effects.{tally, dropped}
use Rattle.memory.specs.Views.{copies_of}
use Rattle.memory.proofs.Fades.{faded_memory}
use Rattle.memory.proofs.Views.{slots_most, cores_most}
use Rattle.memory.proofs.Walks.{walked_all}
use Rattle.memory.proofs.memory.Memory.fade.Goals as goal

pub returns-clause-answer : goal.returns-clause-answer
returns-clause-answer g c =
    let m = c.args.self.now in
    c.fade_all.ensures.answer
    ∙ ap (tally (λ p. dropped (figures m.figures) c.args.plan (copies_of m.entries p.core p.slot))) (walked_all (figures m.figures) (slots_most m.figures) (cores_most m.figures))

pub returns-clause-after : goal.returns-clause-after
returns-clause-after g c =
    let m = c.args.self.now in
    faded_memory (figures m.figures) c.args.plan (g.P.PageStore.words m.page) m.entries _ m.owners c.fade_all.ensures.after
