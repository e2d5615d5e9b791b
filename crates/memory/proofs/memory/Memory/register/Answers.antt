use Rattle.std.proofs.Common.{ap, ◌∙◌, arith, length-set}
use Rattle.call.specs.Figures.{figures}
use Rattle.memory.specs.Owners.{seat}
use Rattle.memory.proofs.Stores.{register_owned}
use Rattle.memory.proofs.memory.Memory.register.Goals as goal

pub invariant_of-self-clause-words : goal.invariant_of-self-clause-words
invariant_of-self-clause-words g c = length-set _ _ _ ∙ c.args.self.now.words

pub invariant_of-self-clause-owned : goal.invariant_of-self-clause-owned
invariant_of-self-clause-owned g c =
    let m = c.args.self.now in
    let at = c.args.at in
    register_owned (figures m.figures) m.entries m.owners at.core c.args.word c.index.result c.args.stored (omega (arith, m.caches)) m.owned (c.index.ensures.value ∙ ap (seat at.core.number) c.requires.seated) m.words (rw c.index.ensures.value c.requires.idle)
