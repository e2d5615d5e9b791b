use Rattle.std.proofs.Common.{refl, ⊎_elim, ◌∙◌, arith, length-set}
use Rattle.call.specs.Figures.{figures}
use Rattle.memory.specs.declared.entry.Done.TheVariants.{Kept, Dropped, Written}
use Rattle.memory.proofs.Owned.{turned_owned}
use Rattle.memory.proofs.memory.Memory.turn_at.Goals as goal

pub invariant_of-self-clause-owned : goal.invariant_of-self-clause-owned
invariant_of-self-clause-owned g c =
    let m = c.args.self.now in
    let t = c.turn_in-done.ensures in
    ⊎_elim
    (λ is. turned_owned (figures m.figures) m.entries _ m.owners _ c.index-at.result c.index-self-at.result c.args.event _ Kept (omega (arith, m.caches)) m.words m.owned t.after t.answer is refl)
    (λ is. turned_owned (figures m.figures) m.entries _ m.owners _ c.index-at.result c.index-self-at.result c.args.event _ Dropped (omega (arith, m.caches)) m.words m.owned t.after t.answer is refl)
    c.in-Kept.is

pub invariant_of-self-in-Written-clause-words : goal.invariant_of-self-in-Written-clause-words
invariant_of-self-in-Written-clause-words g c = length-set _ _ _ ∙ c.args.self.now.words

pub invariant_of-self-in-Written-clause-owned : goal.invariant_of-self-in-Written-clause-owned
invariant_of-self-in-Written-clause-owned g c =
    let m = c.args.self.now in
    let t = c.turn_in-done.ensures in
    turned_owned (figures m.figures) m.entries _ m.owners _ c.index-at.result c.index-self-at.result c.args.event _ Written (omega (arith, m.caches)) m.words m.owned t.after t.answer c.in-Written.is refl
