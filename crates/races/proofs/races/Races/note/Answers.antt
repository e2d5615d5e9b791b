use Rattle.std.proofs.Common.{ap, ◌∙◌, arith, length-set}
use Rattle.races.specs.Remembered.{noted_in}
use Rattle.races.specs.declared.seen.Seen.{Seen}
use Rattle.races.proofs.Notes.{tells_past, tells_entered, noted_stamp, entered_up_to}
use Rattle.races.proofs.races.Races.note.Goals as goal

pub invariant_of-self : goal.invariant_of-self
invariant_of-self c =
    let here = c.args.self.now in
    record {
      full = length-set here.seen _ _ ∙ here.full;
      begun = here.begun;
      older =
          entered_up_to here.seen here.stamp c.args.word c.with.result
          (ap (λ (s : Seen). s.stamp) c.with.ensures ∙ (noted_stamp c.args.access c.in_phase.result c.args.core ∙ ap (λ (s : Seen). s.stamp) c.in_phase.ensures))
          here.older;
    }

pub returns-then-word-ge4096 : goal.returns-then-word-ge4096
returns-then-word-ge4096 c accesses told =
    tells_past c.args.self.now.seen c.args.self.now.stamp c.args.access c.args.core c.args.word accesses told (omega arith)

pub returns : goal.returns
returns c accesses told =
    let here = c.args.self.now in
    tells_entered here.seen here.stamp c.args.access c.args.core c.args.word accesses told c.with.result
    (c.with.ensures ∙ ap (λ (s : Seen). noted_in c.args.access s c.args.core) c.in_phase.ensures)
    (let full = here.full in let inside = c.if-word-ge4096.false in omega arith)
