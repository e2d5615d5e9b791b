use Rattle.std.proofs.Common.{◌≡◌, ℕ, ◌+◌, ◌≤◌, length, drop, take, slice_set, sym, ◌∙◌, subst, add-one, arith}
use Rattle.std.proofs.lemmas.List.{take_all}
use Rattle.board.proofs.Whole.{plays_next}
use Rattle.board.specs.Obeying.{Obeys, record_of}
use Rattle.board.specs.Runs.{Plays}
use Rattle.call.specs.declared.call.Call.{Call}
use Rattle.job.specs.Jobs.{calls_of, rest}
use Rattle.play.proofs.Turns.{read_call, all_read}
use Rattle.play.proofs.player.play_all.Goals as goal

pub loop-at-preserved : goal.loop-at-preserved
loop-at-preserved g c =
    let words = g.P.PageStore.words in
    let ops = g.S.Signature.operations in
    let calls = calls_of c.args.job in
    let at = c.loop-at.at-iterator.count in
    let steps = c.in-Some.ensures.steps in
    let read = read_call calls at c.in-Some.call _ (sym c.loop-at.invariant.1 ∙ steps.0) in
    let table = c.args.answers.now in
    let answer = c.«record».result.answer in
    subst (λ (n : ℕ). (n ≤ length calls) × (rest c.next.new.self.iter ≡ drop n calls) × Plays words ops c.args.board.now c.«record».new.self (take n calls) table (slice_set c.loop-at.answers c.in-Some.at c.«record».result)) (sym steps.2) (
      omega (arith, read.there),
      rw add-one read.past,
      subst (λ (k : ℕ). Plays words ops c.args.board.now c.«record».new.self (take (at + 1) calls) table (slice_set c.loop-at.answers k c.«record».result)) (sym steps.1)
          (plays_next words ops c.args.board.now c.loop-at.board c.«record».new.self calls at c.in-Some.call answer c.«record».result table c.loop-at.answers
          read.there
          (omega (arith, read.there, c.requires.1))
          c.loop-at.invariant.2
          (subst (λ (k : Call). Obeys words ops c.loop-at.board c.«record».new.self k answer) read.stands c.«record».ensures.obeys)
          (subst (λ (k : Call). c.«record».result ≡ record_of k answer) read.stands c.«record».ensures.value)),
    )

pub returns-clause-plays : goal.returns-clause-plays
returns-clause-plays g c =
    let words = g.P.PageStore.words in
    let ops = g.S.Signature.operations in
    let calls = calls_of c.args.job in
    let at = c.loop-at.at-iterator.count in
    let over = all_read calls at (sym c.loop-at.invariant.1 ∙ c.in-None.ensures.steps.0.0) in
    subst (λ (cs : _). Plays words ops c.args.board.now c.loop-at.board cs c.args.answers.now c.loop-at.answers) (take_all at calls over)
    c.loop-at.invariant.2
