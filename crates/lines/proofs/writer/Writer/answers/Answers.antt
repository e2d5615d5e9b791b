use Rattle.std.proofs.Common.{List, subst, arith}
use Rattle.std.proofs.lemmas.List.{take_all}
use Rattle.std.specs.List.{flat_map}
use Rattle.call.specs.declared.answer.AnswerRecord.{AnswerRecord}
use Rattle.lines.specs.Lines.{answer_line}
use Rattle.lines.specs.Writing.{Added}
use Rattle.lines.proofs.Writing.{added_both, nothing_added, lines_more}
use Rattle.lines.proofs.writer.Writer.answers.Goals as goal

pub loop-answered-init : goal.loop-answered-init
loop-answered-init c = (nothing_added _, omega arith)

pub loop-answered-preserved : goal.loop-answered-preserved
loop-answered-preserved c =
    let more = lines_more c.args.records.now c.loop-answered.answered-index c.answered-item.result c.loop-answered-test.true c.answered-item.is in
    let both = added_both (omega arith) c.loop-answered.invariant.0 c.answer.ensures.added in
    let most = c.answer.ensures.most in
    let within = c.loop-answered.invariant.1 in
    let past = c.answer.ensures.added.wrote.past in
    (rw more at both, omega arith)

pub returns : goal.returns
returns c =
    subst (λ (rs : List AnswerRecord). Added c.args.self.now (flat_map answer_line rs) c.loop-answered.self) (take_all c.loop-answered.answered-index c.args.records.now c.loop-answered-test.false) c.loop-answered.invariant.0
