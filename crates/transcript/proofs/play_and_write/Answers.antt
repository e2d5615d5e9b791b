use Rattle.std.proofs.Common.{ℕ, List, length, subst}
use Rattle.play.specs.Playing.{verdict}
use Rattle.transcript.specs.Transcripts.{fields_of, outcome_text, Written}
use Rattle.transcript.proofs.Texts.{within, same_text, same_fields}
use Rattle.transcript.proofs.play_and_write.Goals as goal

pub write_outcome-size-requires : goal.write_outcome-size-requires
write_outcome-size-requires g c = within _ _ _ _ _ _ (verdict c.args.bytes.now (length c.args.answers.now)) c.play_job-outcome.result c.play_job-outcome.ensures

pub returns-clause-text : goal.returns-clause-text
returns-clause-text g c =
    let words = g.P.PageStore.words in
    let ops = g.S.Signature.operations in
    let v = verdict c.args.bytes.now (length c.args.answers.now) in
    let o = c.play_job-outcome.result in
    let after = c.play_job-outcome.new.answers in
    subst (λ (t : List ℕ). Written t c.args.out.now c.write_outcome-size.new.out (fields_of v) c.write_outcome-size.result) (same_text words ops c.args.page c.args.signature c.args.answers.now after v o c.play_job-outcome.ensures)
    (subst (λ (n : ℕ). Written (outcome_text o after) c.args.out.now c.write_outcome-size.new.out n c.write_outcome-size.result) (same_fields words ops c.args.page c.args.signature c.args.answers.now after v o c.play_job-outcome.ensures) c.write_outcome-size.ensures)
