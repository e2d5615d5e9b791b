use Rattle.std.proofs.Common.{ℕ, List, length, ◌∙◌, subst}
use Rattle.play.specs.Playing.{verdict}
use Rattle.transcript.specs.Transcripts.{text_of, fields_of, Written}
use Rattle.signature.specs.Blooms.{operations}
use Rattle.transcript.proofs.Texts.{fits, plays_fresh}
use Rattle.transcript.proofs.write_transcript.Goals as goal

pub returns-clause-played : goal.returns-clause-played
returns-clause-played c =
    let page = c.new-page.ensures.same ∙ c.new.ensures in
    plays_fresh c.new-page.result c.new-2.result c.args.answers.now c.play_and_write.new.answers page c.new-2.ensures.value (verdict c.args.bytes.now (length c.args.answers.now)) c.play_and_write.result.outcome c.play_and_write.ensures.played

pub returns-clause-within : goal.returns-clause-within
returns-clause-within c =
    let v = verdict c.args.bytes.now (length c.args.answers.now) in
    let page = c.new-page.ensures.same ∙ c.new.ensures in
    fits _ _ _ _ _ (subst (λ (t : List ℕ). Written t c.args.out.now c.play_and_write.new.out (fields_of v) c.play_and_write.result.size) (λ i. text_of operations (page i) (c.new-2.ensures.value i) v) c.play_and_write.ensures.text) c.play_and_write.auto.out
