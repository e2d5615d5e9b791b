use Rattle.std.proofs.Common.{◌∙◌, arith}
use Rattle.job.proofs.Writing.{one_more, all_written}
use Rattle.job.proofs.encoder.write_records.Goals as goal

pub loop-i-preserved : goal.loop-i-preserved
loop-i-preserved c =
    one_more c.args.out.now c.loop-i.out c.copy_from_slice.new.self c.args.calls.now c.loop-i.i _ _ c.loop-i-test.true (omega arith) (c.copy_from_slice.ensures.after ∙ c.record_of.ensures) c.loop-i.invariant

pub returns : goal.returns
returns c = c.loop-i.invariant ∙ all_written c.args.out.now c.args.calls.now c.loop-i.i (omega arith)
