use Rattle.std.proofs.Common.{arith}
use Rattle.call.specs.Figures.{figures}
use Rattle.job.proofs.RoundTrip.{reads_back}
use Rattle.call.proofs.Passing.{figures_checked}
use Rattle.job.proofs.encoder.write_job.Goals as goal

pub returns-clause-reads : goal.returns-clause-reads
returns-clause-reads c = λ lawful.
    let f = c.args.figures.now in
    reads_back (figures f) c.args.calls.now (figures_checked f) lawful (omega arith)
