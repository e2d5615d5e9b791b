use Rattle.job.proofs.RoundTrip.{reads_back, encodes_again}
use Rattle.job.proofs.reader.Job.open.Goals as goal

pub returns-clause-law : goal.returns-clause-law
returns-clause-law c = (reads_back, encodes_again)
