use Rattle.rules.proofs.Examples.{sample_plays}
use Rattle.rules.proofs.sample_job.Goals as goal

pub returns : goal.returns
returns c = sample_plays
