use Rattle.std.proofs.Common.{rules}
use Rattle.job.proofs.Records.{call_read}
use Rattle.job.proofs.reader.Job.next_call.Goals as goal

pub returns : goal.returns
returns c =
    let job = c.args.self.now in
    let read = call_read job.records.now job.left.now c.in_ok-record.left.now c.in_ok-record.record.now job.within c.in_ok-record.ensures.cases.0 c.spelled_call.result job.lawful c.spelled_call.ensures in
    record { value = read.0; after = read.1; same = search rules }
