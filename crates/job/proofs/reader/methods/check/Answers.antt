use Rattle.std.proofs.Common.{◌<◌, rules}
use Rattle.std.proofs.ByRecursion.{All-from_get_or}
use Rattle.call.specs.Figures.{figures}
use Rattle.job.proofs.RoundTrip.{encoded_found}
use Rattle.job.proofs.reader.methods.check.Goals as goal

pub returns : goal.returns
returns c =
    let bytes = c.args.bytes.now in
    let under = All-from_get_or (λ b. b < 256) bytes 0 (λ i h. (c.type_inv.bytes i).fits) in
    record {
      value = search rules;
      encoded = encoded_found bytes (figures c.in_ok-figures.figures) c.in_ok-records.records.now under (search rules) (search rules) (search rules);
    }
