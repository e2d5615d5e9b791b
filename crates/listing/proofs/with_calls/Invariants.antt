use Rattle.std.proofs.Common.{◌≡◌, ◌+◌, ◌++◌, string_bytes}
use Rattle.job.specs.Jobs.{rest}
use Rattle.listing.specs.Lines.{call_lines}
use Rattle.listing.proofs.with_calls.Given as goal

-- the text so far, with the lines of the calls that are left, is the text with the lines of all
abbrev pub invariant-loop-index : goal.invariant-loop-index
invariant-loop-index l =
    string_bytes l.text ++ call_lines (l.index-iterator.count + 1) (rest l.index-iterator.iter) ≡ string_bytes l.initial.text ++ call_lines 1 (rest l.initial.job)
