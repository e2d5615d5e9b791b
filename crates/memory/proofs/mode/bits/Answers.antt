use Rattle.std.proofs.Common.{arith}
use Rattle.memory.proofs.Modes.{bits_shifted, bits_past}
use Rattle.memory.proofs.mode.bits.Goals as goal

pub returns-then-strip-lt16-clause-value : goal.returns-then-strip-lt16-clause-value
returns-then-strip-lt16-clause-value c = bits_shifted c.args.plan c.args.strip

pub returns-else-strip-lt16-clause-value : goal.returns-else-strip-lt16-clause-value
returns-else-strip-lt16-clause-value c = bits_past c.args.plan c.args.strip (omega arith) (omega arith)
