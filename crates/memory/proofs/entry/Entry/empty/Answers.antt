use Rattle.std.proofs.Common.{refl}
use Rattle.memory.proofs.Opens.{blank_entry}
use Rattle.memory.proofs.entry.Entry.empty.Goals as goal

pub returns : goal.returns
returns c = blank_entry _ refl refl c.blank.ensures
