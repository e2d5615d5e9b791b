-- What a writer adds to its buffer. Assumes nothing.
use Rattle.std.specs.Prelude.{◌≡◌, ℕ, List, length}
use Rattle.lines.specs.Texts.{Wrote}
use Rattle.lines.specs.declared.writer.Writer.{Writer}

-- a text was written from a writer's end on, into the same buffer, which is as long as it was
pub record Added (before : Writer) (text : List ℕ) (after : Writer) : Type 0 where
  pub wrote : Wrote before.out.now before.end text after.out.now after.end
  pub same : after.out.ghost_name ≡ before.out.ghost_name
  pub room : length after.out.now ≡ length before.out.now
