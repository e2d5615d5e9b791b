use Rattle.std.proofs.Common.{◌/◌, List, ℕ, length, ap, ◌∙◌, arith}
use Rattle.std.specs.Simd.{first_chunks}
use Rattle.page.proofs.ByteWords.{read_inside}
use Rattle.page.proofs.bytes.BytesPageStore.read.Goals as goal

pub returns-clause-answer : goal.returns-clause-answer
returns-clause-answer c =
    let groups = ap (λ (bs : List ℕ). first_chunks 8 (length bs / 8) bs) c.as_bytes.ensures in
    read_inside c.args.self.now.bytes.now c.args.place c.from.result _ _ (omega arith) (c.as_chunks.ensures.front ∙ groups) c.from.ensures
