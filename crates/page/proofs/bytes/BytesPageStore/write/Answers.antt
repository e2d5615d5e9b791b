use Rattle.std.proofs.Common.{◌+◌, ◌-◌, ◌*◌, ap, ◌∙◌, arith, rules}
use Rattle.page.specs.ByteWords.{byte_words}
use Rattle.page.proofs.ByteWords.{words_after, bytes_inside}
use Rattle.page.proofs.bytes.BytesPageStore.write.Goals as goal

pub returns : goal.returns
returns c =
    let bytes = c.args.self.now.bytes.now in
    let place = c.args.place in
    let written = bytes_inside bytes place (place * 8 + 8 - place * 8) c.args.word c.copy_from_slice.new.self
    (omega arith)
    (omega arith)
    (c.copy_from_slice.ensures.after ∙ c.from.ensures.value) in
    record {
      answer = search rules;
      after = ap byte_words written ∙ words_after bytes place c.args.word (search rules);
      bytes = written;
      lent = search rules;
    }
