use Rattle.std.proofs.Common.{◌≡◌, refl, arith, rules, Ok, Err, Result}
use Rattle.call.specs.declared.answer.Answer.{Answer}
use Rattle.call.specs.declared.refusal.Refusal.{Refusal}
use Rattle.call.specs.declared.answer.Answer.TheVariants.{Loaded, Stored, Done}
use Rattle.lines.specs.Laws.{InRange}
use Rattle.lines.proofs.Lengths.{line_most}
use Rattle.lines.proofs.writer.Writer.answer.Goals as goal

-- the numbers of the answer fit their types
in_range : (c : goal.After-numbers) (a : Result Answer Refusal) → c.args.answered.answer ≡ a → InRange a
in_range c (Ok (Loaded word source)) is = (search rules, search rules)
in_range c (Ok (Stored answer mark)) is = search rules
in_range c (Ok (Done small)) is = search rules
in_range c (Err refusal) is = λ core access race. search rules

pub returns-clause-most : goal.returns-clause-most
returns-clause-most c = line_most c.args.answered (omega arith) (in_range c c.args.answered.answer refl)
