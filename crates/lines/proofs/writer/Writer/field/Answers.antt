use Rattle.std.proofs.Common.{ℕ, List, [], ◌∷◌, ◌++◌, sym, subst, arith}
use Rattle.std.proofs.lemmas.Fmt.{decimal_digit}
use Rattle.lines.specs.Writing.{Added}
use Rattle.lines.proofs.Digits.{three_digits, five_digits, ten_digits}
use Rattle.lines.proofs.Writing.{added_both}
use Rattle.lines.proofs.writer.Writer.field.Goals as goal

pub byte-requires : goal.byte-requires
byte-requires c = let few = ten_digits c.args.n (omega arith) in omega arith

pub returns-then-n-lt10-clause-added : goal.returns-then-n-lt10-clause-added
returns-then-n-lt10-clause-added c =
    subst (λ (digits : List ℕ). Added c.args.self.now (digits ++ (c.args.stop ∷ [])) c.text.new.self) (sym (decimal_digit c.args.n c.if-n-lt10.true)) c.text.ensures

pub returns-else-n-lt10-clause-added : goal.returns-else-n-lt10-clause-added
returns-else-n-lt10-clause-added c = added_both (omega arith) c.number.ensures c.byte.ensures

pub returns-else-n-lt10-clause-of_a_byte : goal.returns-else-n-lt10-clause-of_a_byte
returns-else-n-lt10-clause-of_a_byte c small = let few = three_digits c.args.n (omega arith) in omega arith

pub returns-else-n-lt10-clause-of_two_bytes : goal.returns-else-n-lt10-clause-of_two_bytes
returns-else-n-lt10-clause-of_two_bytes c small = let few = five_digits c.args.n (omega arith) in omega arith

pub returns-else-n-lt10-clause-most : goal.returns-else-n-lt10-clause-most
returns-else-n-lt10-clause-most c = let few = ten_digits c.args.n (omega arith) in omega arith
