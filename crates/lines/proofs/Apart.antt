-- Lines are apart: the same line has the same numbers, field by field, and these determine the record or the fault. A fault's
-- line begins with a letter and a record's with a digit. Assumes nothing.
use Rattle.std.proofs.Common.{◌≡◌, ℕ, ◌^◌, ◌<◌, List, [], length, get_or, drop, decimal, sym, refl, ap, ◌∙◌, arith, Ok, Err, Result}
use Rattle.std.proofs.lemmas.Fmt.{decimal_nonempty}
use Rattle.call.specs.Told.{told, fault, answer_told, fault_told}
use Rattle.call.specs.declared.answer.Answer.{Answer}
use Rattle.call.specs.declared.refusal.Refusal.{Refusal}
use Rattle.call.specs.declared.answer.Answer.TheVariants.{Loaded, Stored, Done}
use Rattle.call.specs.declared.answer.Told.{Told}
use Rattle.lines.specs.Laws.{InRange, LinesApart, FaultsApart, NeverBoth}
use Rattle.lines.specs.Lines.{numbers_line}
use Rattle.lines.proofs.FromTold.{kind_by, kind_again, answer_by, answer_again, fault_by, fault_again}
use Rattle.lines.proofs.Lengths.{mark_most, refusal_most, numbers_most}
use Rattle.lines.proofs.ReadBack.{lead, digits_back, same_number}

-- numbers that a line can be read back with
abbrev Readable : Told → Type 0
Readable t = (t.refusal < 2 ^ 64) × (t.small < 2 ^ 64) × (t.value < 2 ^ 64) × (t.mark < 2 ^ 64)

readable : (a : Result Answer Refusal) → InRange a → Readable (answer_told a)
readable (Ok (Loaded word source)) fits =
    let marked = mark_most word.mark in
    (omega arith, omega (arith, fits.1), omega (arith, fits.0), omega arith)
readable (Ok (Stored answer mark)) fits = let marked = mark_most mark in (omega arith, omega arith, omega arith, omega arith)
readable (Ok (Done small)) fits = (omega arith, omega arith, omega arith, omega arith)
readable (Err refusal) fits =
    let most = refusal_most refusal fits in
    (omega (arith, most.0), omega (arith, most.1), omega (arith, most.2), omega (arith, most.3))

-- one line has one caller, one letter and one of each number
fields_same : (m n k l : ℕ) (s t : Told) → m < 2 ^ 64 → n < 2 ^ 64 → Readable s → Readable t → numbers_line m k s ≡ numbers_line n l t → (m ≡ n) × (k ≡ l) × (s ≡ t)
fields_same m n k l s t hm hn hs ht e =
    let caller = same_number m n 32 _ _ hm hn refl e in
    let refusal = same_number s.refusal t.refusal 32 _ _ hs.0 ht.0 refl (ap (drop 2) caller.1) in
    let small = same_number s.small t.small 32 _ _ hs.1 ht.1 refl refusal.1 in
    let value = same_number s.value t.value 32 _ _ hs.2 ht.2 refl small.1 in
    let mark = same_number s.mark t.mark 10 [] [] hs.3 ht.3 refl value.1 in
    (caller.0, ap (λ (xs : List ℕ). get_or xs 0 0) caller.1, λ i. told (refusal.0 i) (small.0 i) (value.0 i) (mark.0 i))

-- the kind is found again from the letter, and the answer from the kind and the numbers
pub lines_apart : LinesApart
lines_apart a b pa pb e =
    let same = fields_same a.caller b.caller _ _ _ _ (omega (arith, pa.0)) (omega (arith, pb.0)) (readable a.answer pa.1) (readable b.answer pb.1) e in
    let kinds : a.kind ≡ b.kind = sym (kind_again a.kind) ∙ ap kind_by same.1 ∙ kind_again b.kind in
    let answers : a.answer ≡ b.answer =
    sym (answer_again a.kind a.answer pa.2)
    ∙ (λ i. answer_by (kinds i) (same.2 i))
    ∙ answer_again b.kind b.answer pb.2 in
    λ i. record { caller = same.0 i; kind = kinds i; answer = answers i }

-- the numbers of a fault are found again past the word, and the fault from them
pub faults_apart : FaultsApart
faults_apart e f he hf is =
    let one = numbers_most e in
    let two = numbers_most f in
    let number = same_number (fault_told e).number (fault_told f).number 32 _ _ (omega (arith, one.0)) (omega (arith, two.0)) refl (ap (drop 8) is) in
    let place = same_number (fault_told e).place (fault_told f).place 32 _ _ (omega arith) (omega arith) refl number.1 in
    let inner = same_number (fault_told e).inner (fault_told f).inner 10 [] [] (omega (arith, one.1)) (omega (arith, two.1)) refl place.1 in
    sym (fault_again e) ∙ (λ i. fault_by (fault (number.0 i) (place.0 i) (inner.0 i))) ∙ fault_again f

-- a record's line begins with a digit, and a fault's with none
pub never_both : NeverBoth
never_both e a pa is =
    let fits : a.caller < 2 ^ 64 = omega (arith, pa.0) in
    let none : [] ≡ decimal a.caller = ap lead is ∙ digits_back a.caller 32 _ fits refl in
    omega (arith, decimal_nonempty a.caller fits, ap length none)
