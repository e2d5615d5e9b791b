-- The test of a mark's number says that the number is blank or that of some store; and a mark is its number.
-- Assumes nothing.
use Rattle.std.proofs.Common.{◌≡◌, ℕ, ◌/◌, ◌%◌, ◌<◌, ◌≤◌, Bool, true, false, ◌&&◌, cond, Ok, Err, ap, eqb, ltb, leb, sym, refl, ◌∙◌, inl, inr, ⊎_elim, div-add-mod', arith}
use Rattle.std.specs.Result.{result_unwrap_or}
use mathlib.Core.HLevel.{is_prop→PathP}
use denote.Struct.Props.{props}
use Rattle.std.proofs.lemmas.Bool.{cond-true, eqb-true, ltb-true, leb-true, and_parts, or_cases, or_right, and_from, lt-ltb, le-leb}
use Rattle.word.specs.Lawful.{lawful, Lawful, Stores, mark_of}
use Rattle.word.specs.Marks.{number, mark_by, mark_at, mark_read}
use Rattle.word.specs.Words.{blank_mark, blank_word}
use Rattle.word.specs.declared.mark.Mark.{Mark}
use Rattle.word.specs.declared.mark.NoMark.{NoMark}
use Rattle.word.specs.declared.word.Word.{Word}

-- a number that passes the test is blank or the mark of some core's store
pub lawful_tells : (n : ℕ) → lawful n ≡ true → Lawful n
lawful_tells n h = ⊎_elim (λ e. inl (eqb-true n 0 e)) stored (or_cases _ _ h)
  where
    stored : (ltb n 8388608 && (leb 1 (n % 1048576) && leb (n % 1048576) 1000000)) ≡ true → Lawful n
    stored e =
        let parts = and_parts _ _ e in
        let low : n < 8388608 = ltb-true n 8388608 parts.0 in
        let range = and_parts _ _ parts.1 in
        let some : 1 ≤ n % 1048576 = leb-true 1 (n % 1048576) range.0 in
        let few : n % 1048576 ≤ 1000000 = leb-true (n % 1048576) 1000000 range.1 in
        let whole = div-add-mod' n 1048576 in
        inr (n / 1048576, n % 1048576, (omega arith, some, few), sym whole)

-- two marks of one number are one mark
pub same_mark : (m n : Mark) → number m ≡ number n → m ≡ n
same_mark m n e =
    λ i. record { number = e i; law = is_prop→PathP (λ j. lawful (e j) ≡ true) (λ j. hlevel props) m.law n.law i }

-- the mark of a core's store passes the test, and so there is a mark with its number
pub stores_lawful : (core count : ℕ) → Stores core count → lawful (mark_of core count) ≡ true
stores_lawful core count s =
    let low = s.0 in
    let some = s.1 in
    let few = s.2 in
    let rest : mark_of core count % 1048576 ≡ count = omega arith in
    or_right (eqb (mark_of core count) 0) _ (and_from _ _ (lt-ltb (mark_of core count) 8388608 (omega arith)) (and_from _ _ (le-leb 1 (mark_of core count % 1048576) (omega arith)) (le-leb (mark_of core count % 1048576) 1000000 (omega arith))))

-- a number reads as the mark of that number, or of 0
pub number_mark_read : (n : ℕ) → number (mark_at n) ≡ cond (lawful n) n 0
number_mark_read n = go (lawful n) refl
  where
    go : (b : Bool) (e : lawful n ≡ b) → number (mark_by n b e) ≡ cond b n 0
    go true e = refl
    go false e = refl

-- a lawful number is that of its mark
pub number_mark_at : (n : ℕ) → lawful n ≡ true → number (mark_at n) ≡ n
number_mark_at n h = number_mark_read n ∙ rw h refl

-- a mark of a lawful number is what the number reads as
pub mark_read_some : (n : ℕ) (m : Mark) → lawful n ≡ true → number m ≡ n → m ≡ mark_at n
mark_read_some n m h e = same_mark _ _ (e ∙ sym (number_mark_at n h))

pub mark_read_ok : (n : ℕ) (m : Mark) → lawful n ≡ true → number m ≡ n → Ok m ≡ mark_read n
mark_read_ok n m h e = ap Ok (mark_read_some n m h e) ∙ sym (cond-true (lawful n) (Ok (mark_at n)) (Err (record { number = n })) h)

-- and so is the mark of number 0 where the number is not lawful
pub mark_read_or : (n : ℕ) (blank : Mark) → number blank ≡ 0 → result_unwrap_or (mark_read n) blank ≡ mark_at n
mark_read_or n blank zero = go (lawful n) refl
  where
    go : (b : Bool) → lawful n ≡ b → result_unwrap_or {E = NoMark} (cond b (Ok (mark_at n)) (Err (record { number = n }))) blank ≡ mark_at n
    go true e = refl
    go false e = same_mark _ _ (zero ∙ sym (number_mark_read n ∙ rw e refl))

-- the number of a mark reads as that mark
pub mark_read_number : (m : Mark) → mark_at (number m) ≡ m
mark_read_number m = sym (mark_read_some (number m) m m.law refl)

-- different stores have different marks
pub marks_apart : (c k d l : ℕ) → Stores c k → Stores d l → mark_of c k ≡ mark_of d l → (c ≡ d) × (k ≡ l)
marks_apart c k d l s t e =
    let a = s.2 in
    let b = t.2 in
    (omega arith, omega arith)

-- a word of value 0 whose mark's number is 0 is the blank word
pub blank_from_zero : (x : Word) → x.value ≡ 0 → number x.mark ≡ 0 → x ≡ blank_word
blank_from_zero x value mark = λ i. record { value = value i; mark = same_mark x.mark blank_mark mark i }
