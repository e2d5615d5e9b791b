-- A word is read back from the group that spells it: four bytes make up the number that they were taken from, and a
-- lawful number, which is below 2 ^ 32, reads as its mark. Assumes nothing.
use Rattle.std.proofs.Common.{◌≡◌, ℕ, ◌^◌, ◌<◌, List, ap, ◌∙◌, ⊎_elim, arith}
use Rattle.std.proofs.lemmas.Nat.{from_be_bytes-to_be_bytes_4}
use Rattle.word.proofs.Marks.{lawful_tells, mark_read_number}
use Rattle.word.specs.Marks.{number, mark_at}
use Rattle.word.specs.declared.mark.Mark.{Mark}
use Rattle.word.specs.declared.word.Word.{Word}
use Rattle.word.specs.Groups.{four_bytes, four_number, group_bytes, group_word}

-- four bytes make up the number below 2 ^ 32 that they were taken from
pub four_back : (n : ℕ) → n < 2 ^ 32 → four_number (four_bytes n) 0 ≡ n
four_back n h = from_be_bytes-to_be_bytes_4 n h

-- a mark's number is below 2 ^ 32
pub number_lt : (m : Mark) → number m < 2 ^ 32
number_lt m = ⊎_elim (λ blank. omega arith) (λ stored. omega arith) (lawful_tells m.number m.law)

-- a word whose value is below 2 ^ 32 is read back from its group
pub group_back : (x : Word) (bytes : List ℕ) → bytes ≡ group_bytes x → x.value < 2 ^ 32 → group_word bytes ≡ x
group_back x bytes e h = ap group_word e ∙ back
  where
    back : group_word (group_bytes x) ≡ x
    back =
        let value = four_back x.value h in
        let mark = ap mark_at (four_back (number x.mark) (number_lt x.mark)) ∙ mark_read_number x.mark in
        λ i. record { value = value i; mark = mark i }

-- a value and a mark are a group's word where they are read from its two halves
pub word_from_halves : (bytes : List ℕ) (halves : ℕ × ℕ) (m : Mark) → halves ≡ (four_number bytes 0, four_number bytes 4) → m ≡ mark_at halves.1 → ◌≡◌ {A = Word} (record { value = halves.0; mark = m }) (group_word bytes)
word_from_halves bytes halves m e mark =
    let value = ap (λ (h : ℕ × ℕ). h.0) e in
    let read = mark ∙ ap (λ (h : ℕ × ℕ). mark_at h.1) e in
    λ i. record { value = value i; mark = read i }
