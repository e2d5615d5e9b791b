-- Texts written over bytes: one byte, a part of a slice, and one text after another, which is the two as one text.
-- Assumes nothing.
use Rattle.std.proofs.Common.{◌≡◌, ℕ, ◌+◌, ◌<◌, ◌≤◌, List, [], ◌∷◌, ◌++◌, length, get_or, take, drop, set, sym, refl, ap, ◌∙◌, add_assoc, zero-add, add-one, take-append-drop, arith}
use borrow.Rule.Slice.PartMut.{put_mid}
use Rattle.std.proofs.lemmas.List.{append_assoc, length-append, length-take-le, take_at, drop_at, drop-drop, drop-append-le, set_split, flat_map_more, take_more}
use Rattle.std.specs.List.{flat_map}
use Rattle.call.specs.declared.answer.AnswerRecord.{AnswerRecord}
use Rattle.lines.specs.Lines.{answer_line}
use Rattle.lines.specs.Texts.{written, Wrote}
use Rattle.lines.specs.Writing.{Added}
use Rattle.lines.specs.declared.writer.Writer.{Writer}

-- a byte that is stored is a text of one byte
pub written_byte : (bytes : List ℕ) (at b : ℕ) → at < length bytes → set bytes at b ≡ written bytes at (b ∷ [])
unfolding written
written_byte bytes at b room =
    set_split bytes at b room ∙ ap (λ (k : ℕ). take at bytes ++ (b ∷ drop k bytes)) (sym (add-one at))

-- a part that is overwritten by a text as long
pub written_part : (bytes part text : List ℕ) (at k : ℕ) → part ≡ text → k ≡ length text → put_mid at k bytes part ≡ written bytes at text
unfolding written
written_part bytes part text at k is long =
    (λ i. take at bytes ++ (is i ++ drop (long i) (drop at bytes)))
    ∙ ap (λ (rest : List ℕ). take at bytes ++ (text ++ rest)) (drop-drop (length text) at bytes)

-- a text written past another is both as one text
pub written_on : (bytes s t : List ℕ) (at : ℕ) → at ≤ length bytes → written (written bytes at s) (at + length s) t ≡ written bytes at (s ++ t)
unfolding written
written_on bytes s t at room =
    let front = take at bytes ++ s in
    let past = drop (at + length s) bytes in
    let long : length front ≡ at + length s = length-append (take at bytes) s ∙ ap (λ (n : ℕ). n + length s) (length-take-le at bytes room) in
    let joint : take at bytes ++ (s ++ past) ≡ front ++ past = sym (append_assoc (take at bytes) s past) in
    let before : take (at + length s) (take at bytes ++ (s ++ past)) ≡ front = ap (take (at + length s)) joint ∙ take_at front past (at + length s) long in
    let rest : drop (at + length s) (take at bytes ++ (s ++ past)) ≡ past = ap (drop (at + length s)) joint ∙ drop_at front past (at + length s) long in
    let far : at + length s + length t ≡ at + length (s ++ t) = add_assoc at (length s) (length t) ∙ ap (λ (n : ℕ). at + n) (sym (length-append s t)) in
    let after : drop (at + length s + length t) (take at bytes ++ (s ++ past)) ≡ drop (at + length (s ++ t)) bytes =
    sym (drop-drop (length t) (at + length s) (take at bytes ++ (s ++ past)))
    ∙ ap (drop (length t)) rest
    ∙ drop-drop (length t) (at + length s) bytes
    ∙ ap (λ (n : ℕ). drop n bytes) far in
    (λ i. before i ++ (t ++ after i))
    ∙ append_assoc (take at bytes) s (t ++ drop (at + length (s ++ t)) bytes)
    ∙ ap (λ (u : List ℕ). take at bytes ++ u) (sym (append_assoc s t (drop (at + length (s ++ t)) bytes)))

-- the same of what was written where
pub and_then : {before mid after s t : List ℕ} {at next end : ℕ} → at ≤ length before → Wrote before at s mid next → Wrote mid next t after end → Wrote before at (s ++ t) after end
and_then {before} {mid} {after} {s} {t} {at} {next} {end} room one two =
    record {
      bytes = two.bytes ∙ (λ i. written (one.bytes i) (one.past i) t) ∙ written_on before s t at room;
      past = two.past ∙ ap (λ (n : ℕ). n + length t) one.past ∙ add_assoc at (length s) (length t) ∙ ap (λ (n : ℕ). at + n) (sym (length-append s t));
    }

-- a byte that is stored
pub wrote_byte : (bytes : List ℕ) (at b : ℕ) → at < length bytes → Wrote bytes at (b ∷ []) (set bytes at b) (at + 1)
wrote_byte bytes at b room = record { bytes = written_byte bytes at b room; past = refl }

-- what was written from the first byte on: how long it is, and the bytes with what is past it as it was
pub from_first : {before text after : List ℕ} {end : ℕ} → Wrote before 0 text after end → (end ≡ length text) × (after ≡ text ++ drop (length text) before)
unfolding written
from_first {before} {text} whole =
    let long = zero-add (length text) in
    (whole.past ∙ long, whole.bytes ∙ ap (λ (n : ℕ). text ++ drop n before) long)

-- a text in the first bytes of a buffer's front stands in the first bytes of the buffer
pub in_front : (out front after text : List ℕ) (n : ℕ) → front ≡ take n out → n ≤ length out → length text ≤ n → after ≡ text ++ drop (length text) front → after ++ drop n out ≡ text ++ drop (length text) out
in_front out front after text n is room fits wrote =
    let long : length front ≡ n = ap length is ∙ length-take-le n out room in
    ap (λ (xs : List ℕ). xs ++ drop n out) wrote
    ∙ append_assoc text (drop (length text) front) (drop n out)
    ∙ ap (λ (xs : List ℕ). text ++ xs)
    (sym (drop-append-le (length text) front (drop n out) (omega arith))
    ∙ ap (λ (xs : List ℕ). drop (length text) (xs ++ drop n out)) is
    ∙ ap (drop (length text)) (take-append-drop n out))

-- a writer that adds nothing is as it was
pub nothing_added : (a : Writer) → Added a [] a
unfolding written
nothing_added a =
    let none : a.end + 0 ≡ a.end = omega arith in
    record {
      wrote = record { bytes = sym (take-append-drop (a.end + 0) a.out.now) ∙ ap (λ n. take n a.out.now ++ drop (a.end + 0) a.out.now) none; past = sym none };
      same = refl;
      room = refl;
    }

-- the lines of one more record
pub lines_more : (records : List AnswerRecord) (i : ℕ) (a : AnswerRecord) → i < length records → a ≡ get_or records i a → flat_map answer_line (take i records) ++ answer_line a ≡ flat_map answer_line (take (i + 1) records)
lines_more records i a l is =
    flat_map_more answer_line [] (take i records) a
    ∙ (ap (λ (x : AnswerRecord). flat_map answer_line (take i records ++ (x ∷ []))) is
    ∙ ap (flat_map answer_line) (sym (take_more records i a l)))

-- a writer that adds a text and then another adds both as one text
pub added_both : {a b c : Writer} {s t : List ℕ} → a.end ≤ length a.out.now → Added a s b → Added b t c → Added a (s ++ t) c
added_both room one two =
    record { wrote = and_then room one.wrote two.wrote; same = two.same ∙ one.same; room = two.room ∙ one.room }
