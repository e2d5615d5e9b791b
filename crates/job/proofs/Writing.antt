-- Going through the calls that are encoded: the test of all is the test of the first and of those past it, and one more
-- record extends the records written so far by its bytes. Assumes nothing.
use Rattle.std.proofs.Common.{◌≡◌, ℕ, ◌+◌, ◌*◌, ◌<◌, List, [], ◌++◌, length, get_or, take, drop, sym, ap, ◌∙◌, arith}
use borrow.Rule.Slice.PartMut.{put_mid}
use Rattle.std.proofs.lemmas.List.{append_assoc, length-take-le, take_at, drop_at, drop-drop, take_more, take_all, flat_map_more}
use Rattle.std.specs.List.{flat_map}
use Rattle.call.specs.declared.call.Call.{Call}
use Rattle.job.specs.Encoding.{record_bytes}
use Rattle.job.proofs.RoundTrip.{length_body}

-- the bytes with the records of some calls before the rest
abbrev pub with_records : List ℕ → List Call → ℕ → List ℕ
with_records bytes cs i = flat_map record_bytes (take i cs) ++ drop (13 * i) bytes

-- a write to the middle of bytes whose front is known
put_past : (p q ys : List ℕ) (a : ℕ) → length p ≡ a → put_mid a 13 (p ++ q) ys ≡ p ++ (ys ++ drop 13 q)
put_past p q ys a h =
    ap (λ (front : List ℕ). front ++ (ys ++ drop 13 (drop a (p ++ q)))) (take_at p q a h)
    ∙ ap (λ (back : List ℕ). p ++ (ys ++ drop 13 back)) (drop_at p q a h)

-- the bytes with one record more
pub one_more : (bytes out ys : List ℕ) (cs : List Call) (i k : ℕ) (d : Call) → i < length cs → k ≡ 13 → ys ≡ record_bytes (get_or cs i d) → out ≡ with_records bytes cs i → put_mid (13 * i) k out ys ≡ with_records bytes cs (i + 1)
one_more bytes out ys cs i k d l size e inv =
    let front = flat_map record_bytes (take i cs) in
    let back = drop (13 * i) bytes in
    let count : length (take i cs) ≡ i = length-take-le i cs (omega arith) in
    let long : length front ≡ 13 * i = length_body (take i cs) ∙ ap (λ (n : ℕ). 13 * n) count in
    let far : 13 * i + 13 ≡ 13 * (i + 1) = omega arith in
    let left : drop 13 back ≡ drop (13 * (i + 1)) bytes = drop-drop 13 (13 * i) bytes ∙ ap (λ (n : ℕ). drop n bytes) far in
    let added : front ++ ys ≡ flat_map record_bytes (take (i + 1) cs) =
    ap (λ (zs : List ℕ). front ++ zs) e
    ∙ flat_map_more record_bytes [] (take i cs) (get_or cs i d)
    ∙ ap (flat_map record_bytes) (sym (take_more cs i d l)) in
    ap (λ (n : ℕ). put_mid (13 * i) n out ys) size
    ∙ ap (λ (xs : List ℕ). put_mid (13 * i) 13 xs ys) inv
    ∙ put_past front back ys (13 * i) long
    ∙ sym (append_assoc front ys (drop 13 back))
    ∙ (λ j. added j ++ left j)

-- the bytes with all the records
pub all_written : (bytes : List ℕ) (cs : List Call) (i : ℕ) → i ≡ length cs → with_records bytes cs i ≡ flat_map record_bytes cs ++ drop (13 * length cs) bytes
all_written bytes cs i e =
    ap (with_records bytes cs) e
    ∙ ap (λ (ds : List Call). flat_map record_bytes ds ++ drop (13 * length cs) bytes) (take_all (length cs) cs (omega arith))
