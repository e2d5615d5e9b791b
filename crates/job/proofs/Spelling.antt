-- One record, both ways. A record is five fields, and a call is known by its five: a lawful call's record has these fields,
-- and a record that spells a call has the fields of that call. Assumes nothing.
use Rattle.std.proofs.Common.{◌≡◌, ℕ, zero, suc, ◌^◌, ◌<◌, ◌≤◌, List, [], ◌∷◌, ◌++◌, length, get_or, take, Some, None, Option, sym, refl, ap, ◌∙◌, arith}
use Rattle.std.proofs.lemmas.List.{take_all}
use Rattle.std.proofs.lemmas.Nat.{from_be_bytes-to_be_bytes_2, from_be_bytes-to_be_bytes_8}
use Rattle.std.specs.Int.{w16, w64, to_be_bytes, from_be_bytes}
use Rattle.std.specs.Int.Digits.{AllBelowBase}
use Rattle.call.specs.Calls.{caller_of, kind_of, letter_of}
use Rattle.call.specs.declared.call.Call.{Call}
use Rattle.call.specs.declared.call.Kind.{Kind}
use Rattle.call.specs.declared.call.Kind.TheVariants as kind
use Rattle.job.specs.Bytes.{part, field}
use Rattle.job.specs.Encoding.{lock_of, word_of, payload_of, record_bytes, LawfulCall}
use Rattle.job.specs.Reading.{kind_by, spelled_as, spelled_by, spelled}
use Rattle.job.proofs.BigEndian.{field_back_2, field_back_8}

-- the letter of a kind stands for it
letter_back : (k : Kind) → kind_by (letter_of k) ≡ Some k
letter_back k = grind arith

word_fits : (c : Call) → LawfulCall c → word_of c < 2 ^ 16
word_fits c h = grind arith

payload_fits : (c : Call) → LawfulCall c → payload_of c < 2 ^ 64
payload_fits c h = grind arith

-- the fields of a lawful call spell it
fields_spell : (c : Call) → LawfulCall c → spelled_as (kind_of c) (lock_of c) (word_of c) (payload_of c) (caller_of c) ≡ Some c
fields_spell c h = grind arith

-- the record of a lawful call spells it
pub record_back : (c : Call) → LawfulCall c → spelled (record_bytes c) ≡ Some c
record_back c h =
    ap (λ (k : Option Kind). spelled_by k (lock_of c) (from_be_bytes w16 (to_be_bytes w16 (word_of c))) (from_be_bytes w64 (to_be_bytes w64 (payload_of c))) (caller_of c)) (letter_back (kind_of c))
    ∙ ap (λ (w : ℕ). spelled_as (kind_of c) (lock_of c) w (from_be_bytes w64 (to_be_bytes w64 (payload_of c))) (caller_of c)) (from_be_bytes-to_be_bytes_2 (word_of c) (word_fits c h))
    ∙ ap (λ (p : ℕ). spelled_as (kind_of c) (lock_of c) (word_of c) p (caller_of c)) (from_be_bytes-to_be_bytes_8 (payload_of c) (payload_fits c h))
    ∙ fields_spell c h

-- a letter that stands for a kind is its letter
kind_back : (letter : ℕ) (k : Kind) → kind_by letter ≡ Some k → letter ≡ letter_of k
kind_back letter k h = grind arith

-- a call has these fields
abbrev pub HasFields : Call → Kind → ℕ → ℕ → ℕ → ℕ → Type 0
HasFields c k lock word payload caller =
    (kind_of c ≡ k) × (lock_of c ≡ lock) × (word_of c ≡ word) × (payload_of c ≡ payload) × (caller_of c ≡ caller)

-- a call that was spelled has the fields that spelled it
fields_back : (k : Kind) (lock word payload caller : ℕ) (c : Call) → spelled_as k lock word payload caller ≡ Some c → HasFields c k lock word payload caller
fields_back kind.Load lock word payload caller c h = grind arith
fields_back kind.Store lock word payload caller c h = grind arith
fields_back kind.Evict lock word payload caller c h = grind arith
fields_back kind.Acquire lock word payload caller c h = grind arith
fields_back kind.Release lock word payload caller c h = grind arith
fields_back kind.Phase lock word payload caller c h = grind arith
fields_back kind.Settle lock word payload caller c h = grind arith

-- so many bytes from the start
pub part_take : (bytes : List ℕ) (size : ℕ) → size ≤ length bytes → part bytes 0 size ≡ take size bytes
part_take bytes zero h = refl
part_take [] (suc size) h = grind arith
part_take (b ∷ bs) (suc size) h = ap (λ (ds : List ℕ). b ∷ ds) (part_tail b bs 0 size ∙ part_take bs size (omega arith))
  where
    part_tail : (b : ℕ) (bs : List ℕ) (place size : ℕ) → part (b ∷ bs) (suc place) size ≡ part bs place size
    part_tail b bs place zero = refl
    part_tail b bs place (suc size) = ap (λ (ds : List ℕ). get_or bs place 0 ∷ ds) (part_tail b bs (suc place) size)

-- a record by its fields, with the bytes of word and payload
abbrev row : ℕ → ℕ → List ℕ → List ℕ → ℕ → List ℕ
row letter lock word payload caller = letter ∷ lock ∷ (word ++ (payload ++ (caller ∷ [])))

-- bytes that spell a call are its record
pub spelled_back : (bytes : List ℕ) (c : Call) → length bytes ≡ 13 → AllBelowBase 256 bytes → spelled bytes ≡ Some c → bytes ≡ record_bytes c
spelled_back bytes c long under h = go (kind_by (get_or bytes 0 0)) refl h
  where
    go : (o : Option Kind) → kind_by (get_or bytes 0 0) ≡ o → spelled_by o (get_or bytes 1 0) (field w16 bytes 2) (field w64 bytes 4) (get_or bytes 12 0) ≡ Some c → bytes ≡ record_bytes c
    go None e is = grind arith
    go (Some k) e is =
        let has = fields_back k (get_or bytes 1 0) (field w16 bytes 2) (field w64 bytes 4) (get_or bytes 12 0) c is in
        let letter : get_or bytes 0 0 ≡ letter_of (kind_of c) = kind_back (get_or bytes 0 0) k e ∙ ap letter_of (sym has.0) in
        let word : part bytes 2 2 ≡ to_be_bytes w16 (word_of c) = sym (field_back_2 bytes 2 under) ∙ ap (to_be_bytes w16) (sym has.2) in
        let payload : part bytes 4 8 ≡ to_be_bytes w64 (payload_of c) = sym (field_back_8 bytes 4 under) ∙ ap (to_be_bytes w64) (sym has.3) in
        let lock : get_or bytes 1 0 ≡ lock_of c = sym has.1 in
        let caller : get_or bytes 12 0 ≡ caller_of c = sym has.4 in
        let cut : bytes ≡ part bytes 0 13 = sym (take_all 13 bytes (omega arith)) ∙ sym (part_take bytes 13 (omega arith)) in
        let same : row (get_or bytes 0 0) (get_or bytes 1 0) (part bytes 2 2) (part bytes 4 8) (get_or bytes 12 0) ≡ row (letter_of (kind_of c)) (lock_of c) (to_be_bytes w16 (word_of c)) (to_be_bytes w64 (payload_of c)) (caller_of c) =
        λ i. row (letter i) (lock i) (word i) (payload i) (caller i) in
        cut ∙ same
