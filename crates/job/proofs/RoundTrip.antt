-- Whole jobs, both ways. Forward, the fields of an encoding are the numbers that were encoded, and record after record
-- spells its call; backward, the first 16 bytes are those of the contents, and 13 bytes at a time are the record of the
-- call that they spell. Assumes nothing.
use Rattle.std.proofs.Common.{◌≡◌, ℕ, zero, suc, ◌+◌, ◌*◌, ◌^◌, ◌<◌, ◌≤◌, List, [], ◌∷◌, ◌++◌, length, get_or, take, drop, Some, None, Ok, Option, sym, refl, ap, ◌∙◌, arith}
use Rattle.std.proofs.ByRecursion.{All-take, All-drop}
use Rattle.std.proofs.lemmas.List.{take-append-drop, length-take-le, length-drop, nil_from_length}
use Rattle.std.proofs.lemmas.Nat.{from_be_bytes-to_be_bytes_2, from_be_bytes-to_be_bytes_4}
use Rattle.std.specs.Int.{w16, to_be_bytes}
use Rattle.std.specs.Option.{option_to_list}
use Rattle.std.specs.Simd.{first_chunks}
use Rattle.std.specs.Int.Digits.{AllBelowBase}
use Rattle.std.specs.List.{flat_map, AllByRecursion}
use Rattle.call.specs.Figures.{Five, five, checked}
use Rattle.call.specs.declared.call.Call.{Call}
use Rattle.call.specs.declared.fault.JobFault.{JobFault}
use Rattle.call.specs.declared.fault.JobFault.TheVariants.{Record}
use Rattle.job.specs.Bytes.{part, field}
use Rattle.job.specs.Encoding.{record_bytes, contents, encode, LawfulCall}
use Rattle.job.specs.Laws.{ReadsBack, EncodesAgain}
use Rattle.job.specs.Reading.{says, said_unless, job_fault, reading, spelled, unless_spelled, records_fault, calls, none, job_figures, job_records, records_of, job_calls}
use Rattle.job.proofs.BigEndian.{field_back_2, field_back_4}
use Rattle.job.proofs.Records.{length_calls}
use Rattle.job.proofs.Spelling.{record_back, spelled_back, part_take}

-- the records of calls are 13 bytes each
pub length_body : (cs : List Call) → length (flat_map record_bytes cs) ≡ 13 * length cs
length_body [] = refl
length_body (c ∷ cs) = let rest = length_body cs in omega arith

-- the records of lawful calls spell them, and none is against its layout
body_spells : (cs : List Call) (place : ℕ) → AllByRecursion LawfulCall cs → (records_fault place (first_chunks 13 (length cs) (flat_map record_bytes cs)) ≡ None) × (calls (first_chunks 13 (length cs) (flat_map record_bytes cs)) ≡ cs)
body_spells [] place h = (refl, refl)
body_spells (c ∷ cs) place h =
    let rest = body_spells cs (place + 13) h.1 in
    let left = first_chunks 13 (length cs) (flat_map record_bytes cs) in
    let here = record_back c h.0 in (
      ap (λ (o : Option Call). unless_spelled o (Record place) (records_fault (place + 13) left)) here ∙ rest.0,
      ap (λ (o : Option Call). option_to_list o ++ calls left) here ∙ ap (λ (ds : List Call). c ∷ ds) rest.1,
    )

-- checked figures fit their fields
figures_fit : (f : Five) → checked f ≡ Ok f → (f.words < 2 ^ 16) × (f.strip < 2 ^ 16) × (f.allowance < 2 ^ 32)
figures_fit f h = (grind arith, grind arith, grind arith)

-- bytes that say these figures and calls, with no fault, are read so
read_so : (bytes : List ℕ) (f : Five) (cs : List Call) → checked f ≡ Ok f → job_figures bytes ≡ f → field w16 bytes 6 ≡ 0 → job_records bytes ≤ 4608 → length bytes ≡ 16 + 13 * job_records bytes → records_fault 16 (records_of bytes) ≡ None → job_calls bytes ≡ cs → reading bytes ≡ Ok (says f cs)
read_so bytes f cs ok figures zeros few long lawful calls = grind arith

pub reads_back : ReadsBack
reads_back f cs ok lawful few =
    let fit = figures_fit f ok in
    let words = from_be_bytes-to_be_bytes_2 f.words fit.0 in
    let strip = from_be_bytes-to_be_bytes_2 f.strip fit.1 in
    let allowance = from_be_bytes-to_be_bytes_4 f.allowance fit.2 in
    let count : job_records (encode f cs) ≡ length cs = from_be_bytes-to_be_bytes_4 (length cs) (omega arith) in
    let body = body_spells cs 16 lawful in
    let long = length_body cs in
    let records : records_of (encode f cs) ≡ first_chunks 13 (length cs) (flat_map record_bytes cs) =
    ap (λ (n : ℕ). first_chunks 13 n (flat_map record_bytes cs)) count in
    read_so (encode f cs) f cs ok
    (λ i. five f.cores f.slots (words i) (strip i) (allowance i))
    refl
    (omega (arith, count))
    (omega (arith, count, long))
    (ap (records_fault 16) records ∙ body.0)
    (ap calls records ∙ body.1)

-- without a fault the first record spells a call, and past it there is none
first_spelled : (o : Option Call) (e : JobFault) (past : Option JobFault) → unless_spelled o e past ≡ None → (c : Call) × (o ≡ Some c) × (past ≡ None)
first_spelled None e past h = grind arith
first_spelled (Some c) e past h = (c, refl, h)

-- so many records, none against its layout, are the records of the calls that they spell
body_again : (n place : ℕ) (body : List ℕ) → length body ≡ 13 * n → AllBelowBase 256 body → records_fault place (first_chunks 13 n body) ≡ None → body ≡ flat_map record_bytes (calls (first_chunks 13 n body))
body_again zero place body long under h = nil_from_length body (omega arith)
body_again (suc n) place body long under h =
    let left = first_chunks 13 n (drop 13 body) in
    let here = first_spelled (spelled (take 13 body)) (Record place) (records_fault (place + 13) left) h in
    let thirteen : length (take 13 body) ≡ 13 = length-take-le 13 body (omega arith) in
    let rest : length (drop 13 body) ≡ 13 * n = simp length-drop (omega arith) in
    let first : take 13 body ≡ record_bytes here.0 = spelled_back (take 13 body) here.0 thirteen (All-take (λ b. b < 256) 13 body under) here.1 in
    let more = body_again n (place + 13) (drop 13 body) rest (All-drop (λ b. b < 256) 13 body under) here.2 in
    sym (take-append-drop 13 body)
    ∙ (λ i. first i ++ more i)
    ∙ ap (λ (o : Option Call). flat_map record_bytes (option_to_list o ++ calls left)) (sym here.1)

-- so many records there are
length_records : (n : ℕ) (body : List ℕ) → length (first_chunks 13 n body) ≡ n
length_records zero body = refl
length_records (suc n) body = ap suc (length_records n (drop 13 body))

-- the first 16 bytes are the contents that are read from them
head_again : (bytes : List ℕ) → 16 ≤ length bytes → AllBelowBase 256 bytes → field w16 bytes 6 ≡ 0 → take 16 bytes ≡ contents (job_figures bytes) (job_records bytes)
head_again bytes long under zeros =
    let words = sym (field_back_2 bytes 2 under) in
    let strip = sym (field_back_2 bytes 4 under) in
    let empty : part bytes 6 2 ≡ 0 ∷ 0 ∷ [] = sym (field_back_2 bytes 6 under) ∙ ap (to_be_bytes w16) zeros in
    let allowance = sym (field_back_4 bytes 8 under) in
    let count = sym (field_back_4 bytes 12 under) in
    let same : part bytes 0 16 ≡ contents (job_figures bytes) (job_records bytes) =
    λ i. get_or bytes 0 0 ∷ get_or bytes 1 0 ∷ (words i ++ (strip i ++ (empty i ++ (allowance i ++ count i)))) in
    sym (part_take bytes 16 long) ∙ same

pub encodes_again : EncodesAgain
encodes_again bytes f cs under h =
    let figures_are : job_figures bytes ≡ f = grind arith in
    let zeros : field w16 bytes 6 ≡ 0 = grind arith in
    let long : length bytes ≡ 16 + 13 * job_records bytes = grind arith in
    let lawful : records_fault 16 (records_of bytes) ≡ None = grind arith in
    let calls_are : job_calls bytes ≡ cs = grind arith in
    let rest : length (drop 16 bytes) ≡ 13 * job_records bytes = simp length-drop (omega arith) in
    let body = body_again (job_records bytes) 16 (drop 16 bytes) rest (All-drop (λ b. b < 256) 16 bytes under) lawful in
    let head = head_again bytes (omega arith) under zeros in
    let count : length (job_calls bytes) ≡ job_records bytes = length_calls (records_of bytes) (ap none lawful) ∙ length_records (job_records bytes) (drop 16 bytes) in
    sym (take-append-drop 16 bytes)
    ∙ (λ i. head i ++ body i)
    ∙ ap (λ (n : ℕ). contents (job_figures bytes) n ++ flat_map record_bytes (job_calls bytes)) (sym count)
    ∙ (λ i. encode (figures_are i) (calls_are i))

-- the same of what a check finds in a job: figures with these numbers, and these records
pub encoded_found : (bytes : List ℕ) (f : Five) (rs : List (List ℕ)) → AllBelowBase 256 bytes → job_fault bytes ≡ None → f ≡ job_figures bytes → rs ≡ records_of bytes → bytes ≡ encode f (calls rs)
encoded_found bytes f rs under fine numbers records =
    let read : reading bytes ≡ Ok (says (job_figures bytes) (job_calls bytes)) =
    ap (λ (o : Option JobFault). said_unless o (says (job_figures bytes) (job_calls bytes))) fine in
    encodes_again bytes (job_figures bytes) (job_calls bytes) under read
    ∙ (λ i. encode (sym numbers i) (calls (sym records i)))
