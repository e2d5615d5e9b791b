-- Going through the records of a job one by one: the place of the first that is against its layout, and records that each
-- spell a call. Assumes nothing.
use Rattle.std.proofs.Common.{◌≡◌, ℕ, zero, suc, ◌+◌, ◌-◌, ◌*◌, Bool, true, not, cond, ltb, List, [], ◌∷◌, ◌++◌, length, drop, is_some, Some, None, Option, sym, refl, ap, ◌∙◌, subst, arith}
use Rattle.std.proofs.lemmas.List.{length-drop, drop-drop, drop_all}
use Rattle.std.specs.List.{position, position_or_len}
use Rattle.std.specs.Option.{option_map, option_to_list}
use Rattle.call.specs.declared.call.Call.{Call}
use Rattle.call.specs.declared.fault.JobFault.{JobFault}
use Rattle.call.specs.declared.fault.JobFault.TheVariants.{Record}
use Rattle.job.specs.Jobs.{first}
use Rattle.job.specs.Reading.{spelled, unless_spelled, records_fault, calls, none}

-- whether a record is against its layout
abbrev pub unlawful : List ℕ → Bool
unlawful r = not (is_some (spelled r))

-- the fault of so many records, the first of which stands at a place
abbrev pub fault_of : ℕ → Option ℕ → Option JobFault
fault_of place at = option_map (λ i. Record (place + 13 * i)) at

-- one record further on a fault stands 13 bytes on
later : (place n len : ℕ) → fault_of (place + 13) (cond (ltb n len) (Some n) None) ≡ fault_of place (cond (ltb (1 + n) (suc len)) (Some (1 + n)) None)
later place n len = grind arith

-- the first record against its layout is the first that is not spelled
pub first_unlawful : (rs : List (List ℕ)) (place : ℕ) → records_fault place rs ≡ fault_of place (position unlawful rs)
first_unlawful [] place = refl
first_unlawful (r ∷ rs) place = go (first_unlawful rs (place + 13)) (spelled r)
  where
    n : ℕ
    n = position_or_len unlawful rs

    found : ℕ → Option ℕ
    found k = cond (ltb k (suc (length rs))) (Some k) None

    go : records_fault (place + 13) rs ≡ fault_of (place + 13) (position unlawful rs) → (o : Option Call) → unless_spelled o (Record place) (records_fault (place + 13) rs) ≡ fault_of place (found (cond (not (not (is_some o))) (1 + n) 0))
    go more None = grind arith
    go more (Some c) = more ∙ later place n (length rs)

-- records without a fault spell so many calls
calls_from : (rs : List (List ℕ)) (place : ℕ) → none (records_fault place rs) ≡ true → length (calls rs) ≡ length rs
calls_from [] place h = refl
calls_from (r ∷ rs) place h = let more = calls_from rs (place + 13) in grind arith

pub length_calls : (rs : List (List ℕ)) → none (records_fault 16 rs) ≡ true → length (calls rs) ≡ length rs
length_calls rs h = calls_from rs 16 h

-- of records without a fault, the first that is left past some spells a call
abbrev pub Spells : List (List ℕ) → Type 0
Spells [] = Unit {0}
Spells (r ∷ rs) = is_some (spelled r) ≡ true

left_spells : (k place : ℕ) (rs : List (List ℕ)) → none (records_fault place rs) ≡ true → Spells (drop k rs)
left_spells zero place [] h = tt
left_spells (suc k) place [] h = tt
left_spells zero place (r ∷ rs) h = grind arith
left_spells (suc k) place (r ∷ rs) h = left_spells k (place + 13) rs (grind arith)

-- at the end of the records none is left
pub within_none : (rs : List (List ℕ)) → [] ≡ drop (length rs - 0) rs
within_none rs = sym (drop_all (length rs - 0) rs (omega arith))

-- one record is read of those left: the rest of them are still an end of all, and the calls left begin with the call that it spells
module _ (rs left more : List (List ℕ)) (r : List ℕ) (within : left ≡ drop (length rs - length left) rs) (e : left ≡ r ∷ more) where
  pub within_more : more ≡ drop (length rs - length more) rs
  within_more =
      let size : length left ≡ suc (length more) = ap length e in
      let end : length left ≡ length rs - (length rs - length left) = ap length within ∙ length-drop (length rs - length left) rs in
      let next : length rs - length left + 1 ≡ length rs - length more = omega (arith, size, end) in
      ap (drop 1) (sym e ∙ within) ∙ drop-drop 1 (length rs - length left) rs ∙ ap (λ (k : ℕ). drop k rs) next

  pub call_read : (o : Option Call) → none (records_fault 16 rs) ≡ true → o ≡ spelled r → (o ≡ first (calls left)) × (calls more ≡ drop 1 (calls left))
  call_read o h is =
      let found : Spells (r ∷ more) = subst Spells (sym within ∙ e) (left_spells (length rs - length left) 16 rs h) in
      let all : calls left ≡ option_to_list (spelled r) ++ calls more = ap calls e in
      grind arith
