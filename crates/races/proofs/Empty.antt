-- A memory without this phase's stamps remembers nothing. Assumes nothing.
use Rattle.std.proofs.Common.{◌≡◌, ℕ, zero, suc, ◌<◌, true, false, eqb, leb, List, [], replicate, refl, ap, ◌∙◌, arith}
use Rattle.std.proofs.lemmas.Bool.{ne_eqb, cond-false, le-leb}
use Rattle.races.specs.Pairs.{nobody, other_than}
use Rattle.races.specs.Remembered.{pair_of, Tells}
use Rattle.races.specs.Stamps.{unseen, seen_at, up_to}
use Rattle.races.specs.declared.pair.Pair.{Pair}
use Rattle.races.specs.declared.seen.Seen.{Seen}

pub unseen_at : (n w : ℕ) → seen_at (replicate n unseen) w ≡ unseen
unseen_at zero w = refl
unseen_at (suc n) zero = refl
unseen_at (suc n) (suc w) = unseen_at n w

pub blank_up_to : (n stamp w : ℕ) → up_to (replicate n unseen) stamp w ≡ true
blank_up_to n stamp w = ap (λ (s : Seen). leb s.stamp stamp) (unseen_at n w) ∙ le-leb 0 stamp (omega arith)

-- a table in which no word has this stamp
pub forgotten : (seen : List Seen) (stamp : ℕ) → ((w : ℕ) → (seen_at seen w).stamp < stamp) → Tells seen stamp []
forgotten seen stamp older access core word inside =
    let low = older word in
    let apart : eqb (seen_at seen word).stamp stamp ≡ false = ne_eqb _ _ (λ e. omega arith) in
    ap (λ (p : Pair). other_than p core) (cond-false (eqb (seen_at seen word).stamp stamp) (pair_of (seen_at seen word) access) nobody apart)
