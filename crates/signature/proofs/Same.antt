-- Rows with one table are one value: their ghost facts are equations of numbers, of which there is one proof. So a method that leaves
-- the table of a definition leaves the rows of it. Assumes nothing.
use mathlib.Core.HLevel.{is_prop→PathP}
use Rattle.std.proofs.Common.{◌≡◌, ℕ, length, replicate}
use denote.Struct.Props.{props}
use Rattle.std.specs.List.{All}
use Rattle.sets.specs.Tables as tables
use Rattle.signature.specs.Rows.{blank, with_bit, joined, emptied}
use Rattle.signature.specs.declared.rows.Rows.{Rows}

module _ {W : ℕ} where
  same_rows : (r s : Rows W) → r.table ≡ s.table → r ≡ s
  same_rows r s e =
      λ i. record {
        table = e i;
        cores = is_prop→PathP (λ j. length (e j) ≡ 8) (λ j. hlevel props) r.cores s.cores i;
        widths = is_prop→PathP (λ j. All (λ row. length row ≡ W) (e j)) (λ j. hlevel props) r.widths s.widths i;
      }

  -- the rows as they are made
  pub rows_blank : (r : Rows W) → r.table ≡ replicate 8 (replicate W 0) → r ≡ blank W
  unfolding blank
  rows_blank r e = same_rows r (blank W) e

  -- the rows with a bit set
  pub rows_with_bit : (r s : Rows W) (c x : ℕ) → s.table ≡ tables.with_bit r.table c x → s ≡ with_bit r c x
  unfolding with_bit
  rows_with_bit r s c x e = same_rows s (with_bit r c x) e

  -- the rows with a row joined
  pub rows_joined : (r s : Rows W) (c o : ℕ) → s.table ≡ tables.with_joined r.table c o → s ≡ joined r c o
  unfolding joined
  rows_joined r s c o e = same_rows s (joined r c o) e

  -- the rows with a row emptied
  pub rows_emptied : (r s : Rows W) (c : ℕ) → s.table ≡ tables.with_emptied W r.table c → s ≡ emptied r c
  unfolding emptied
  rows_emptied r s c e = same_rows s (emptied r c) e
