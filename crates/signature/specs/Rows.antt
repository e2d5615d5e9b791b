-- Eight rows of bits: what they mean, and what they are after each operation; the facts beside them show which bits they then have,
-- to the bit. Assumes nothing.
use Rattle.std.specs.Prelude.{◌≡◌, ℕ, ◌/◌, ◌<◌, cond, ◌&&◌, List, [], length, replicate, nat_lt}
use Rattle.std.proofs.Common.{◌∙◌, length-set}
use Rattle.std.proofs.lemmas.Bool.{ltb-true, and_parts}
use Rattle.std.proofs.lemmas.List.{length-replicate}
use Rattle.std.proofs.lemmas.List.Elements.{All-replicate}
use Rattle.sets.specs.Sentences.{Sets}
use Rattle.sets.specs.Rows.{added, rows_taken_in, rows_cleared}
use Rattle.sets.specs.Rows as rows
use Rattle.sets.specs.Tables.{row_of, rows_of}
use Rattle.sets.specs.Tables as tables
use Rattle.sets.proofs.Rows.{chosen_holds, length_joined, wide, rows_with_bit, rows_joined, rows_emptied}
use Rattle.signature.specs.declared.rows.Rows.{Rows}

module _ {W : ℕ} where
  -- whether a bit of a core is set in its row, as a test of (core, bit)
  abbrev pub bits : Rows W → Sets
  bits r = rows_of r.table

  -- the rows with bit x of a core's row set
  unfoldable pub with_bit : Rows W → ℕ → ℕ → Rows W
  with_bit r core x =
      record {
        table = tables.with_bit r.table core x;
        cores = length-set _ _ _ ∙ r.cores;
        widths = wide W core r.table _ r.widths (λ h. length-set _ _ _ ∙ r.widths core [] h);
      }

  -- the rows with a core's row joined with another core's
  unfoldable pub joined : Rows W → ℕ → ℕ → Rows W
  joined r core other =
      record {
        table = tables.with_joined r.table core other;
        cores = length-set _ _ _ ∙ r.cores;
        widths = wide W core r.table _ r.widths (λ h. length_joined _ _ ∙ r.widths core [] h);
      }

  -- the rows with a core's row emptied
  unfoldable pub emptied : Rows W → ℕ → Rows W
  emptied r core =
      record {
        table = tables.with_emptied W r.table core;
        cores = length-set _ _ _ ∙ r.cores;
        widths = wide W core r.table _ r.widths (λ h. length-replicate {A = ℕ} W 0);
      }

  -- after a take in: the core's row is joined with the other core's; out of range they are as they were
  abbrev pub taken_in : Rows W → ℕ → ℕ → Rows W
  taken_in r core other = cond (nat_lt core 8 && nat_lt other 8) (joined r core other) r

  -- after a clear: the core's row is empty; out of range they are as they were
  abbrev pub cleared : Rows W → ℕ → Rows W
  cleared r core = cond (nat_lt core 8) (emptied r core) r

  -- with a bit set that the row has, that bit is set, and no other
  pub with_bit_bits : (r : Rows W) (c x : ℕ) → c < 8 → x / 64 < W → (d y : ℕ) → bits (with_bit r c x) d y ≡ added (bits r) c x d y
  unfolding with_bit
  with_bit_bits r c x low = rows_with_bit W r.table r.cores r.widths c low x

  -- after a take in the other core's bits are set in the core's row, and no other
  pub taken_in_bits : (r : Rows W) (c e d y : ℕ) → bits (taken_in r c e) d y ≡ rows_taken_in (bits r) c e d y
  unfolding joined
  taken_in_bits r c e =
      chosen_holds bits (nat_lt c 8 && nat_lt e 8) (joined r c e) r (rows.joined (bits r) c e)
      (λ range. let (low, other) = and_parts (nat_lt c 8) (nat_lt e 8) range in
      rows_joined W r.table r.cores r.widths c (ltb-true c 8 low) e (ltb-true e 8 other))

  -- after a clear no bit of the core's row is set
  pub cleared_bits : (r : Rows W) (c d y : ℕ) → bits (cleared r c) d y ≡ rows_cleared (bits r) c d y
  unfolding emptied
  cleared_bits r c =
      chosen_holds bits (nat_lt c 8) (emptied r c) r (rows.emptied (bits r) c) (λ low. rows_emptied W r.table r.cores r.widths c (ltb-true c 8 low))

-- rows without bits
unfoldable pub blank : (W : ℕ) → Rows W
blank W =
    record {
      table = replicate 8 (replicate W 0);
      cores = length-replicate {A = List ℕ} 8 (replicate W 0);
      widths = All-replicate (λ r. length r ≡ W) 8 (replicate W 0) (length-replicate {A = ℕ} W 0);
    }
