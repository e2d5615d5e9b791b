-- The exact and the Bloom signature keep the sentences: rows that gain or lose just what their definitions say do, and words
-- that are held by their two bits follow the bits, since a word is held where the bits are. Assumes nothing.
use Rattle.std.proofs.Common.{◌≡◌, ℕ, List, [], length, arith}
use Rattle.std.proofs.lemmas.Bool.{and_parts, ltb-true}
use Rattle.std.specs.List.{All}
use Rattle.sets.specs.Sentences.{Sets, Put, TakenIn, Cleared, Bounded}
use Rattle.sets.specs.Rows.{words_put, bits_put, rows_taken_in, rows_cleared, words_of_bits, first_bit, second_bit}
use Rattle.sets.specs.Tables.{rows_of}
use Rattle.sets.proofs.Rows.{bit_lies}

-- take in: rows that are joined in the ranges keep its sentences
pub takes_in : (g g' : Sets) (c e : ℕ) → ((d v : ℕ) → g' d v ≡ rows_taken_in g c e d v) → TakenIn g g' c e
takes_in g g' c e is =
    record {
      taken = λ hc he v h. grind (arith, is c v);
      kept = λ v h. grind (arith, is c v);
      others = λ d v ne. grind (arith, is d v);
      outside = λ never d v. grind (arith, is d v);
    }

-- clear: rows of which one is emptied in the range keep its sentences
pub clears : (g g' : Sets) (c : ℕ) → ((d v : ℕ) → g' d v ≡ rows_cleared g c d v) → Cleared g g' c
clears g g' c is =
    record {
      no_more = λ v h. grind (arith, is c v);
      others = λ d v ne. grind (arith, is d v);
      outside = λ never d v. grind (arith, is d v);
    }

-- put, exact: rows to which the named word is added in the ranges keep its sentences
pub words_puts : (g g' : Sets) (c w : ℕ) → ((d v : ℕ) → g' d v ≡ words_put g c w d v) → Put g g' c w
words_puts g g' c w is =
    record {
      named = λ p. let (low, short) = p in grind (arith, is c w);
      kept = λ v h. grind (arith, is c v);
      others = λ d v ne. grind (arith, is d v);
      outside = λ never d v. grind (arith, is d v);
    }

-- take in: the words follow the bits
pub words_take_in : (b b' : Sets) (c e : ℕ) → TakenIn b b' c e → TakenIn (words_of_bits b) (words_of_bits b') c e
words_take_in b b' c e t =
    record {
      taken = λ hc he v h. grind (arith, t.taken hc he (first_bit v), t.taken hc he (second_bit v));
      kept = λ v h. grind (arith, t.kept (first_bit v), t.kept (second_bit v));
      others = λ d v ne. grind (arith, t.others d (first_bit v) ne, t.others d (second_bit v) ne);
      outside = λ p d v. grind (arith, t.outside p d (first_bit v), t.outside p d (second_bit v));
    }

-- clear: the words follow the bits
pub words_clear : (b b' : Sets) (c : ℕ) → Cleared b b' c → Cleared (words_of_bits b) (words_of_bits b') c
words_clear b b' c t =
    record {
      no_more = λ v h. grind (arith, t.no_more (first_bit v), t.no_more (second_bit v));
      others = λ d v ne. grind (arith, t.others d (first_bit v) ne, t.others d (second_bit v) ne);
      outside = λ p d v. grind (arith, t.outside p d (first_bit v), t.outside p d (second_bit v));
    }

-- put, Bloom: rows in which the word's two bits are set in the ranges keep its sentences
pub bits_puts : (b b' : Sets) (c w : ℕ) → ((d x : ℕ) → b' d x ≡ bits_put b c w d x) → Put (words_of_bits b) (words_of_bits b') c w
bits_puts b b' c w is =
    record {
      named = λ p. let (low, short) = p in grind (arith, is c (first_bit w), is c (second_bit w));
      kept = λ v h. grind (arith, is c (first_bit v), is c (second_bit v));
      others = λ d v ne. grind (arith, is d (first_bit v), is d (second_bit v));
      outside = λ never d v. grind (arith, is d (first_bit v), is d (second_bit v));
    }

-- a table of eight rows as long as the words' range holds nothing outside the ranges
pub rows_bounded : (table : List (List ℕ)) → length table ≡ 8 → All (λ row. length row ≡ 64) table → Bounded (rows_of table)
rows_bounded table eight wide d v h =
    let lies = bit_lies table d v h in
    let width = wide d [] lies.0 in
    (omega (arith, eight, lies.0), omega (arith, width, lies.1))

-- words by their bits, of eight rows: nothing is held outside the ranges
pub bits_bounded : (table : List (List ℕ)) → length table ≡ 8 → Bounded (words_of_bits (rows_of table))
bits_bounded table eight d v h =
    let (short, bits) = and_parts _ _ h in
    let lies = bit_lies table d (first_bit v) (and_parts _ _ bits).0 in
    (omega (arith, eight, lies.0), ltb-true v 4096 short)
