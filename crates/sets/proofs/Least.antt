-- The exact rows are the least that keep the sentences: where every signature's sets must hold a word, the exact ones gain it,
-- and they gain no other. So they stay within the sets of any signature to which the same is done. Assumes nothing.
use Rattle.std.proofs.Common.{◌≡◌, ℕ, arith}
use Rattle.sets.specs.Sentences.{Sets, Put, TakenIn, Cleared, Within}
use Rattle.sets.specs.Rows.{words_put, rows_taken_in, rows_cleared}

-- a put
pub least_put : (g g' h h' : Sets) (c w : ℕ) → ((d v : ℕ) → g' d v ≡ words_put g c w d v) → Put h h' c w → Within g h → Within g' h'
least_put g g' h h' c w is put within d v p =
    grind (arith, is d v, within d v, put.named, put.kept v, put.others d v, put.outside)

-- a take in
pub least_take_in : (g g' h h' : Sets) (c e : ℕ) → ((d v : ℕ) → g' d v ≡ rows_taken_in g c e d v) → TakenIn h h' c e → Within g h → Within g' h'
least_take_in g g' h h' c e is taken within d v p =
    grind (arith, is d v, within d v, within e v, taken.taken, taken.kept v, taken.others d v, taken.outside)

-- a clear
pub least_clear : (g g' h h' : Sets) (c : ℕ) → ((d v : ℕ) → g' d v ≡ rows_cleared g c d v) → Cleared h h' c → Within g h → Within g' h'
least_clear g g' h h' c is clear within d v p = grind (arith, is d v, within d v, clear.others d v, clear.outside)
