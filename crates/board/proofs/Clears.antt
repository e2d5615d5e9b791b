-- Signatures cleared one after another. Assumes nothing.
use Rattle.std.proofs.Common.{◌≡◌, ℕ, ◌+◌, [], ◌∷◌, map, ap, add-one}
use Rattle.std.proofs.lemmas.Grind.{fold-append}
use Rattle.std.proofs.lemmas.List.{map-append}
use Rattle.rules.specs.Steps.{clear, Operations, changed, changed_by}
use Rattle.rules.specs.Tables.{below}

-- one more core
pub cleared_more : {S : Type 0} (ops : Operations S) (s t : S) (n : ℕ) → t ≡ changed_by ops s (map clear (below n)) → ops.clear t n ≡ changed_by ops s (map clear (below (n + 1)))
cleared_more ops s t n e =
    rw (add-one, map-append clear (below n) (n ∷ []), fold-append (changed ops) s (map clear (below n)) (clear n ∷ [])) (ap (λ (u : _). ops.clear u n) e)
