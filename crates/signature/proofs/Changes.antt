-- The law that no word is lost: each change keeps the exact sets within those of any signature that keeps the sentences, so by
-- induction a whole list of changes does. Assumes nothing.
use Rattle.std.proofs.Common.{◌≡◌, ℕ, List, [], ◌∷◌, sym, ap, ◌∙◌}
use Rattle.sets.specs.Operations.{Operations}
use Rattle.sets.specs.Sentences.{Within, TakenIn, Cleared}
use Rattle.sets.specs.Sentences as sentence
use Rattle.sets.proofs.Least.{least_put, least_take_in, least_clear}
use Rattle.signature.specs.Changes.{changed, applied}
use Rattle.signature.specs.Exacts.{operations as exact, held, put, taken_in, cleared, put_holds, taken_in_holds, cleared_holds}
use Rattle.signature.specs.declared.change.Change.{Change}
use Rattle.signature.specs.declared.change.Change.TheVariants.{Put, TakeIn, Clear}
use Rattle.signature.specs.declared.exact.Exact.{Exact}

-- a signature whose operations keep the sentences
module _ {S : Type 0} (ops : Operations S)
    (puts : (s : S) (c w : ℕ) → sentence.Put (ops.holds s) (ops.holds (ops.put s c w)) c w)
    (takes : (s : S) (c o : ℕ) → TakenIn (ops.holds s) (ops.holds (ops.take_in s c o)) c o)
    (clears : (s : S) (c : ℕ) → Cleared (ops.holds s) (ops.holds (ops.clear s c)) c) where
  -- one change keeps the exact sets within its sets
  kept_within : (e : Exact) (s : S) (x : Change) → Within (held e) (ops.holds s) → Within (held (changed exact e x)) (ops.holds (changed ops s x))
  kept_within e s (Put c w) within = least_put (held e) (held (put e c w)) (ops.holds s) (ops.holds (ops.put s c w)) c w (put_holds e c w) (puts s c w) within
  kept_within e s (TakeIn c o) within =
      least_take_in (held e) (held (taken_in e c o)) (ops.holds s) (ops.holds (ops.take_in s c o)) c o (taken_in_holds e c o) (takes s c o) within
  kept_within e s (Clear c) within = least_clear (held e) (held (cleared e c)) (ops.holds s) (ops.holds (ops.clear s c)) c (cleared_holds e c) (clears s c) within

  -- the same of two signatures that are what the change leaves
  pub once_within : (e e' : Exact) (s s' : S) (x : Change) → e' ≡ changed exact e x → s' ≡ changed ops s x →
      Within (held e) (ops.holds s) → Within (held e') (ops.holds s')
  once_within e e' s s' x is is' within d v h =
      ap (λ u. ops.holds u d v) is' ∙ kept_within e s x within d v (ap (λ u. held u d v) (sym is) ∙ h)

  -- no list of changes loses a word
  pub never_loses : (xs : List Change) (e : Exact) (s : S) → Within (held e) (ops.holds s) → Within (held (applied exact e xs)) (ops.holds (applied ops s xs))
  never_loses [] e s within = within
  never_loses (x ∷ xs) e s within = never_loses xs (changed exact e x) (changed ops s x) (kept_within e s x within)

  -- the same of two signatures that are what the changes leave
  pub never_loses_at : (xs : List Change) (e : Exact) (s : S) (e' : Exact) (s' : S) → e' ≡ applied exact e xs → s' ≡ applied ops s xs →
      Within (held e) (ops.holds s) → Within (held e') (ops.holds s')
  never_loses_at xs e s e' s' is is' within d v h =
      ap (λ u. ops.holds u d v) is' ∙ never_loses xs e s within d v (ap (λ u. held u d v) (sym is) ∙ h)
