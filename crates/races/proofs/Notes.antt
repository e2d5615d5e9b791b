-- One more access: the pair of its word and kind takes the core in, every other pair stays, and both tell the earliest access by
-- another core as the longer list has it. Assumes nothing.
use Rattle.std.proofs.Common.{◌≡◌, ℕ, ◌<◌, ◌≤◌, Bool, true, false, cond, not, eqb, List, [], ◌∷◌, ◌++◌, length, set, Some, None, Option, sym, refl, ◌∙◌, subst, ⊎_elim, arith}
use Rattle.std.proofs.lemmas.Bool.{ne_eqb, cases_eq}
use Rattle.std.proofs.lemmas.Bool.Decides.{nat_tests}
use Rattle.std.proofs.lemmas.Grind.{common_steps}
use Rattle.std.proofs.lemmas.List.{get_or-set_same, get_or-set_other}
use Rattle.call.specs.declared.refusal.Access.{Access}
use Rattle.call.specs.declared.refusal.Access.TheVariants.{Load, Store}
use Rattle.rules.specs.Refusals.{by_another, earliest}
use Rattle.rules.specs.State.{Accessed}
use Rattle.races.specs.Pairs.{noted, other_than, noted_by, other_by}
use Rattle.races.specs.Remembered.{remembered_in, noted_in, Tells, current}
use Rattle.races.specs.Stamps.{unseen, up_to}
use Rattle.races.specs.declared.pair.Pair.{Pair}
use Rattle.races.specs.declared.seen.Seen.{Seen}

abbrev or_else : Option ℕ → Bool → ℕ → Option ℕ
or_else None test core = cond test (Some core) None
or_else (Some c) test core = Some c

-- the earliest in a longer list
pub earliest_push : (access : Access) (core word : ℕ) (accesses : List Accessed) (a : Accessed) → earliest access core word (accesses ++ (a ∷ [])) ≡ or_else (earliest access core word accesses) (by_another access core word a) a.core
earliest_push access core word [] a = refl
earliest_push access core word (b ∷ more) a = let e = earliest_push access core word more a in grind (arith, nat_tests)

-- a pair that takes a core in names it where it named none before
pub noted_other : (p : Pair) (c core : ℕ) → other_than (noted p c) core ≡ or_else (other_than p core) (not (eqb c core)) c
noted_other p c core = go p.first p.second
  where
    go : (first second : Option ℕ) → other_than (noted_by first second c) core ≡ or_else (other_by first second core) (not (eqb c core)) c
    go None second = grind (arith, nat_tests)
    go (Some a) None = grind (arith, nat_tests)
    go (Some a) (Some b) = grind (arith, nat_tests)

-- the pair of the access's own word and kind
pub noted_tells : (p : Pair) (access : Access) (c word core : ℕ) (accesses : List Accessed) → other_than p core ≡ earliest access core word accesses → other_than (noted p c) core ≡ earliest access core word (accesses ++ (record { core = c; word = word; access = access } ∷ []))
noted_tells p Load c word core accesses e =
    let n = noted_other p c core in let l = earliest_push Load core word accesses (record { core = c; word = word; access = Load }) in grind (arith, nat_tests)
noted_tells p Store c word core accesses e =
    let n = noted_other p c core in let l = earliest_push Store core word accesses (record { core = c; word = word; access = Store }) in grind (arith, nat_tests)

-- an access that is no such access leaves the earliest one
pub other_tells : (access : Access) (core word : ℕ) (accesses : List Accessed) (a : Accessed) → by_another access core word a ≡ false → earliest access core word (accesses ++ (a ∷ [])) ≡ earliest access core word accesses
other_tells access core word accesses a n = let l = earliest_push access core word accesses a in grind (arith, nat_tests)

-- ── one more access in the table ──

module _ (seen : List Seen) (stamp : ℕ) (access : Access) (core word : ℕ) (accesses : List Accessed) (told : Tells seen stamp accesses) where
  abbrev longer : List Accessed
  longer = accesses ++ (record { core = core; word = word; access = access } ∷ [])

  -- the earliest access to another word stays
  elsewhere : (k : Access) (c w : ℕ) → (word ≡ w → ⊥) → earliest k c w longer ≡ earliest k c w accesses
  elsewhere k c w n =
      let apart = ne_eqb word w n in other_tells k c w accesses (record { core = core; word = word; access = access }) (grind (arith, nat_tests))

  -- a word past the table is not remembered, and no word of the table is it
  pub tells_past : 4096 ≤ word → Tells seen stamp longer
  tells_past past k c w inside = told k c w inside ∙ sym (elsewhere k c w (λ e. omega arith))

  -- what the word's memory becomes
  abbrev before : Seen
  before = record { stamp = stamp; loads = remembered_in seen stamp Load word; stores = remembered_in seen stamp Store word }

  abbrev new : Seen
  new = noted_in access before core

  -- of the word itself, by the kind of the access and the kind asked for
  here : (k : Access) (c : ℕ) → word < 4096 → other_than (current new stamp k) c ≡ earliest k c word longer
  here k c small = go access k
    where
      go : (a j : Access) → other_than (current (noted_in a before core) stamp j) c ≡ earliest j c word (accesses ++ (record { core = core; word = word; access = a } ∷ []))
      go Load Load = let t = told Load c word small in let n = noted_tells (remembered_in seen stamp Load word) Load core word c accesses t in grind (arith, nat_tests)
      go Load Store = let t = told Store c word small in let n = other_tells Store c word accesses (record { core = core; word = word; access = Load }) refl in grind (arith, nat_tests)
      go Store Load = let t = told Load c word small in let n = other_tells Load c word accesses (record { core = core; word = word; access = Store }) refl in grind (arith, nat_tests)
      go Store Store = let t = told Store c word small in let n = noted_tells (remembered_in seen stamp Store word) Store core word c accesses t in grind (arith, nat_tests)

  pub tells_noted : word < length seen → Tells (set seen word new) stamp longer
  tells_noted inside k c w small = ⊎_elim same apart (cases_eq w word)
    where
      same : w ≡ word → other_than (remembered_in (set seen word new) stamp k w) c ≡ earliest k c w longer
      same e = rw (e, get_or-set_same seen word new unseen inside) (here k c (omega arith))

      apart : (w ≡ word → ⊥) → other_than (remembered_in (set seen word new) stamp k w) c ≡ earliest k c w longer
      apart n = rw (get_or-set_other seen word w new unseen n) (told k c w small ∙ sym (elsewhere k c w (λ e. n (sym e))))

  -- the same of an entry that is that memory
  pub tells_entered : (s : Seen) → s ≡ new → word < length seen → Tells (set seen word s) stamp longer
  tells_entered s e inside = subst (λ (t : Seen). Tells (set seen word t) stamp longer) (sym e) (tells_noted inside)

-- an access keeps the stamp
pub noted_stamp : (access : Access) (s : Seen) (core : ℕ) → (noted_in access s core).stamp ≡ s.stamp
noted_stamp Load s core = refl
noted_stamp Store s core = refl

-- an entry with this stamp leaves no stamp above it
pub entered_up_to : (seen : List Seen) (stamp word : ℕ) (s : Seen) → s.stamp ≡ stamp → ((w : ℕ) → up_to seen stamp w ≡ true) → (w : ℕ) → up_to (set seen word s) stamp w ≡ true
entered_up_to seen stamp word s e older w = let o = older w in grind (arith, common_steps, nat_tests)
