use Rattle.std.proofs.Common.{◌≡◌, ◌<◌, true, List, replicate, sym, ap, subst, arith, rules}
use Rattle.races.specs.Stamps.{seen_at, up_to}
use Rattle.races.specs.declared.seen.Seen.{Seen}
use Rattle.races.proofs.Empty.{unseen_at, blank_up_to, forgotten}
use Rattle.races.proofs.races.Races.new.Goals as goal

pub invariant_of-result : goal.invariant_of-result
invariant_of-result c =
    let blank = ap (λ (s : Seen). replicate 4096 s) c.nothing.ensures in
    record {
      full = search rules;
      begun = omega arith;
      older = λ word. subst (λ (t : List Seen). up_to t 1 word ≡ true) (sym blank) (blank_up_to 4096 1 word);
    }

pub returns : goal.returns
returns c =
    let blank = ap (λ (s : Seen). replicate 4096 s) c.nothing.ensures in
    forgotten (replicate 4096 c.nothing.result) 1 (λ w. subst (λ (t : List Seen). (seen_at t w).stamp < 1) (sym blank) (subst (λ (s : Seen). s.stamp < 1) (sym (unseen_at 4096 w)) (omega arith)))
