-- Two runs with the same order of holders: where a core holds a lock at moments at which it has made the same calls, the same
-- cores have released the lock before. Both runs' orders begin with the releasers so far and then the core, and the core
-- stands equally often among the releasers, since its releases are among its own calls. Assumes nothing.
use Rattle.std.proofs.Common.{◌≡◌, ℕ, zero, suc, ◌+◌, ◌-◌, ◌<◌, ◌≤◌, cond, eqb, List, [], ◌∷◌, ◌++◌, length, take, Some, None, Option, refl, ap, ◌∙◌, append_assoc, arith, length-append}
use Rattle.std.proofs.lemmas.List.Concat.{flat_map-append}
use Rattle.std.proofs.lemmas.Bool.{cond-true, eq-eqb}
use Rattle.std.specs.List.{count_by}
use Rattle.std.specs.Prelude.{◌==◌}
use Rattle.std.proofs.lemmas.List.Sums.{sum_by-append, sum_by-cons}
use Rattle.rules.specs.Histories.{acquirers, releasers, order_of_holders, ledger_of}
use Rattle.rules.specs.Runs.{History}
use Rattle.rules.specs.State.{Setting}
use Rattle.rules.proofs.Splits.{Placed, earlier, same, later, two_splits}
use Rattle.rules.proofs.Turns.{Legal, turn, line}

-- ── a list that begins with another ──

pub take_past : (xs : List ℕ) (c : ℕ) (ys : List ℕ) (n : ℕ) → length xs + 1 ≤ n → take n (xs ++ (c ∷ ys)) ≡ xs ++ (c ∷ take (n - (length xs + 1)) ys)
take_past [] c ys zero l = absurd (omega arith)
take_past [] c ys (suc n) l = let k : n ≡ suc n - 1 = omega arith in ap (λ (m : ℕ). c ∷ take m ys) k
take_past (x ∷ xs) c ys zero l = absurd (omega arith)
take_past (x ∷ xs) c ys (suc n) l =
    let k : n - (length xs + 1) ≡ suc n - (suc (length xs) + 1) = omega arith in
    ap (λ (r : List ℕ). x ∷ r) (take_past xs c ys n (omega arith) ∙ ap (λ (m : ℕ). xs ++ (c ∷ take m ys)) k)

-- how often a core stands in a list
abbrev pub times : ℕ → List ℕ → ℕ
times c xs = count_by (λ x. x == c) xs

pub times_append : (c : ℕ) (xs ys : List ℕ) → times c (xs ++ ys) ≡ times c xs + times c ys
times_append c xs ys = sum_by-append _ xs ys

times_here : (c : ℕ) (xs ys : List ℕ) → times c xs < times c (xs ++ (c ∷ ys))
times_here c xs ys =
    let whole = times_append c xs (c ∷ ys) in
    let one : cond {A = ℕ} (eqb c c) 1 0 ≡ 1 = cond-true (eqb c c) 1 0 (eq-eqb c c refl) in
    omega (arith, sum_by-cons (λ (x : ℕ). cond {A = ℕ} (x == c) 1 0) c ys)

-- two beginnings of one list before a core that stands equally often in them are one
pub same_beginning : (c : ℕ) (xs ys us vs : List ℕ) → xs ++ (c ∷ us) ≡ ys ++ (c ∷ vs) → times c xs ≡ times c ys → xs ≡ ys
same_beginning c xs ys us vs e n = go (two_splits xs c us ys c vs e)
  where
    go : Placed xs c ys c → xs ≡ ys
    go (earlier m p) = let less : times c xs < times c ys = rw p (times_here c xs m) in absurd (omega arith)
    go (same p q) = p
    go (later m p) = let less : times c ys < times c xs = rw p (times_here c ys m) in absurd (omega arith)

-- ── the order of holders begins with the releasers and the holder ──

pub holders_begin : (b : Setting) (h : History) → Legal b h → (lock core : ℕ) (first rest : History) → h ≡ first ++ rest → ((ledger_of first).locks lock).holder ≡ Some core → (more : List ℕ) × (order_of_holders lock h ≡ releasers lock first ++ (core ∷ more))
holders_begin b h ok lock core first rest split holds =
    let t = turn b h ok lock first rest split in
    let queue = ((ledger_of first).locks lock).queue in
    let got : acquirers lock first ≡ releasers lock first ++ (core ∷ queue) = t.turns ∙ ap (λ (o : Option ℕ). releasers lock first ++ line (record { holder = o; queue = queue; last = None })) holds in
    let whole : acquirers lock h ≡ releasers lock first ++ (core ∷ (queue ++ acquirers lock rest)) = ap (acquirers lock) split ∙ (flat_map-append _ first rest ∙ (ap (λ (k : List ℕ). k ++ acquirers lock rest) got ∙ append_assoc (releasers lock first) (core ∷ queue) (acquirers lock rest))) in
    let count : length (releasers lock h) ≡ length (releasers lock first) + length (releasers lock rest) = ap (λ (k : History). length (releasers lock k)) split ∙ (ap length (flat_map-append _ first rest) ∙ length-append (releasers lock first) (releasers lock rest)) in
    (_, ap (take (length (releasers lock h) + 1)) whole ∙ take_past (releasers lock first) core (queue ++ acquirers lock rest) (length (releasers lock h) + 1) (omega arith))
