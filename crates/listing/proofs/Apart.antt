-- A line can be read back: its number, and after it the core, the verb by its first letter and the other numbers, are found
-- again. Lines that can be read back are apart. Assumes nothing.
use Rattle.std.proofs.Common.{◌≡◌, ℕ, ◌^◌, ◌<◌, cond, eqb, List, [], ◌∷◌, get_or, drop, sym, refl, ap, ◌∙◌, arith}
use Rattle.call.specs.declared.call.Call.{Call}
use Rattle.call.specs.declared.call.Call.TheVariants as call
use Rattle.job.specs.Encoding.{LawfulCall}
use Rattle.lines.proofs.ReadBack.{past, number_in, number_back}
use Rattle.listing.specs.Laws.{LinesApart}
use Rattle.listing.specs.Lines.{call_line, core_line}

-- the call of a core by the text past the core, told by the verb's first letter
abbrev core_back : ℕ → List ℕ → Call
core_back core t =
    cond (eqb (get_or t 1 0) 108) (call.Load core (number_in (drop 11 t)))
    (cond (eqb (get_or t 1 0) 115) (call.Store core (number_in (drop 12 t)) (number_in (drop 7 (past (drop 12 t)))))
    (cond (eqb (get_or t 1 0) 101) (call.Evict core (number_in (drop 12 t)))
    (cond (eqb (get_or t 1 0) 97) (call.Acquire core (number_in (drop 14 t))) (call.Release core (number_in (drop 14 t))))))

-- the conductor's call by the text past the number
abbrev conductor_back : List ℕ → Call
conductor_back t = cond (eqb (get_or t 11 0) 112) (call.Phase (number_in (drop 22 t))) call.Settle

-- the call by the text past the number
abbrev call_back : List ℕ → Call
call_back t = cond (eqb (get_or t 3 0) 114) (core_back (number_in (drop 6 t)) (past (drop 6 t))) (conductor_back t)

-- what is read back of a line: its number and its call
abbrev Back : ℕ → Call → List ℕ → Type 0
Back n c line = (number_in line ≡ n) × (call_back (past line) ≡ c)

by_core : (n core : ℕ) (c : Call) (xs : List ℕ) → n < 2 ^ 64 → core < 8 → core_back core (32 ∷ xs) ≡ c → Back n c (core_line n core (32 ∷ xs))
by_core n core c xs hn hc is =
    let small : core < 2 ^ 64 = omega arith in
    let number = number_back n 32 _ hn refl in
    let caller = number_back core 32 xs small refl in
    (number.0, ap call_back number.1 ∙ (λ i. core_back (caller.0 i) (caller.1 i)) ∙ is)

line_back : (n : ℕ) (c : Call) → n < 2 ^ 64 → LawfulCall c → Back n c (call_line n c)
line_back n (call.Load core word) hn h =
    by_core n core _ _ hn h.0 (ap (call.Load core) (number_back word 10 [] (omega (arith, h.1)) refl).0)
line_back n (call.Store core word value') hn h =
    let held = (number_back value' 10 [] (omega (arith, h.2)) refl).0 in
    let place = number_back word 32 _ (omega (arith, h.1)) refl in
    by_core n core _ _ hn h.0
    ((λ i. call.Store core (place.0 i) (number_in (drop 7 (place.1 i)))) ∙ ap (call.Store core word) held)
line_back n (call.Evict core word) hn h =
    by_core n core _ _ hn h.0 (ap (call.Evict core) (number_back word 10 [] (omega (arith, h.1)) refl).0)
line_back n (call.Acquire core lock) hn h =
    by_core n core _ _ hn h.0 (ap (call.Acquire core) (number_back lock 10 [] (omega (arith, h.1)) refl).0)
line_back n (call.Release core lock) hn h =
    by_core n core _ _ hn h.0 (ap (call.Release core) (number_back lock 10 [] (omega (arith, h.1)) refl).0)
line_back n (call.Phase plan) hn h =
    let number = number_back n 32 _ hn refl in
    (number.0, ap call_back number.1 ∙ ap call.Phase (number_back plan 32 _ h refl).0)
line_back n call.Settle hn h =
    let number = number_back n 32 _ hn refl in
    (number.0, ap call_back number.1)

pub lines_apart : LinesApart
lines_apart m n c d hm hn hc hd e =
    let one = line_back m c hm hc in
    let two = line_back n d hn hd in
    (sym one.0 ∙ ap number_in e ∙ two.0, sym one.1 ∙ ap (λ (t : List ℕ). call_back (past t)) e ∙ two.1)
