-- The exact signature: what its sets hold, and what it is after each operation; the facts beside them show what the sets then
-- hold, to the word, and that it keeps the sentences of every signature. Assumes nothing.
use Rattle.std.specs.Prelude.{◌≡◌, ℕ, cond}
use Rattle.std.proofs.Common.{refl}
use Rattle.std.proofs.lemmas.Nat.{div_below}
use Rattle.std.proofs.lemmas.Bool.{ltb-true, and_parts}
use Rattle.sets.specs.Operations.{Operations}
use Rattle.sets.specs.Sentences.{Sets, Put, TakenIn, Cleared, Bounded}
use Rattle.sets.specs.Rows.{in_range, added, words_put, rows_taken_in, rows_cleared}
use Rattle.sets.proofs.Rows.{chosen_holds}
use Rattle.sets.proofs.Sentences.{words_puts, takes_in, clears, rows_bounded}
use Rattle.signature.specs.Rows as rows
use Rattle.signature.specs.declared.exact.Exact.{Exact}

-- whether a core's set holds a word: the word's bit is set in the core's row of 64 words of 64 bits
abbrev pub held : Exact → Sets
held s = rows.bits s.rows

-- the signature whose sets are all empty
abbrev pub fresh : Exact
fresh = record { rows = rows.blank 64 }

-- after a put: the word's bit is set; out of range it is as it was
abbrev pub put : Exact → ℕ → ℕ → Exact
put s core word = cond (in_range core word) (record { rows = rows.with_bit s.rows core word }) s

-- after a take in: the core's row is joined with the other core's; out of range it is as it was
abbrev pub taken_in : Exact → ℕ → ℕ → Exact
taken_in s core other = record { rows = rows.taken_in s.rows core other }

-- after a clear: the core's row is empty; out of range it is as it was
abbrev pub cleared : Exact → ℕ → Exact
cleared s core = record { rows = rows.cleared s.rows core }

-- the exact signature's own operations
abbrev pub operations : Operations Exact
operations = record { holds = held; put = put; take_in = taken_in; clear = cleared }

-- after a put the core's set has the word more, and no other
pub put_holds : (s : Exact) (core word d v : ℕ) → held (put s core word) d v ≡ words_put (held s) core word d v
put_holds s core word =
    chosen_holds held (in_range core word) _ s (added (held s) core word)
    (λ range. let (low, short) = and_parts _ _ range in rows.with_bit_bits s.rows core word (ltb-true core 8 low) (div_below word 64 64 (ltb-true 0 64 refl) (ltb-true word 4096 short)))

-- after a take in the core's set has the other core's words more, and no other
pub taken_in_holds : (s : Exact) (core other d v : ℕ) → held (taken_in s core other) d v ≡ rows_taken_in (held s) core other d v
taken_in_holds s = rows.taken_in_bits s.rows

-- after a clear the core's set is empty
pub cleared_holds : (s : Exact) (core d v : ℕ) → held (cleared s core) d v ≡ rows_cleared (held s) core d v
cleared_holds s = rows.cleared_bits s.rows

-- outside the ranges nothing is held
pub bounded : (s : Exact) → Bounded (held s)
bounded s = rows_bounded s.rows.table s.rows.cores s.rows.widths

-- put keeps its sentences
pub puts : (s : Exact) (core word : ℕ) → Put (held s) (held (put s core word)) core word
puts s core word = words_puts (held s) (held (put s core word)) core word (put_holds s core word)

-- take in keeps its sentences
pub takes : (s : Exact) (core other : ℕ) → TakenIn (held s) (held (taken_in s core other)) core other
takes s core other = takes_in (held s) (held (taken_in s core other)) core other (taken_in_holds s core other)

-- clear keeps its sentences
pub clears_it : (s : Exact) (core : ℕ) → Cleared (held s) (held (cleared s core)) core
clears_it s core = clears (held s) (held (cleared s core)) core (cleared_holds s core)
