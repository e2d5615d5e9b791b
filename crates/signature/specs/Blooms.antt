-- The Bloom signature: which bits it has, what its sets hold by them, and what it is after each operation; the facts beside them
-- show which bits it then has, to the bit, and that it keeps the sentences of every signature. Assumes nothing.
use Rattle.std.specs.Prelude.{◌≡◌, ℕ, ◌+◌, ◌*◌, ◌/◌, ◌<◌, ◌||◌, ◌&&◌, cond, eqb, true}
use Rattle.std.proofs.Common.{◌∙◌, ap, refl}
use Rattle.std.proofs.lemmas.Nat.{div_below, mod_below}
use Rattle.std.proofs.lemmas.Bool.{ltb-true, and_parts}
use Rattle.sets.specs.Operations.{Operations}
use Rattle.sets.specs.Sentences.{Sets, Put, TakenIn, Cleared, Bounded}
use Rattle.sets.specs.Rows.{in_range, first_bit, second_bit, added, bits_put, rows_taken_in, rows_cleared, words_of_bits}
use Rattle.sets.proofs.Rows.{chosen_holds}
use Rattle.sets.proofs.Sentences.{bits_puts, takes_in, clears, words_take_in, words_clear, bits_bounded}
use Rattle.signature.specs.Rows as rows
use Rattle.signature.specs.declared.bloom.Bloom.{Bloom}

-- whether a bit of a core is set in its row of 4 words of 64 bits, as a test of (core, bit)
abbrev pub bits : Bloom → Sets
bits s = rows.bits s.rows

-- whether a core's set holds a word: both of the word's bits are set
abbrev pub held : Bloom → Sets
held s = words_of_bits (bits s)

-- the signature whose bits are all 0
abbrev pub fresh : Bloom
fresh = record { rows = rows.blank 4 }

-- the signature with the two bits of one word set
abbrev pub with_word : Bloom → ℕ → ℕ → Bloom
with_word s core word = record { rows = rows.with_bit (rows.with_bit s.rows core (first_bit word)) core (second_bit word) }

-- after a put: the word's two bits are set; out of range it is as it was
abbrev pub put : Bloom → ℕ → ℕ → Bloom
put s core word = cond (in_range core word) (with_word s core word) s

-- after a take in: the core's row is joined with the other core's; out of range it is as it was
abbrev pub taken_in : Bloom → ℕ → ℕ → Bloom
taken_in s core other = record { rows = rows.taken_in s.rows core other }

-- after a clear: the core's row is empty; out of range it is as it was
abbrev pub cleared : Bloom → ℕ → Bloom
cleared s core = record { rows = rows.cleared s.rows core }

-- the Bloom signature's own operations
abbrev pub operations : Operations Bloom
operations = record { holds = held; put = put; take_in = taken_in; clear = cleared }

-- after a put the word's two bits are set, and no other
pub put_bits : (s : Bloom) (core word d x : ℕ) → bits (put s core word) d x ≡ bits_put (bits s) core word d x
put_bits s core word = chosen_holds bits (in_range core word) (with_word s core word) s (added (added (bits s) core (first_bit word)) core (second_bit word)) both
  where
    first : first_bit word / 64 < 4
    first = div_below (first_bit word) 64 4 (ltb-true 0 64 refl) (mod_below word 256 (ltb-true 0 256 refl))

    second : second_bit word / 64 < 4
    second = div_below (second_bit word) 64 4 (ltb-true 0 64 refl) (mod_below (word / 16 + 7 * word) 256 (ltb-true 0 256 refl))

    both : in_range core word ≡ true → (d x : ℕ) → bits (with_word s core word) d x ≡ added (added (bits s) core (first_bit word)) core (second_bit word) d x
    both range d x =
        let low = ltb-true core 8 (and_parts _ _ range).0 in
        rows.with_bit_bits (rows.with_bit s.rows core (first_bit word)) core (second_bit word) low second d x ∙
        ap (λ b. b || (eqb d core && eqb x (second_bit word))) (rows.with_bit_bits s.rows core (first_bit word) low first d x)

-- after a take in the other core's bits are set in the core's row, and no other
pub taken_in_bits : (s : Bloom) (core other d x : ℕ) → bits (taken_in s core other) d x ≡ rows_taken_in (bits s) core other d x
taken_in_bits s = rows.taken_in_bits s.rows

-- after a clear no bit of the core's row is set
pub cleared_bits : (s : Bloom) (core d x : ℕ) → bits (cleared s core) d x ≡ rows_cleared (bits s) core d x
cleared_bits s = rows.cleared_bits s.rows

-- outside the ranges nothing is held
pub bounded : (s : Bloom) → Bounded (held s)
bounded s = bits_bounded s.rows.table s.rows.cores

-- put keeps its sentences
pub puts : (s : Bloom) (core word : ℕ) → Put (held s) (held (put s core word)) core word
puts s core word = bits_puts (bits s) (bits (put s core word)) core word (put_bits s core word)

-- take in keeps its sentences
pub takes : (s : Bloom) (core other : ℕ) → TakenIn (held s) (held (taken_in s core other)) core other
takes s core other =
    words_take_in (bits s) (bits (taken_in s core other)) core other
    (takes_in (bits s) (bits (taken_in s core other)) core other (taken_in_bits s core other))

-- clear keeps its sentences
pub clears_it : (s : Bloom) (core : ℕ) → Cleared (held s) (held (cleared s core)) core
clears_it s core = words_clear (bits s) (bits (cleared s core)) core (clears (bits s) (bits (cleared s core)) core (cleared_bits s core))
