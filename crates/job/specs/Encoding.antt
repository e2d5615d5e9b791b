-- A job as bytes: the contents, 16 bytes, and then 13 bytes for each call. Assumes nothing.
use Rattle.std.specs.Prelude.{ℕ, ◌+◌, ◌*◌, ◌^◌, ◌<◌, Bool, true, ◌&&◌, List, [], ◌∷◌, ◌++◌, length, nat_le, nat_lt}
use Rattle.std.specs.Int.{w16, w32, w64, to_be_bytes}
use Rattle.std.specs.List.{flat_map, list_all}
use Rattle.call.specs.Calls.{caller_of, kind_of, letter_of}
use Rattle.call.specs.Figures.{Five}
use Rattle.call.specs.declared.call.Call.{Call}
use Rattle.call.specs.declared.call.Call.TheVariants as call

-- the lock that a call names; 0 where it names none
abbrev pub lock_of : Call → ℕ
lock_of (call.Load core word) = 0
lock_of (call.Store core word value) = 0
lock_of (call.Evict core word) = 0
lock_of (call.Acquire core lock) = lock
lock_of (call.Release core lock) = lock
lock_of (call.Phase plan) = 0
lock_of call.Settle = 0

-- the word that a call names; 0 where it names none
abbrev pub word_of : Call → ℕ
word_of (call.Load core word) = word
word_of (call.Store core word value) = word
word_of (call.Evict core word) = word
word_of (call.Acquire core lock) = 0
word_of (call.Release core lock) = 0
word_of (call.Phase plan) = 0
word_of call.Settle = 0

-- what a call carries: a store its value, a phase its plan; else 0
abbrev pub payload_of : Call → ℕ
payload_of (call.Load core word) = 0
payload_of (call.Store core word value) = value
payload_of (call.Evict core word) = 0
payload_of (call.Acquire core lock) = 0
payload_of (call.Release core lock) = 0
payload_of (call.Phase plan) = plan
payload_of call.Settle = 0

-- the record of a call: letter, lock, word in 2 bytes, payload in 8, caller
abbrev pub record_bytes : Call → List ℕ
record_bytes c =
    letter_of (kind_of c)
    ∷ lock_of c
    ∷ (to_be_bytes w16 (word_of c) ++ (to_be_bytes w64 (payload_of c) ++ (caller_of c ∷ [])))

-- the contents of a job: cores, slots, words, strip length, two zero bytes, allowance, number of records
abbrev pub contents : Five → ℕ → List ℕ
contents f records =
    f.cores
    ∷ f.slots
    ∷ (to_be_bytes w16 f.words
    ++ (to_be_bytes w16 f.strip ++ (0 ∷ 0 ∷ (to_be_bytes w32 f.allowance ++ to_be_bytes w32 records))))

-- the job of these figures and calls
abbrev pub encode : Five → List Call → List ℕ
encode f calls = contents f (length calls) ++ flat_map record_bytes calls

-- a call that a record can spell: a core is one of 0 to 7, and every number fits its field
abbrev pub LawfulCall : Call → Type 0
LawfulCall (call.Load core word) = (core < 8) × (word < 2 ^ 16)
LawfulCall (call.Store core word value) = (core < 8) × (word < 2 ^ 16) × (value < 2 ^ 32)
LawfulCall (call.Evict core word) = (core < 8) × (word < 2 ^ 16)
LawfulCall (call.Acquire core lock) = (core < 8) × (lock < 2 ^ 8)
LawfulCall (call.Release core lock) = (core < 8) × (lock < 2 ^ 8)
LawfulCall (call.Phase plan) = plan < 2 ^ 64
LawfulCall call.Settle = Unit {0}

-- whether the core that makes a call is one of 0 to 7; the conductor always may
abbrev pub by_lawful_core : Call → Bool
by_lawful_core (call.Load core word) = nat_lt core 8
by_lawful_core (call.Store core word value) = nat_lt core 8
by_lawful_core (call.Evict core word) = nat_lt core 8
by_lawful_core (call.Acquire core lock) = nat_lt core 8
by_lawful_core (call.Release core lock) = nat_lt core 8
by_lawful_core (call.Phase plan) = true
by_lawful_core call.Settle = true

abbrev pub all_lawful : List Call → Bool
all_lawful cs = list_all by_lawful_core cs

-- whether calls can be encoded into so many bytes: there are at most 4,608, their cores are lawful, and they have room
abbrev pub encodable : List Call → ℕ → Bool
encodable cs room = nat_le (length cs) 4608 && (nat_le (16 + 13 * length cs) room && all_lawful cs)
