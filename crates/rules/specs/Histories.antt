-- What a history tells, in the subject's words. Laws speak of calls by the projections of the first part alone.
-- Assumes nothing.
use Rattle.std.specs.Prelude.{◌≡◌, ℕ, ◌+◌, Bool, false, cond, not, ◌||◌, List, [], ◌∷◌, ◌++◌, length, take, is_some, Some, None, fold, Option, ◌==◌, Ok, Err, Result}
use Rattle.std.specs.List.{flat_map}
use Rattle.call.specs.Calls.{caller_of}
use Rattle.call.specs.declared.answer.Answer.{Answer}
use Rattle.call.specs.declared.answer.Answer.TheVariants.{Loaded, Stored, Done}
use Rattle.call.specs.declared.call.Call.{Call}
use Rattle.call.specs.declared.call.Call.TheVariants as call
use Rattle.call.specs.declared.refusal.Access.{Access}
use Rattle.call.specs.declared.refusal.Access.TheVariants.{Load, Store}
use Rattle.call.specs.declared.refusal.Refusal.{Refusal}
use Rattle.word.specs.Lawful.{mark_of}
use Rattle.word.specs.Marks.{number}
use Rattle.word.specs.declared.word.Word.{Word}
use Rattle.rules.specs.Runs.{Event, History}
use Rattle.rules.specs.Refusals.{by_another}
use Rattle.rules.specs.State.{Accessed, Ledger, blank_ledger, unmarked}
use Rattle.rules.specs.Steps.{entered}
use Rattle.rules.specs.Tables.{upd}

-- ── projections of a call ──

-- a core and the word that it loads
pub record Wanted : Type 0 where
  pub core : ℕ
  pub word : ℕ

-- a core, the word that it stores and the value
pub record Written : Type 0 where
  pub core : ℕ
  pub word : ℕ
  pub value : ℕ

-- a core and the lock that it acquires or releases
pub record Asked : Type 0 where
  pub core : ℕ
  pub lock : ℕ

abbrev pub load_of : Call → Option Wanted
load_of (call.Load core word) = Some (record { core = core; word = word })
load_of (call.Store core word value) = None
load_of (call.Evict core word) = None
load_of (call.Acquire core lock) = None
load_of (call.Release core lock) = None
load_of (call.Phase plan) = None
load_of call.Settle = None

abbrev pub store_of : Call → Option Written
store_of (call.Load core word) = None
store_of (call.Store core word value) = Some (record { core = core; word = word; value = value })
store_of (call.Evict core word) = None
store_of (call.Acquire core lock) = None
store_of (call.Release core lock) = None
store_of (call.Phase plan) = None
store_of call.Settle = None

abbrev pub acquire_of : Call → Option Asked
acquire_of (call.Load core word) = None
acquire_of (call.Store core word value) = None
acquire_of (call.Evict core word) = None
acquire_of (call.Acquire core lock) = Some (record { core = core; lock = lock })
acquire_of (call.Release core lock) = None
acquire_of (call.Phase plan) = None
acquire_of call.Settle = None

abbrev pub release_of : Call → Option Asked
release_of (call.Load core word) = None
release_of (call.Store core word value) = None
release_of (call.Evict core word) = None
release_of (call.Acquire core lock) = None
release_of (call.Release core lock) = Some (record { core = core; lock = lock })
release_of (call.Phase plan) = None
release_of call.Settle = None

abbrev pub plan_of : Call → Option ℕ
plan_of (call.Load core word) = None
plan_of (call.Store core word value) = None
plan_of (call.Evict core word) = None
plan_of (call.Acquire core lock) = None
plan_of (call.Release core lock) = None
plan_of (call.Phase plan) = Some plan
plan_of call.Settle = None

-- ── accepted and refused ──

abbrev pub refused_with : Result Answer Refusal → Option Refusal
refused_with (Ok a) = None
refused_with (Err r) = Some r

abbrev pub accepted : Event → Bool
accepted e = not (is_some (refused_with e.answer))

-- a projection of an accepted call
abbrev pub of_accepted : {X : Type 0} → (Call → Option X) → Event → Option X
of_accepted project e = cond (accepted e) (project e.call) None

abbrev pub stored : Event → Option Written
stored e = of_accepted store_of e

abbrev pub acquired : Event → Option Asked
acquired e = of_accepted acquire_of e

abbrev pub released : Event → Option Asked
released e = of_accepted release_of e

abbrev pub begins : Event → Option ℕ
begins e = of_accepted plan_of e

-- an accepted load: its core, its word and the word that it gave
pub record LoadGiven : Type 0 where
  pub core : ℕ
  pub word : ℕ
  pub given : Word

abbrev pub given_by : Result Answer Refusal → Option Wanted → Option LoadGiven
given_by (Ok (Loaded x source)) None = None
given_by (Ok (Loaded x source)) (Some w) = Some (record { core = w.core; word = w.word; given = x })
given_by (Ok (Stored answer mark)) w = None
given_by (Ok (Done small)) w = None
given_by (Err r) w = None

abbrev pub loaded : Event → Option LoadGiven
loaded e = given_by e.answer (load_of e.call)

-- ── the last store to a place ──

-- whether an event is an accepted store to the word
abbrev pub writes : ℕ → Option Written → Bool
writes word None = false
writes word (Some s) = s.word == word

abbrev pub stores_to : ℕ → Event → Bool
stores_to word e = writes word (stored e)

-- a store as the laws tell it: its core, that core's count with it included, and its value
pub record ToldStore : Type 0 where
  pub core : ℕ
  pub count : ℕ
  pub value : ℕ

-- the counts of each core's accepted stores, and the last store to the word so far
pub record Tracked : Type 0 where
  pub counts : ℕ → ℕ
  pub last : Option ToldStore

abbrev pub track_by : ℕ → Option Written → Tracked → Tracked
track_by word None t = t
track_by word (Some s) t =
    record { counts = upd t.counts s.core (t.counts s.core + 1); last = cond (s.word == word) (Some (record { core = s.core; count = t.counts s.core + 1; value = s.value })) t.last }

abbrev pub tracked : ℕ → History → Tracked
tracked word h = fold (λ t e. track_by word (stored e) t) (record { counts = λ _. 0; last = None }) h

abbrev pub last_store : ℕ → History → Option ToldStore
last_store word h = (tracked word h).last

-- a word is what the last store wrote, or without one the opening word: the old value with a blank mark
abbrev pub Fresh : Option ToldStore → Word → Word → Type 0
Fresh None old x = x ≡ unmarked old
Fresh (Some s) old x = (x.value ≡ s.value) × (number x.mark ≡ mark_of s.core s.count)

-- ── the ledger by history ──

abbrev pub entered_by : Ledger → Event → Ledger
entered_by l e = cond (accepted e) (entered l e.call) l

-- locks, counts, plan and this phase's accesses, from the accepted calls alone
abbrev pub ledger_of : History → Ledger
ledger_of h = fold entered_by blank_ledger h

-- ── the accesses of a phase ──

-- a load or store: its core, its word and which of the two
abbrev pub touches : Call → Option Accessed
touches (call.Load core word) = Some (record { core = core; word = word; access = Load })
touches (call.Store core word value) = Some (record { core = core; word = word; access = Store })
touches (call.Evict core word) = None
touches (call.Acquire core lock) = None
touches (call.Release core lock) = None
touches (call.Phase plan) = None
touches call.Settle = None

-- an accepted load or store
abbrev pub accessed : Event → Option Accessed
accessed e = of_accepted touches e

abbrev pub phase_by : Option ℕ → History → Event → History
phase_by None h e = h ++ (e ∷ [])
phase_by (Some plan) h e = []

-- this phase: the events since the last accepted phase call, or since the opening
abbrev pub this_phase : History → History
this_phase h = fold (λ phase e. phase_by (begins e) phase e) [] h

abbrev pub passes : (Accessed → Bool) → Option Accessed → Bool
passes test None = false
passes test (Some a) = test a

-- whether an event is an accepted access of this kind to the word by another core
abbrev pub other_access : Access → ℕ → ℕ → Event → Bool
other_access access core word e = passes (by_another access core word) (accessed e)

-- ── locks in order ──

abbrev pub cores_for : ℕ → Option Asked → List ℕ
cores_for lock None = []
cores_for lock (Some a) = cond (a.lock == lock) (a.core ∷ []) []

-- the cores of a lock's accepted acquires, and of its accepted releases, in turn
abbrev pub acquirers : ℕ → History → List ℕ
acquirers lock h = flat_map (λ e. cores_for lock (acquired e)) h

abbrev pub releasers : ℕ → History → List ℕ
releasers lock h = flat_map (λ e. cores_for lock (released e)) h

-- a lock's order of holders: its acquirers in turn, as far as the number of its releases and one more
abbrev pub order_of_holders : ℕ → History → List ℕ
order_of_holders lock h = take (length (releasers lock h) + 1) (acquirers lock h)

-- ── a core's calls, phase by phase ──

-- a phase call, or one of this core's calls
abbrev pub concerns : ℕ → Call → Bool
concerns core c = is_some (plan_of c) || caller_of c == core

-- the phase calls and the core's calls, in order, with every number
abbrev pub calls_of : ℕ → History → List Call
calls_of core h = flat_map (λ e. cond (concerns core e.call) (e.call ∷ []) []) h
