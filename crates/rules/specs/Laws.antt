-- The laws of whole runs. Each is said of histories of calls and answers, refused calls included, for runs of any length;
-- no cache, slot or queue stands in them. Assumes nothing.
use Rattle.std.specs.Prelude.{◌≡◌, ℕ, ◌<◌, true, false, List, [], ◌∷◌, ◌++◌, Some, slice_index_or, Err}
use Rattle.call.specs.Figures.{Five}
use Rattle.call.specs.declared.call.Call.{Call}
use Rattle.call.specs.declared.call.Call.TheVariants.{Settle}
use Rattle.call.specs.declared.refusal.Access.{Access}
use Rattle.call.specs.declared.refusal.Access.TheVariants.{Load, Store}
use Rattle.call.specs.declared.refusal.Refusal.TheVariants.{Race}
use Rattle.word.specs.declared.word.Word.{Word}
use Rattle.rules.specs.Histories.{accepted, refused_with, loaded, LoadGiven, stores_to, last_store, Fresh, ledger_of, touches, accessed, this_phase, other_access, order_of_holders, calls_of}
use Rattle.rules.specs.Refusals.{refusal}
use Rattle.rules.specs.Runs.{Event, History, Ran}
use Rattle.rules.specs.State.{Accessed, State, size_of, setting, page_word}
use Rattle.word.specs.Words.{blank_word}
use Rattle.rules.specs.Tables.{some_of}

-- the opening word at a place, before its mark was taken off
abbrev pub old_word : Ran → ℕ → Word
old_word r w = slice_index_or r.page w blank_word

abbrev pub size : Ran → ℕ
size r = size_of r.figures r.page

-- No accepted load gives a stale word: what it gives is what the last store to that word accepted before it wrote, or the
-- opening word if there was none.
abbrev pub NoStale : Ran → Type 0
NoStale r =
    (before : History) (e : Event) (after : History) (l : LoadGiven)
    → r.history ≡ before ++ (e ∷ after)
    → loaded e ≡ Some l
    → Fresh (last_store l.word before) (old_word r l.word) l.given

-- Two accepted loads of one word are equal, value and mark, exactly when no store to it was accepted between them.
abbrev pub EqualLoads : Ran → Type 0
EqualLoads r =
    (before : History) (e : Event) (between : History) (f : Event) (after : History) (l m : LoadGiven)
    → r.history ≡ before ++ (e ∷ (between ++ (f ∷ after)))
    → loaded e ≡ Some l
    → loaded f ≡ Some m
    → l.word ≡ m.word
    → ((l.given ≡ m.given → some_of (stores_to l.word) between ≡ false)
    × (some_of (stores_to l.word) between ≡ false → l.given ≡ m.given))

-- a run whose last call is a settle
abbrev pub Settled : Ran → Type 0
Settled r = (before : History) × ((e : Event) × (r.history ≡ before ++ (e ∷ [])) × (e.call ≡ Settle))

-- equal sizes, and equal values on the page below the size
pub record Alike (r q : Ran) : Type 0 where
  pub sizes : size r ≡ size q
  pub values : (w : ℕ) → w < size r → (old_word r w).value ≡ (old_word q w).value

-- Two boards of equal size, opened on equal values and ended by a settle, hold equal page words at a place below that
-- size exactly when their last accepted stores there agree in core, count and value, or both are missing.
abbrev pub SettledPages : Ran → Ran → Type 0
SettledPages r q =
    Alike r q
    → Settled r
    → Settled q
    → (w : ℕ)
    → w < size r
    → ((page_word r.final.memory w ≡ page_word q.final.memory w
    → last_store w r.history ≡ last_store w q.history)
    × (last_store w r.history ≡ last_store w q.history
    → page_word r.final.memory w ≡ page_word q.final.memory w))

abbrev pub Unrefused : History → Type 0
Unrefused h = (before : History) (e : Event) (after : History) → h ≡ before ++ (e ∷ after) → accepted e ≡ true

-- two runs without a refusal from equal figures, size and opening values, whose phase calls, each core's calls within each
-- phase and each lock's order of holders are the same; settles are no core's calls, and may stand anywhere in any number
pub record SameOrder (r q : Ran) : Type 0 where
  pub figures : r.figures ≡ q.figures
  pub alike : Alike r q
  pub all_accepted : Unrefused r.history
  pub others_accepted : Unrefused q.history
  pub calls : (core : ℕ) → core < 8 → calls_of core r.history ≡ calls_of core q.history
  pub holders : (lock : ℕ) → lock < 8 → order_of_holders lock r.history ≡ order_of_holders lock q.history

-- the load at the same place among its core's calls of that phase, and that it gave the same word
pub record SameLoad (q : Ran) (before : History) (e : Event) (l : LoadGiven) : Type 0 where
  pub others_before : History
  pub other : Event
  pub others_after : History
  pub stands : q.history ≡ others_before ++ (other ∷ others_after)
  pub place : calls_of l.core others_before ≡ calls_of l.core before
  pub call : other.call ≡ e.call
  pub gives : loaded other ≡ Some l

-- The order of holders with each core's own calls decides every load.
abbrev pub OrderDecides : Ran → Ran → Type 0
OrderDecides r q =
    SameOrder r q
    → (before : History) (e : Event) (after : History) (l : LoadGiven)
    → r.history ≡ before ++ (e ∷ after)
    → loaded e ≡ Some l
    → SameLoad q before e l

-- Whether and why a call is refused is decided by figures, size and history: by the plan in force, the queues of the locks,
-- the counts and this phase's accesses that the accepted calls have left.
abbrev pub RefusalsTold : Ran → Type 0
RefusalsTold r =
    (before : History) (e : Event) (after : History)
    → r.history ≡ before ++ (e ∷ after)
    → refused_with e.answer ≡ refusal (setting r.figures r.page) (ledger_of before) e.call

-- a race as its refusal tells it: another core's accepted access of the word in this phase. A store is named where there is
-- one, the earliest; else, and of a store only, the earliest load.
pub record RaceNamed (phase : History) (c : Call) (named : ℕ) (kind : Access) : Type 0 where
  pub caller : Accessed
  pub calls : touches c ≡ Some caller
  pub other : named ≡ caller.core → ⊥
  pub earlier : History
  pub event : Event
  pub later : History
  pub stands : phase ≡ earlier ++ (event ∷ later)
  pub names : accessed event ≡ Some (record { core = named; word = caller.word; access = kind })
  pub earliest : some_of (other_access kind caller.core caller.word) earlier ≡ false
  pub loads_last : kind ≡ Load → (caller.access ≡ Store) × (some_of (other_access Store caller.core caller.word) phase ≡ false)

-- Refusal 6 names another core's accepted store of the word in this phase if there is one, else the earliest accepted load of
-- it in this phase by any core other than the caller; a load races with stores only.
abbrev pub RacesNamed : Ran → Type 0
RacesNamed r =
    (before : History) (e : Event) (after : History) (named : ℕ) (kind : Access)
    → r.history ≡ before ++ (e ∷ after)
    → e.answer ≡ Err (Race named kind)
    → RaceNamed (this_phase before) e.call named kind

-- All laws of a run, those about two runs with every other run.
pub record RunLaws (r : Ran) : Type 0 where
  pub no_stale : NoStale r
  pub equal_loads : EqualLoads r
  pub settled_pages : (q : Ran) → SettledPages r q
  pub order_decides : (q : Ran) → OrderDecides r q
  pub refusals_told : RefusalsTold r
  pub races_named : RacesNamed r

-- This history, with the state that it leaves, is that of a run on a board just opened with these figures on this page; of it,
-- and of it with every other run, all laws hold.
pub record LawfulRun (f : Five) (words : List Word) (h : History) (left : State) : Type 0 where
  pub run : Ran
  pub figures : run.figures ≡ f
  pub page : run.page ≡ words
  pub history : run.history ≡ h
  pub final : run.final ≡ left
  pub laws : RunLaws run
