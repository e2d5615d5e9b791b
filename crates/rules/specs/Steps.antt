-- A call on a board: what it answers, what it leaves and what it asks of the signature. Two readings: with a signature's
-- own operations, which decides everything, and with sets that are free within the signature's sentences.
-- Assumes nothing.
use Rattle.std.specs.Prelude.{◌≡◌, ℕ, ◌+◌, Bool, cond, ◌&&◌, List, [], ◌∷◌, ◌++◌, map, Some, None, fold, Option, Ok, Err, Result}
use Rattle.call.specs.Figures.{Five}
use Rattle.call.specs.declared.answer.Answer.{Answer}
use Rattle.call.specs.declared.answer.Answer.TheVariants.{Loaded, Stored, Done}
use Rattle.call.specs.declared.call.Call.{Call}
use Rattle.call.specs.declared.call.Call.TheVariants as call
use Rattle.call.specs.declared.refusal.Access.{Access}
use Rattle.call.specs.declared.refusal.Access.TheVariants.{Load, Store}
use Rattle.call.specs.declared.refusal.Refusal.{Refusal}
pub use Rattle.sets.specs.Operations.{Operations}
use Rattle.sets.specs.Sentences as signature
use Rattle.sets.specs.Sentences.{Sets}
use Rattle.word.specs.Lawful.{mark_of}
use Rattle.word.specs.Marks.{mark_at}
use Rattle.word.specs.declared.mark.Mark.{Mark}
use Rattle.rules.specs.Effects as effect
use Rattle.rules.specs.Effects.{Got, Put}
use Rattle.rules.specs.Plans.{mode_of, is_locked}
use Rattle.rules.specs.Refusals.{refusal}
use Rattle.rules.specs.State.{Lock, Ledger, Memory, State, Setting}
use Rattle.rules.specs.Tables.{upd, below}

-- ── the ledger after an accepted call ──

abbrev pub with_lock : Ledger → ℕ → Lock → Ledger
with_lock l lock new = record { locks = upd l.locks lock new; counts = l.counts; plan = l.plan; accesses = l.accesses }

-- one more access of this phase
abbrev pub accessed : Ledger → ℕ → ℕ → Access → Ledger
accessed l core word access =
    record { locks = l.locks; counts = l.counts; plan = l.plan; accesses = l.accesses ++ (record { core = core; word = word; access = access } ∷ []) }

abbrev pub counted : Ledger → ℕ → Ledger
counted l core = record { locks = l.locks; counts = upd l.counts core (l.counts core + 1); plan = l.plan; accesses = l.accesses }

-- a free lock goes to the core; of a held lock the core is queued last
abbrev pub acquired_by : Option ℕ → Lock → ℕ → Lock
acquired_by None lock core = record { holder = Some core; queue = lock.queue; last = lock.last }
acquired_by (Some holder) lock core = record { holder = Some holder; queue = lock.queue ++ (core ∷ []); last = lock.last }

-- a released lock goes to the first in the queue, and the releaser is remembered
abbrev pub released_to : List ℕ → ℕ → Lock
released_to [] core = record { holder = None; queue = []; last = Some core }
released_to (next ∷ more) core = record { holder = Some next; queue = more; last = Some core }

-- last releasers are forgotten
abbrev pub forgetting : Lock → Lock
forgetting lock = record { holder = lock.holder; queue = lock.queue; last = None }

-- a phase begins: its plan, and no access yet
abbrev pub begun : Ledger → ℕ → Ledger
begun l plan = record { locks = λ lock. forgetting (l.locks lock); counts = l.counts; plan = plan; accesses = [] }

abbrev pub entered : Ledger → Call → Ledger
entered l (call.Load core word) = accessed l core word Load
entered l (call.Store core word value) = counted (accessed l core word Store) core
entered l (call.Evict core word) = l
entered l (call.Acquire core lock) = with_lock l lock (acquired_by (l.locks lock).holder (l.locks lock) core)
entered l (call.Release core lock) = with_lock l lock (released_to (l.locks lock).queue core)
entered l (call.Phase plan) = begun l plan
entered l call.Settle = l

-- ── what is asked of the signature ──

pub data Change : Type 0 where
  put : ℕ → ℕ → Change
  take_in : ℕ → ℕ → Change
  clear : ℕ → Change

abbrev pub takes_from : Option ℕ → ℕ → List Change
takes_from None core = []
takes_from (Some other) core = take_in core other ∷ []

-- acquire of a free lock takes in the last releaser's signature, if there is one
abbrev pub granted_changes : Option ℕ → Lock → ℕ → List Change
granted_changes None lock core = takes_from lock.last core
granted_changes (Some holder) lock core = []

-- release has the first in the queue take in the releaser's signature
abbrev pub handed_changes : List ℕ → ℕ → List Change
handed_changes [] core = []
handed_changes (next ∷ more) core = take_in next core ∷ []

abbrev pub clear_all : List Change
clear_all = map clear (below 8)

abbrev pub changes : Five → Ledger → Call → List Change
changes f l (call.Load core word) = []
changes f l (call.Store core word value) = cond (is_locked (mode_of f l.plan word)) (put core word ∷ []) []
changes f l (call.Evict core word) = []
changes f l (call.Acquire core lock) = granted_changes (l.locks lock).holder (l.locks lock) core
changes f l (call.Release core lock) = handed_changes (l.locks lock).queue core
changes f l (call.Phase plan) = clear_all
changes f l call.Settle = []

-- ── the answer of an accepted call, and what it does to page, caches and owners ──

-- the answer of an accepted call with the memory that is left
pub record Answered : Type 0 where
  pub answer : Answer
  pub memory : Memory

-- the mark of the core's next store
abbrev pub next_mark : Ledger → ℕ → Mark
next_mark l core = mark_at (mark_of core (l.counts core + 1))

abbrev pub of_load : Got → Answered
of_load got = record { answer = Loaded got.word got.source; memory = got.memory }

abbrev pub of_store : Mark → Put → Answered
of_store mark p = record { answer = Stored p.answer mark; memory = p.memory }

abbrev pub of_other : Put → Answered
of_other p = record { answer = Done p.answer; memory = p.memory }

abbrev pub queued_answer : Option ℕ → ℕ
queued_answer None = 0
queued_answer (Some holder) = 1

abbrev pub passed_answer : List ℕ → ℕ
passed_answer [] = 0
passed_answer (next ∷ more) = next + 1

module _ (b : Setting) (sets : Sets) (s : State) where
  -- in a locked strip a word of the core's signature may have been stored by an earlier holder
  abbrev pub again : ℕ → ℕ → Bool
  again core word = is_locked (mode_of b.figures s.ledger.plan word) && sets core word

  abbrev pub answered : Call → Answered
  answered (call.Load core word) = of_load (effect.load b.figures s.memory (again core word) core word)
  answered (call.Store core word value) =
      of_store (next_mark s.ledger core)
      (effect.store b.figures s.memory core word (record { value = value; mark = next_mark s.ledger core }))
  answered (call.Evict core word) = of_other (effect.evict b.figures s.memory core word)
  answered (call.Acquire core lock) =
      record { answer = Done (queued_answer (s.ledger.locks lock).holder); memory = s.memory }
  answered (call.Release core lock) =
      record { answer = Done (passed_answer (s.ledger.locks lock).queue); memory = s.memory }
  answered (call.Phase plan) = of_other (effect.fade b.figures s.ledger.plan s.memory)
  answered call.Settle = of_other (effect.settle b.figures s.memory)

-- ── one call, accepted or refused ──

pub record Outcome : Type 0 where
  pub answer : Result Answer Refusal
  pub state : State
  pub changes : List Change

-- a refusal leaves everything as it stood
abbrev pub outcome : Option Refusal → Setting → Sets → State → Call → Outcome
outcome (Some r) b sets s c = record { answer = Err r; state = s; changes = [] }
outcome None b sets s c =
    record { answer = Ok (answered b sets s c).answer; state = record { memory = (answered b sets s c).memory; ledger = entered s.ledger c }; changes = changes b.figures s.ledger c }

abbrev pub step : Setting → Sets → State → Call → Outcome
step b sets s c = outcome (refusal b s.ledger c) b sets s c

-- ── what a signature is after changes, by its own operations ──

abbrev pub changed : {S : Type 0} → Operations S → S → Change → S
changed ops s (put core word) = ops.put s core word
changed ops s (take_in core other) = ops.take_in s core other
changed ops s (clear core) = ops.clear s core

abbrev pub changed_by : {S : Type 0} → Operations S → S → List Change → S
changed_by ops s cs = fold (changed ops) s cs

-- ── sets that are free within the sentences ──

abbrev pub Changed : Change → Sets → Sets → Type 0
Changed (put core word) before after = signature.Put before after core word
Changed (take_in core other) before after = signature.TakenIn before after core other
Changed (clear core) before after = signature.Cleared before after core

abbrev pub Changes : List Change → Sets → Sets → Type 0
Changes [] before after = (core word : ℕ) → after core word ≡ before core word
Changes (c ∷ cs) before after = (between : Sets) × (Changed c before between) × (Changes cs between after)
