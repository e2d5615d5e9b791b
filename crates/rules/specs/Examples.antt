-- Worked runs: the sample job's twelve answers; two orders of one run that meet the premises of the order law; and a copy in a
-- locked strip that would be stale if it were not fetched again. Assumes nothing.
use Rattle.std.specs.Prelude.{◌≡◌, List, [], ◌∷◌, map, Ok}
use Rattle.call.specs.Told.{told, answer_told}
use Rattle.call.specs.declared.answer.Answer.TheVariants.{Loaded, Stored, Done}
use Rattle.call.specs.declared.call.Call.{Call}
use Rattle.call.specs.declared.call.Call.TheVariants.{Load, Store, Acquire, Release, Phase, Settle}
use Rattle.word.specs.Marks.{mark_at}
use Rattle.rules.specs.Cases.{sample}
use Rattle.rules.specs.Laws.{SameOrder}
use Rattle.rules.specs.Runs.{Ran, History, history_of}
use Rattle.rules.specs.Signed.{played, bloom}
use Rattle.rules.specs.State.{valid, setting}
use Rattle.word.specs.Words.{blank_word}
use Rattle.rules.specs.Steps.{step}

-- ── the sample job ──

abbrev pub sample_calls : List Call
sample_calls =
    Phase 129
    ∷ Store 0 1 50
    ∷ Load 1 1
    ∷ Acquire 0 0
    ∷ Acquire 1 0
    ∷ Store 0 6 7
    ∷ Release 0 0
    ∷ Load 1 6
    ∷ Release 1 0
    ∷ Settle
    ∷ Phase 0
    ∷ Load 1 1
    ∷ []

-- what its twelve answers tell: refusal, small answer, value and mark
abbrev pub SamplePlays : Type 0
SamplePlays =
    map answer_told (played sample sample_calls).answers
    ≡ (told 0 0 0 0
    ∷ told 0 1 0 1
    ∷ told 6 0 1 0
    ∷ told 0 0 0 0
    ∷ told 0 1 0 0
    ∷ told 0 1 0 2
    ∷ told 0 2 0 0
    ∷ told 0 2 7 2
    ∷ told 0 0 0 0
    ∷ told 0 2 0 0
    ∷ told 0 3 0 0
    ∷ told 0 1 50 1
    ∷ [])

-- ── two orders of one run ──

-- core 1 waits in the queue of lock 0, and the settle comes after its section
abbrev pub one_order : List Call
one_order =
    Phase 129
    ∷ Store 0 1 50
    ∷ Acquire 0 0
    ∷ Acquire 1 0
    ∷ Store 0 6 7
    ∷ Release 0 0
    ∷ Load 1 6
    ∷ Release 1 0
    ∷ Settle
    ∷ Phase 0
    ∷ Load 1 1
    ∷ []

-- core 1 comes when the lock is free, and a settle stands within core 0's section
abbrev pub other_order : List Call
other_order =
    Phase 129
    ∷ Store 0 1 50
    ∷ Acquire 0 0
    ∷ Store 0 6 7
    ∷ Settle
    ∷ Release 0 0
    ∷ Acquire 1 0
    ∷ Load 1 6
    ∷ Release 1 0
    ∷ Phase 0
    ∷ Load 1 1
    ∷ []

-- their histories, call by call with the answers, all accepted
abbrev pub one_history : History
one_history =
    history_of one_order (map Ok
    (Done 0
    ∷ Stored 1 (mark_at 1)
    ∷ Done 0
    ∷ Done 1
    ∷ Stored 1 (mark_at 2)
    ∷ Done 2
    ∷ Loaded (record { value = 7; mark = mark_at 2 }) 2
    ∷ Done 0
    ∷ Done 2
    ∷ Done 3
    ∷ Loaded (record { value = 50; mark = mark_at 1 }) 1
    ∷ []))

abbrev pub other_history : History
other_history =
    history_of other_order (map Ok
    (Done 0
    ∷ Stored 1 (mark_at 1)
    ∷ Done 0
    ∷ Stored 1 (mark_at 2)
    ∷ Done 2
    ∷ Done 0
    ∷ Done 0
    ∷ Loaded (record { value = 7; mark = mark_at 2 }) 1
    ∷ Done 0
    ∷ Done 3
    ∷ Loaded (record { value = 50; mark = mark_at 1 }) 1
    ∷ []))

-- both are runs, and they meet all that the order law asks for
abbrev pub TwoOrders : Type 0
TwoOrders = (r : Ran) × (q : Ran) × (r.history ≡ one_history) × (q.history ≡ other_history) × SameOrder r q

-- ── an old copy in a locked strip ──

-- core 1 has read word 6 under lock 0; then core 0 stores it under the lock, and core 1 comes again
abbrev pub again : List Call
again =
    Phase 128
    ∷ Acquire 1 0
    ∷ Load 1 6
    ∷ Release 1 0
    ∷ Acquire 0 0
    ∷ Store 0 6 7
    ∷ Release 0 0
    ∷ Acquire 1 0
    ∷ []

-- core 1 still has the old word as a valid copy, and its load gives the new one, from the owner's copy
abbrev pub OldCopyFetched : Type 0
OldCopyFetched =
    ((played sample again).state.memory.copies 1 2 ≡ valid 6 blank_word)
    × ((step (setting sample (played sample again).state.memory.page) (bloom.holds (played sample again).signature) (played sample again).state (Load 1 6)).answer
    ≡ Ok (Loaded (record { value = 7; mark = mark_at 1 }) 2))
