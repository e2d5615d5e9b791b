-- A board as the rules see it. Of this phase's accesses the board keeps only what tells races, so they are named beside it.
-- Assumes nothing.
use Rattle.std.specs.Prelude.{ℕ, List, slice_index}
use Rattle.call.specs.Figures.{figures}
use Rattle.locks.specs.Views.{locks_of}
use Rattle.memory.specs.Views as memory
use Rattle.rules.specs.State.{Accessed, Ledger, Setting, State}
use Rattle.word.specs.declared.word.Word.{Word}
use Rattle.board.specs.declared.board.Board.{Board}

-- how many stores each core has made; a core above 7 has made none
unfoldable pub counts_of : List ℕ → ℕ → ℕ
counts_of counts core = slice_index counts core

-- the board's figures and its size
abbrev pub setting_of : {P S : Type 0} → Board P S → Setting
setting_of b = record { figures = figures b.memory.figures; size = b.size }

-- locks, counts and plan of the board, with a list of this phase's accesses
abbrev pub ledger_of : {P S : Type 0} → Board P S → List Accessed → Ledger
ledger_of b accesses =
    record { locks = locks_of b.locks; counts = counts_of b.counts; plan = b.plan; accesses = accesses }

-- the whole board, by the list of words that its page means
abbrev pub view : {P S : Type 0} → (P → List Word) → Board P S → List Accessed → State
view words b accesses = record { memory = memory.view words b.memory; ledger = ledger_of b accesses }
