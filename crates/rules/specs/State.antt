-- What a board holds: page, caches and owners, and the ledger of its calls, by which alone calls are refused.
-- Assumes nothing.
use Rattle.std.specs.Prelude.{ℕ, zero, suc, min, cond, List, [], ◌∷◌, length, None, Option, ◌==◌, slice_index_or}
use Rattle.call.specs.Figures.{Five, slot_of}
use Rattle.call.specs.declared.refusal.Access.{Access}
use Rattle.word.specs.Words.{blank_mark, blank_word}
use Rattle.word.specs.declared.word.Word.{Word}

-- a copy in a slot of a core's cache: none, or a word's number with the word; a registered copy is the one that counts
pub data Copy : Type 0 where
  invalid : Copy
  valid : ℕ → Word → Copy
  registered : ℕ → Word → Copy

-- a lock: its holder, the cores that wait in turn, and who released it last in this phase
pub record Lock : Type 0 where
  pub holder : Option ℕ
  pub queue : List ℕ
  pub last : Option ℕ

-- an accepted load or store of a word by a core
pub record Accessed : Type 0 where
  pub core : ℕ
  pub word : ℕ
  pub access : Access

-- what the accepted calls have left: locks, each core's count of stores, the plan in force, and this phase's accesses,
-- the oldest first
pub record Ledger : Type 0 where
  pub locks : ℕ → Lock
  pub counts : ℕ → ℕ
  pub plan : ℕ
  pub accesses : List Accessed

-- where words are: the page's words, each core's copies by slot, and each word's owner
pub record Memory : Type 0 where
  pub page : List Word
  pub copies : ℕ → ℕ → Copy
  pub owners : ℕ → Option ℕ

-- the whole board
pub record State : Type 0 where
  pub memory : Memory
  pub ledger : Ledger

-- a board's figures and its size
pub record Setting : Type 0 where
  pub figures : Five
  pub size : ℕ

-- the page's word at a place
abbrev pub page_word : Memory → ℕ → Word
page_word m w = slice_index_or m.page w blank_word

-- the same value with a blank mark
abbrev pub unmarked : Word → Word
unmarked x = record { value = x.value; mark = blank_mark }

-- the page with its first n words unmarked
abbrev pub opened : ℕ → List Word → List Word
opened n [] = []
opened zero (x ∷ xs) = x ∷ xs
opened (suc n) (x ∷ xs) = unmarked x ∷ opened n xs

-- a board's size: as many words as its figures allow and its page has
abbrev pub size_of : Five → List Word → ℕ
size_of f page = min f.words (length page)

abbrev pub setting : Five → List Word → Setting
setting f page = record { figures = f; size = size_of f page }

abbrev pub free : Lock
free = record { holder = None; queue = []; last = None }

-- no call yet: locks free, no store, every strip read-only
abbrev pub blank_ledger : Ledger
blank_ledger = record { locks = λ _. free; counts = λ _. 0; plan = 0; accesses = [] }

-- empty caches and no owners over a page
abbrev pub empty_caches : List Word → Memory
empty_caches page = record { page = page; copies = λ _ _. invalid; owners = λ _. None }

-- a board just opened
abbrev pub opening : Five → List Word → State
opening f page =
    record { memory = empty_caches (opened (size_of f page) page); ledger = blank_ledger }

-- a copy as one of this word: a slot that holds another word counts as invalid
abbrev pub of_word : ℕ → Copy → Copy
of_word w invalid = invalid
of_word w (valid v x) = cond (v == w) (valid v x) invalid
of_word w (registered v x) = cond (v == w) (registered v x) invalid

-- the copy of a word in a core's cache: the one place where it is looked for
abbrev pub copy_of : Five → Memory → ℕ → ℕ → Copy
copy_of f m core word = of_word word (m.copies core (slot_of f word))
