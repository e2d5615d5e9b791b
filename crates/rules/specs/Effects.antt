-- What an accepted call does to page, caches and owners, row by row: the state of the copy and the call decide the row.
-- Assumes nothing.
use Rattle.std.specs.Prelude.{ℕ, ◌+◌, Bool, true, false, cond, not, List, [], ◌∷◌, map, Some, None, fold, Option, ◌==◌, slice_set}
use Rattle.std.specs.List.{flat_map}
use Rattle.call.specs.Figures.{Five, slot_of}
use Rattle.word.specs.declared.word.Word.{Word}
use Rattle.rules.specs.Plans.{mode_of, is_read_only}
use Rattle.rules.specs.State.{Copy, invalid, valid, registered, Memory, page_word, copy_of}
use Rattle.rules.specs.Tables.{upd, upd2, below}

-- the memory with another copy in a slot
abbrev pub with_copy : Memory → ℕ → ℕ → Copy → Memory
with_copy m core slot copy =
    record { page = m.page; copies = upd2 m.copies core slot copy; owners = m.owners }

-- a registered copy is written to the page, loses its owner and becomes valid; any other copy stays as it is
abbrev pub write_back_by : Copy → Memory → ℕ → ℕ → Memory
write_back_by invalid m core slot = m
write_back_by (valid w x) m core slot = m
write_back_by (registered w x) m core slot =
    record { page = slice_set m.page w x; copies = upd2 m.copies core slot (valid w x); owners = upd m.owners w None }

abbrev pub write_back : Memory → ℕ → ℕ → Memory
write_back m core slot = write_back_by (m.copies core slot) m core slot

-- the word in a copy, or the other word where there is none
abbrev pub word_in : Copy → Word → Word
word_in invalid other = other
word_in (valid w x) other = x
word_in (registered w x) other = x

-- a word that a load gives, where it came from (0 the core's own copy, 1 the page, 2 the owner's copy), and what it leaves
pub record Got : Type 0 where
  pub word : Word
  pub source : ℕ
  pub memory : Memory

-- a fetched word fills the core's slot with a valid copy
abbrev pub filled : Five → Memory → ℕ → ℕ → Word → ℕ → Got
filled f m core word x source =
    record { word = x; source = source; memory = with_copy m core (slot_of f word) (valid word x) }

-- from its owner's copy or, without an owner, from the page
abbrev pub fetch_by : Option ℕ → Five → Memory → ℕ → ℕ → Got
fetch_by None f m core word = filled f m core word (page_word m word) 1
fetch_by (Some owner) f m core word = filled f m core word (word_in (copy_of f m owner word) (page_word m word)) 2

-- the slot's old word makes way first
abbrev pub fetch_into : Five → Memory → ℕ → ℕ → Got
fetch_into f m core word = fetch_by (m.owners word) f m core word

abbrev pub fetch : Five → Memory → ℕ → ℕ → Got
fetch f m core word = fetch_into f (write_back m core (slot_of f word)) core word

abbrev pub hit : Memory → Word → Got
hit m x = record { word = x; source = 0; memory = m }

-- load, by the state of the copy; a valid copy is fetched again where the core may have an older word
abbrev pub load_row : Copy → Bool → Five → Memory → ℕ → ℕ → Got
load_row invalid again f m core word = fetch f m core word
load_row (valid w x) again f m core word = cond again (fetch f m core word) (hit m x)
load_row (registered w x) again f m core word = hit m x

abbrev pub load : Five → Memory → Bool → ℕ → ℕ → Got
load f m again core word = load_row (copy_of f m core word) again f m core word

-- what a store answers and leaves
pub record Put : Type 0 where
  pub answer : ℕ
  pub memory : Memory

-- the core's copy becomes registered with the new word, and the core becomes owner
abbrev pub claimed : ℕ → Five → Memory → ℕ → ℕ → Word → Put
claimed answer f m core word x =
    record { answer = answer; memory = record { page = m.page; copies = upd2 m.copies core (slot_of f word) (registered word x); owners = upd m.owners word (Some core) } }

-- another core that was owner loses its copy
abbrev pub claim_by : Option ℕ → Five → Memory → ℕ → ℕ → Word → Put
claim_by None f m core word x = claimed 1 f m core word x
claim_by (Some owner) f m core word x =
    cond (owner == core) (claimed 1 f m core word x)
    (claimed 2 f (with_copy m owner (slot_of f word) invalid) core word x)

abbrev pub claim_from : Five → Memory → ℕ → ℕ → Word → Put
claim_from f m core word x = claim_by (m.owners word) f m core word x

-- the slot's old word makes way first
abbrev pub claim : Five → Memory → ℕ → ℕ → Word → Put
claim f m core word x = claim_from f (write_back m core (slot_of f word)) core word x

-- store, by the state of the copy
abbrev pub store_row : Copy → Five → Memory → ℕ → ℕ → Word → Put
store_row invalid f m core word x = claim f m core word x
store_row (valid w y) f m core word x = claim f m core word x
store_row (registered w y) f m core word x =
    record { answer = 0; memory = with_copy m core (slot_of f word) (registered word x) }

abbrev pub store : Five → Memory → ℕ → ℕ → Word → Put
store f m core word x = store_row (copy_of f m core word) f m core word x

-- evict, by the state of the copy
abbrev pub evict_row : Copy → Five → Memory → ℕ → ℕ → Put
evict_row invalid f m core word = record { answer = 0; memory = m }
evict_row (valid w x) f m core word = record { answer = 1; memory = with_copy m core (slot_of f word) invalid }
evict_row (registered w x) f m core word =
    record { answer = 2; memory = with_copy (write_back m core (slot_of f word)) core (slot_of f word) invalid }

abbrev pub evict : Five → Memory → ℕ → ℕ → Put
evict f m core word = evict_row (copy_of f m core word) f m core word

-- a slot of a core's cache, and all of them: every slot of every core
pub record Place : Type 0 where
  pub core : ℕ
  pub slot : ℕ

abbrev pub places : Five → List Place
places f = flat_map (λ core. map (λ slot. record { core = core; slot = slot }) (below f.slots)) (below f.cores)

-- how many places pass a test
abbrev pub tally : (Place → Bool) → List Place → ℕ
tally test [] = 0
tally test (p ∷ more) = cond {A = ℕ} (test p) 1 0 + tally test more

abbrev pub is_registered : Copy → Bool
is_registered invalid = false
is_registered (valid w x) = false
is_registered (registered w x) = true

-- settle: every registered copy is written to the page, loses its owner and becomes valid; their number
abbrev pub settle : Five → Memory → Put
settle f m =
    record { answer = tally (λ p. is_registered (m.copies p.core p.slot)) (places f); memory = fold (λ n p. write_back n p.core p.slot) m (places f) }

-- a valid copy of a strip that was not read_only in the phase that ends is dropped
abbrev pub dropped : Five → ℕ → Copy → Bool
dropped f plan invalid = false
dropped f plan (valid w x) = not (is_read_only (mode_of f plan w))
dropped f plan (registered w x) = false

abbrev pub faded : Five → ℕ → Copy → Copy
faded f plan copy = cond (dropped f plan copy) invalid copy

-- phase, by the plan that ends: what stays of the caches, and how many copies are dropped
abbrev pub fade : Five → ℕ → Memory → Put
fade f plan m =
    record { answer = tally (λ p. dropped f plan (m.copies p.core p.slot)) (places f); memory = record { page = m.page; copies = λ core slot. faded f plan (m.copies core slot); owners = m.owners } }
