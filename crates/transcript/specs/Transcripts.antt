-- What playback prints for a job, and what becomes of the buffer that it is written into. Assumes nothing.
use Rattle.std.specs.Prelude.{◌≡◌, ℕ, ◌≤◌, cond, List, ◌++◌, length, take, drop, replicate, Some, None, Ok, Err, Option, Result}
use Rattle.std.specs.List.{flat_map}
use Rattle.board.specs.Runs.{records_of, Runs}
use Rattle.board.specs.declared.runs.Run.{Run}
use Rattle.call.specs.declared.answer.AnswerRecord.{AnswerRecord}
use Rattle.call.specs.declared.fault.JobFault.{JobFault}
use Rattle.job.specs.Reading.{Says}
use Rattle.lines.specs.Lines.{answer_line, fault_line, has_room}
use Rattle.page.specs.Slots.{laid}
use Rattle.page.specs.declared.bank.Bank.{Bank}
use Rattle.page.specs.declared.table.Table.{Table}
use Rattle.play.specs.Playing.{verdict}
use Rattle.play.specs.declared.refused.RefusedJob.{RefusedJob}
use Rattle.rules.specs.Runs.{run}
use Rattle.rules.specs.Steps.{Operations}
use Rattle.signature.specs.Blooms.{fresh, operations}
use Rattle.signature.specs.declared.bloom.Bloom.{Bloom}
use Rattle.word.specs.Words.{blank_word}
use Rattle.word.specs.declared.word.Word.{Word}

module _ {S : Type 0} (ops : Operations S) (page : List Word) (g : S) where
  -- a line for each call of an accepted job, in order, with the answer that the rules give; of a refused one the line of its fault
  abbrev pub text_of : Result Says JobFault → List ℕ
  text_of (Ok s) = flat_map answer_line (records_of s.calls (run ops s.figures page g s.calls).answers)
  text_of (Err e) = fault_line e

-- how many fields of 48 bytes a text wants: one for each of its lines
abbrev pub fields_of : Result Says JobFault → ℕ
fields_of (Ok s) = length s.calls
fields_of (Err e) = 1

-- a text is written into the first bytes of a buffer if it has enough fields, and its length is told; later bytes keep what they held
pub record Written (text before after : List ℕ) (fields : ℕ) (told : Option ℕ) : Type 0 where
  pub size : told ≡ cond (has_room (length before) fields) (Some (length text)) None
  pub bytes : after ≡ cond (has_room (length before) fields) (text ++ drop (length text) before) before

-- a page of 4,096 words, all 0
abbrev pub zeros : List Word
zeros = replicate 4096 blank_word

-- what playback prints: the job is played on a page of zeros with an empty Bloom signature, into a table of this length
abbrev pub transcript : List ℕ → ℕ → List ℕ
transcript bytes room = text_of operations zeros fresh (verdict bytes room)

-- the words that a bank over a table means
abbrev pub bank_words : Bank Table → List Word
bank_words b = laid b.slots b.below.cells

-- what becomes of a job on a page of zeros with an empty Bloom signature: an accepted job is a run of its calls, of which all laws hold; a
-- refused one leaves page, signature and table as they were
abbrev pub PlaysFresh : List AnswerRecord → List AnswerRecord → Result Says JobFault → Result (Run (Bank Table) Bloom) (RefusedJob (Bank Table) Bloom) → Type 0
PlaysFresh table after (Ok s) (Ok r) =
    (r.made ≡ length s.calls) × Runs bank_words operations s.figures zeros fresh s.calls table after r.board
PlaysFresh table after (Ok s) (Err r) = ⊥
PlaysFresh table after (Err e) (Ok r) = ⊥
PlaysFresh table after (Err e) (Err r) =
    (bank_words r.page ≡ zeros) × (r.signature ≡ fresh) × (r.fault ≡ e) × (after ≡ table)

-- the text of what became of a job, from the records in its table
abbrev pub outcome_text : {P S : Type 0} → Result (Run P S) (RefusedJob P S) → List AnswerRecord → List ℕ
outcome_text (Ok r) records = flat_map answer_line (take r.made records)
outcome_text (Err r) records = fault_line r.fault

abbrev pub outcome_fields : {P S : Type 0} → Result (Run P S) (RefusedJob P S) → List AnswerRecord → ℕ
outcome_fields (Ok r) records = length (take r.made records)
outcome_fields (Err r) records = 1

-- an outcome has no more answers than the table has records
abbrev pub Within : {P S : Type 0} → Result (Run P S) (RefusedJob P S) → List AnswerRecord → Type 0
Within (Ok r) records = r.made ≤ length records
Within (Err r) records = Unit {0}
