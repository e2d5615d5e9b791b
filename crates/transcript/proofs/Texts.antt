-- The records that a job has filled are those of its calls with the answers of the rules, and so their lines are its text.
-- Assumes nothing.
use Rattle.std.proofs.Common.{◌≡◌, ℕ, ◌≤◌, Bool, true, false, cond, List, ◌++◌, length, take, drop, IfSome, Some, None, Ok, Err, Option, Result, sym, refl, ap, ◌∙◌, subst, arith, length-append}
use lib.Seq.{take-append_seam}
use Rattle.std.specs.List.{flat_map}
use Rattle.board.proofs.Playing.{play_length, records_length}
use Rattle.board.specs.Runs.{records_of, Runs}
use Rattle.board.specs.declared.board.Board.{Board}
use Rattle.board.specs.declared.runs.Run.{Run}
use Rattle.call.specs.declared.answer.AnswerRecord.{AnswerRecord}
use Rattle.call.specs.declared.fault.JobFault.{JobFault}
use Rattle.job.specs.Reading.{Says}
use Rattle.lines.specs.Lines.{answer_line, fault_line, has_room}
use Rattle.page.specs.declared.bank.Bank.{Bank}
use Rattle.page.specs.declared.table.Table.{Table}
use Rattle.play.specs.Playing.{PlaysJob}
use Rattle.play.specs.declared.refused.RefusedJob.{RefusedJob}
use Rattle.rules.specs.Runs.{run}
use Rattle.rules.specs.State.{setting, opening}
use Rattle.rules.specs.Steps.{Operations, changed_by, clear_all}
use Rattle.signature.specs.Blooms.{fresh, operations}
use Rattle.signature.specs.declared.bloom.Bloom.{Bloom}
use Rattle.word.specs.declared.word.Word.{Word}
use Rattle.transcript.specs.Transcripts.{text_of, fields_of, outcome_text, outcome_fields, Within, Written, zeros, bank_words, PlaysFresh}

module _ {P S : Type 0} (words : P → List Word) (ops : Operations S) (page : P) (g : S) (table after : List AnswerRecord) where
  -- the records of a job that is played
  module _ (s : Says) (board : Board P S) (made : ℕ) (counted : made ≡ length s.calls) (runs : Runs words ops s.figures (words page) g s.calls table after board) where
    abbrev records : List AnswerRecord
    records = records_of s.calls (run ops s.figures (words page) g s.calls).answers

    many : length records ≡ length s.calls
    many = records_length s.calls _ (play_length ops (setting s.figures (words page)) (opening s.figures (words page)) (changed_by ops g clear_all) s.calls)

    pub filled : take made after ≡ records
    filled =
        (λ i. take ((counted ∙ sym many) i) (runs.answers i)) ∙ take-append_seam records (drop (length s.calls) table)

    pub room : made ≤ length after
    room =
        let long = ap length runs.answers ∙ length-append records (drop (length s.calls) table) in
        omega (arith, many)

  pub within : (v : Result Says JobFault) (o : Result (Run P S) (RefusedJob P S)) → PlaysJob words ops page g table after v o → Within o after
  within (Ok s) (Ok r) p = room s r.board r.made p.0 p.1
  within (Ok s) (Err r) p = tt
  within (Err e) (Ok r) p = absurd p
  within (Err e) (Err r) p = tt

  pub same_text : (v : Result Says JobFault) (o : Result (Run P S) (RefusedJob P S)) → PlaysJob words ops page g table after v o → outcome_text o after ≡ text_of ops (words page) g v
  same_text (Ok s) (Ok r) p = ap (flat_map answer_line) (filled s r.board r.made p.0 p.1)
  same_text (Ok s) (Err r) p = absurd p
  same_text (Err e) (Ok r) p = absurd p
  same_text (Err e) (Err r) p = ap fault_line p.2

  pub same_fields : (v : Result Says JobFault) (o : Result (Run P S) (RefusedJob P S)) → PlaysJob words ops page g table after v o → outcome_fields o after ≡ fields_of v
  same_fields (Ok s) (Ok r) p =
      ap length (filled s r.board r.made p.0 p.1) ∙ many s r.board r.made p.0 p.1
  same_fields (Ok s) (Err r) p = absurd p
  same_fields (Err e) (Ok r) p = absurd p
  same_fields (Err e) (Err r) p = refl

-- a text that was written fits the buffer
pub fits : (text before after : List ℕ) (fields : ℕ) (told : Option ℕ) → Written text before after fields told → length after ≡ length before → IfSome told (λ n. n ≤ length before)
fits text before after fields told wrote same = go (has_room (length before) fields) wrote.size wrote.bytes
  where
    go : (b : Bool) → told ≡ cond b (Some (length text)) None → after ≡ cond b (text ++ drop (length text) before) before → IfSome told (λ n. n ≤ length before)
    go true e bytes =
        let long = ap length bytes ∙ length-append text (drop (length text) before) in
        let short : length text ≤ length before = omega arith in
        subst (λ (o : Option ℕ). IfSome o (λ n. n ≤ length before)) (sym e) short
    go false e bytes = subst (λ (o : Option ℕ). IfSome o (λ n. n ≤ length before)) (sym e) tt

-- a job on a fresh page with a fresh signature
module _ (page : Bank Table) (g : Bloom) (table after : List AnswerRecord) (blank : bank_words page ≡ zeros) (empty : g ≡ fresh) where
  pub plays_fresh : (v : Result Says JobFault) (o : Result (Run (Bank Table) Bloom) (RefusedJob (Bank Table) Bloom)) → PlaysJob bank_words operations page g table after v o → PlaysFresh table after v o
  plays_fresh (Ok s) (Ok r) p =
      (p.0, subst (λ (h : Bloom). Runs bank_words operations s.figures zeros h s.calls table after r.board) empty (subst (λ (ws : List Word). Runs bank_words operations s.figures ws g s.calls table after r.board) blank p.1))
  plays_fresh (Ok s) (Err r) p = p
  plays_fresh (Err e) (Ok r) p = p
  plays_fresh (Err e) (Err r) p = (ap bank_words p.0 ∙ blank, p.1 ∙ empty, p.2, p.3)
