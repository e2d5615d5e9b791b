-- The text of a job: a line for its figures and one for each call, or one for its fault. Assumes nothing.
use Rattle.std.specs.Prelude.{ℕ, zero, suc, ◌+◌, ◌-◌, ◌/◌, ◌%◌, cond, List, [], ◌∷◌, ◌++◌, length, Ok, Err, codes, decimal, Result, ◌==◌, nat_lt}
use Rattle.call.specs.Figures.{Five}
use Rattle.call.specs.declared.call.Call.{Call}
use Rattle.call.specs.declared.call.Call.TheVariants as call
use Rattle.call.specs.declared.fault.JobFault.{JobFault}
use Rattle.job.specs.Jobs.{figures_read, calls_read}
use Rattle.job.specs.Reading.{reading}
use Rattle.lines.specs.Lines.{fault_line}
use Rattle.lines.specs.Texts.{newline}

-- the line of a job's figures and the number of its records
abbrev pub figures_line : Five → ℕ → List ℕ
figures_line f records =
    (codes "cores "
    ++ (decimal f.cores
    ++ (codes " slots "
    ++ (decimal f.slots
    ++ (codes " words "
    ++ (decimal f.words
    ++ (codes " strip "
    ++ (decimal f.strip
    ++ (codes " allowance " ++ (decimal f.allowance ++ (codes " records " ++ decimal records)))))))))))
    ++ newline

-- the modes of so many strips under a plan, the first strip first: four bits each
abbrev pub modes : ℕ → ℕ → List ℕ
modes zero plan = []
modes (suc strips) plan = (plan % 16) ∷ modes strips (plan / 16)

-- a mode in words: 1 is written, 8 to 15 locked under lock 0 to 7, and the others have no meaning but their number
abbrev pub mode_text : ℕ → List ℕ
mode_text mode =
    cond (mode == 1) (codes "written")
    (cond (nat_lt mode 8) (codes "mode-" ++ decimal mode) (codes "locked-" ++ decimal (mode - 8)))

-- a strip with its mode; a strip that is read-only, mode 0, is left out
abbrev pub strip_text : ℕ → ℕ → List ℕ
strip_text strip mode = cond (mode == 0) [] (codes " " ++ (decimal strip ++ (codes " " ++ mode_text mode)))

-- the strips from a number on, with their modes
abbrev pub strips_text : ℕ → List ℕ → List ℕ
strips_text strip [] = []
strips_text strip (mode ∷ rest) = strip_text strip mode ++ strips_text (strip + 1) rest

-- the strips of a plan, of which there are sixteen
unfoldable pub plan_text : ℕ → List ℕ
plan_text plan = cond (plan == 0) (codes " none") (strips_text 0 (modes 16 plan))

-- a line that begins with its number and a core
abbrev pub core_line : ℕ → ℕ → List ℕ → List ℕ
core_line n core rest = decimal n ++ (codes " core " ++ (decimal core ++ rest))

-- the line of a call, with its number among the calls, counted from 1
abbrev pub call_line : ℕ → Call → List ℕ
call_line n (call.Load core word) = core_line n core (codes " load word " ++ (decimal word ++ newline))
call_line n (call.Store core word value) =
    core_line n core (codes " store word " ++ (decimal word ++ (codes " value " ++ (decimal value ++ newline))))
call_line n (call.Evict core word) = core_line n core (codes " evict word " ++ (decimal word ++ newline))
call_line n (call.Acquire core lock) = core_line n core (codes " acquire lock " ++ (decimal lock ++ newline))
call_line n (call.Release core lock) = core_line n core (codes " release lock " ++ (decimal lock ++ newline))
call_line n (call.Phase plan) =
    decimal n ++ (codes " conductor phase plan " ++ (decimal plan ++ (codes " strips" ++ (plan_text plan ++ newline))))
call_line n call.Settle = decimal n ++ (codes " conductor settle" ++ newline)

-- the lines of calls, numbered from one on
abbrev pub call_lines : ℕ → List Call → List ℕ
call_lines n [] = []
call_lines n (c ∷ cs) = call_line n c ++ call_lines (n + 1) cs

-- the text of a job by its verdict and its calls
abbrev pub text_of : Result Five JobFault → List Call → List ℕ
text_of (Ok f) cs = figures_line f (length cs) ++ call_lines 1 cs
text_of (Err e) cs = fault_line e

-- the text of a job
abbrev pub job_text : List ℕ → List ℕ
job_text bytes = text_of (figures_read (reading bytes)) (calls_read (reading bytes))
