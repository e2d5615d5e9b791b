-- Going through the calls of a job: the first of the calls that are left has the next line. Assumes nothing.
use Rattle.std.proofs.Common.{◌≡◌, ℕ, ◌+◌, List, ◌∷◌, ◌++◌, sym, ap, ◌∙◌, append_assoc}
use Rattle.call.specs.declared.call.Call.{Call}
use Rattle.listing.specs.Lines.{call_line, call_lines}

-- one line more, and one call less
pub line_step : (before after : List ℕ) (number next : ℕ) (cs left : List Call) (c : Call) → cs ≡ c ∷ left → next ≡ number + 1 → after ≡ before ++ call_line (number + 1) c → after ++ call_lines (next + 1) left ≡ before ++ call_lines (number + 1) cs
line_step before after number next cs left c is more longer =
    (λ i. longer i ++ call_lines (more i + 1) left)
    ∙ append_assoc before (call_line (number + 1) c) (call_lines (number + 1 + 1) left)
    ∙ ap (λ (ds : List Call). before ++ call_lines (number + 1) ds) (sym is)
