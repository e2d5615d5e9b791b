-- What a reader of the text can rely on. Assumes nothing.
use Rattle.std.specs.Prelude.{◌≡◌, ℕ, ◌^◌, ◌<◌}
use Rattle.call.specs.declared.call.Call.{Call}
use Rattle.job.specs.Encoding.{LawfulCall}
use Rattle.listing.specs.Lines.{call_line}

-- two calls with one line are the same call at the same number
abbrev pub LinesApart : Type 0
LinesApart =
    (m n : ℕ) (c d : Call) → m < 2 ^ 64 → n < 2 ^ 64 → LawfulCall c → LawfulCall d → call_line m c ≡ call_line n d → (m ≡ n) × (c ≡ d)
