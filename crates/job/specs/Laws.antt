-- What reading and encoding have to do with each other, in two sentences. Assumes nothing.
use Rattle.std.specs.Prelude.{◌≡◌, ℕ, ◌<◌, ◌≤◌, List, length, Ok}
use Rattle.std.specs.List.{AllByRecursion}
use Rattle.call.specs.Figures.{Five, checked}
use Rattle.call.specs.declared.call.Call.{Call}
use Rattle.job.specs.Encoding.{encode, LawfulCall}
use Rattle.job.specs.Reading.{reading, says}

-- checked figures and at most 4,608 lawful calls, once encoded, are an accepted job and are read back from it
abbrev pub ReadsBack : Type 0
ReadsBack =
    (f : Five) (cs : List Call) → checked f ≡ Ok f → AllByRecursion LawfulCall cs → length cs ≤ 4608 → reading (encode f cs) ≡ Ok (says f cs)

-- every accepted job is the encoding of the figures and the calls that are read from it
abbrev pub EncodesAgain : Type 0
EncodesAgain =
    (bytes : List ℕ) (f : Five) (cs : List Call) → AllByRecursion (λ b. b < 256) bytes → reading bytes ≡ Ok (says f cs) → bytes ≡ encode f cs
