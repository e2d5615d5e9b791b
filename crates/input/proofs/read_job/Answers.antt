use Rattle.std.proofs.Common.{◌≡◌, ℕ, List, Option, [], ◌++◌, Some, None, IfSome, take, ap, ◌∙◌, subst, arith}
use Rattle.std.proofs.lemmas.List.{take-take}
use Rattle.std.specs.Option.{option_map}
use Rattle.input.proofs.read_job.Goals as goal

-- what was kept of what was read up to the limit is what was given up to it
up_to_limit : (o : Option (List ℕ)) (limit : ℕ) (before job kept : List ℕ) → limit ≡ 65536 → before ≡ [] → kept ≡ take 65536 job → IfSome (option_map (take limit) o) (λ xs. job ≡ before ++ xs) → IfSome o (λ given. kept ≡ take 65536 given)
up_to_limit None limit before job kept l b k e = e
up_to_limit (Some given) limit before job kept l b k e =
    k ∙ ap (take 65536) (e ∙ (λ i. b i ++ take (l i) given)) ∙ take-take 65536 65536 given (omega arith)

pub returns-clause-bytes : goal.returns-clause-bytes
returns-clause-bytes g c =
    subst (λ r. IfSome (g.R.Read.remaining r) (λ given. c.truncate.new.self.items ≡ take 65536 given)) c.take.ensures.inner
    (up_to_limit (g.R.Read.remaining c.take.result.inner) c.take.result.limit c.in_ok-job.job.items c.read_to_end.new.buf.items c.truncate.new.self.items c.take.ensures.limit c.in_ok-job.ensures.items c.truncate.ensures.items c.in_ok-read_to_end.ensures.bytes)
