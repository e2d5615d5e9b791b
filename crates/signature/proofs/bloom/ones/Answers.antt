use Rattle.std.proofs.Common.{◌≡◌, ℕ, ◌*◌, ◌^◌, ◌<◌, List, length, get_or, ap, ◌∙◌, rules, tests, arith}
use lib.Count.{ones}
use Rattle.std.proofs.lemmas.Iterator.{YieldsList-from_slice, YieldsList-from_map}
use Rattle.std.proofs.lemmas.Iterator.Consumers.{sum_by_from_yields_List, fits_by_from_yields_list}
use Rattle.std.specs.List.{sum_by}
use Rattle.sets.specs.Fills.{bits_set}
use Rattle.sets.specs.Tables.{row_bit}
use Rattle.sets.proofs.Fills.{row_count, bits_set_bound}
use Rattle.signature.proofs.bloom.ones.Goals as goal

-- the ones of four words are their bits that are set
counted : (row : List ℕ) → length row ≡ 4 → ((i : ℕ) → get_or row i 0 < 2 ^ 64) → sum_by ones row ≡ bits_set (row_bit row) 256
counted row four fits = row_count row (λ k _. fits k) ∙ ap (λ n. bits_set (row_bit row) (64 * n)) four

pub sum-requires-clause-fits : goal.sum-requires-clause-fits
sum-requires-clause-fits c =
    fits_by_from_yields_list ones c.args.row.now c.map.result _
    (YieldsList-from_map _ ones (YieldsList-from_slice c.args.row.now cc) c.map.ensures.closure (λ x r q k. search (rules, tests)))
    (omega (arith, counted c.args.row.now c.told-row c.fits-row, bits_set_bound (row_bit c.args.row.now) 256))

total : (c : goal.After-sum) → c.sum.result ≡ bits_set (row_bit c.args.row.now) 256
total c =
    sum_by_from_yields_List ones c.args.row.now c.map.result _ c.sum.ensures.ran
    (YieldsList-from_map _ ones (YieldsList-from_slice c.args.row.now cc) c.map.ensures.closure (λ x r q k. search (rules, tests))) ∙
    counted c.args.row.now c.told-row c.fits-row

pub overflow_cast-result : goal.overflow_cast-result
overflow_cast-result c = omega (arith, total c, bits_set_bound (row_bit c.args.row.now) 256)

pub returns : goal.returns
returns c = total c
