use Rattle.std.proofs.Common.{◌≡◌, ◌^◌, ◌<◌, refl, arith, rules}
use Rattle.call.specs.Told.{fault_told}
use Rattle.call.specs.declared.fault.JobFault.{JobFault}
use Rattle.call.specs.declared.fault.JobFault.TheVariants.{Short, Figures, Reserved, Length, Record, Table}
use Rattle.lines.proofs.Apart.{faults_apart, never_both}
use Rattle.lines.proofs.Lengths.{figure_most, fault_most}
use Rattle.lines.proofs.Writing.{from_first}
use Rattle.lines.proofs.write_fault.Goals as goal

-- the place fits its type
place_fits : (c : goal.After-fault) (f : JobFault) → c.args.fault ≡ f → (fault_told f).place < 2 ^ 16
place_fits c (Short length) is = let byte : length < 2 ^ 8 = search rules in omega arith
place_fits c (Figures f) is = omega (arith, (figure_most f).0)
place_fits c Reserved is = omega arith
place_fits c Length is = omega arith
place_fits c (Record place) is = search rules
place_fits c Table is = omega arith

pub returns-clause-after : goal.returns-clause-after
returns-clause-after c = (from_first c.fault.ensures.wrote).1

pub returns-clause-most : goal.returns-clause-most
returns-clause-most c =
    let most = fault_most c.args.fault (place_fits c c.args.fault refl) in
    let wrote = from_first c.fault.ensures.wrote in
    omega arith

pub returns-clause-apart : goal.returns-clause-apart
returns-clause-apart c = faults_apart

pub returns-clause-never_both : goal.returns-clause-never_both
returns-clause-never_both c = never_both
