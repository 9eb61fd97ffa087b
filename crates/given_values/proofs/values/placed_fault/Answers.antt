use Rattle.type_faults.specs.Least.{lesser}
use Rattle.type_faults.proofs.Leasts.{least_join}
use Rattle.given_values.specs.Given.{many}
use Rattle.given_values.specs.GivenFaults.{MismatchFails}
use Rattle.given_values.specs.Passing.{seens}
use Rattle.given_values.proofs.values.placed_fault.Goals as goal

pub returns : goal.returns
returns c =
    let ps = c.args.places.now in
    let os = seens c.args.items.now in
    let ranges = c.placed_range_faults.result in
    rw (c.lesser.ensures, c.lesser-own.ensures)
    (least_join _ (MismatchFails ps os (many os)) (lesser c.values_fault.result ranges) c.mismatch_fault.result (least_join _ _ c.values_fault.result ranges c.values_fault.ensures c.placed_range_faults.ensures) c.mismatch_fault.ensures)
