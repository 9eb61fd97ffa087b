use Rattle.type_faults.proofs.Leasts.{least_join, leaf}
use Rattle.given_values.specs.GivenFaults.{measure_fault}
use Rattle.given_values.specs.Passing.{seens}
use Rattle.given_values.proofs.calls.measurer_fault.Goals as goal

pub returns : goal.returns
returns c =
    let os = seens c.args.arguments.now in
    rw (c.lesser.ensures, c.measure_fault.ensures) (least_join _ _ c.singles_fault.result _ c.singles_fault.ensures (leaf (measure_fault c.args.pos os)))
