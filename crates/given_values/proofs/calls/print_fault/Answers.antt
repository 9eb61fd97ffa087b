use Rattle.type_faults.specs.declared.fault.FaultKind.TheVariants.{Unfit}
use Rattle.type_faults.specs.Least.{lesser}
use Rattle.type_faults.specs.Faults.{fault, IsFault}
use Rattle.type_faults.proofs.Leasts.{least_join, leaf}
use Rattle.given_values.specs.GivenFaults.{PartsFail, RangeFails, shown_fault}
use Rattle.given_values.specs.Passing.{seens}
use Rattle.given_values.proofs.calls.print_fault.Goals as goal

pub returns : goal.returns
returns c =
    let os = seens c.args.arguments.now in
    let own = shown_fault os (fault Unfit c.args.pos) in
    rw (c.lesser.ensures, c.lesser-operands.ensures, c.shown_fault.ensures)
    (least_join _ (IsFault own) (lesser c.parts_fault.result c.range_faults.result) own (least_join (PartsFail os) (RangeFails os) c.parts_fault.result c.range_faults.result c.parts_fault.ensures c.range_faults.ensures) (leaf own))
