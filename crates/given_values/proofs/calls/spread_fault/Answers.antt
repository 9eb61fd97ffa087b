use Rattle.type_faults.specs.declared.fault.FaultKind.TheVariants.{Unfit}
use Rattle.type_faults.specs.Faults.{fault}
use Rattle.type_faults.proofs.Leasts.{least_join, leaf}
use Rattle.given_values.specs.Given.{part_count}
use Rattle.given_values.specs.GivenFaults.{refused_fault}
use Rattle.given_values.specs.Passing.{seens}
use Rattle.given_values.proofs.calls.spread_fault.Goals as goal

pub returns : goal.returns
returns c =
    let os = seens c.args.arguments.now in
    rw (c.lesser.ensures, c.refused_fault.ensures, c.part_count.ensures) (least_join _ _ c.parts_fault.result _ c.parts_fault.ensures (leaf (refused_fault (part_count os) (fault Unfit c.args.pos))))
