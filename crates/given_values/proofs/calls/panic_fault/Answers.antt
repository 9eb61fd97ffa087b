use Rattle.type_faults.specs.declared.fault.FaultKind.TheVariants.{WrongCount}
use Rattle.type_faults.specs.Faults.{fault}
use Rattle.type_faults.proofs.Leasts.{least_join, leaf}
use Rattle.given_values.specs.Given.{part_count}
use Rattle.given_values.specs.GivenFaults.{count_fault}
use Rattle.given_values.specs.Passing.{seens}
use Rattle.given_values.proofs.calls.panic_fault.Goals as goal

pub returns : goal.returns
returns c =
    let os = seens c.args.arguments.now in
    rw (c.lesser.ensures, c.count_fault.ensures, c.part_count.ensures) (least_join _ _ c.print_fault.result _ c.print_fault.ensures (leaf (count_fault (part_count os) 1 (fault WrongCount c.args.pos))))
