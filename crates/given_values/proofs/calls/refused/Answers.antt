use Rattle.type_faults.proofs.Leasts.{least_join, leaf}
use Rattle.given_values.specs.Given.{count}
use Rattle.given_values.specs.GivenFaults.{refused_fault}
use Rattle.given_values.specs.Passing.{seens}
use Rattle.given_values.proofs.calls.refused.Goals as goal

pub returns : goal.returns
returns c =
    let os = seens c.args.arguments.now in
    rw (c.lesser.ensures, c.refused_fault.ensures, c.count.ensures)
    (least_join _ _ c.values_fault.result _ c.values_fault.ensures (leaf (refused_fault (count os) (record { kind = c.args.kind; pos = c.args.pos }))))
