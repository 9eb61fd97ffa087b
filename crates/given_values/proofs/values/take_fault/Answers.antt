use Rattle.std.proofs.Common.{length}
use Rattle.type_faults.proofs.Leasts.{least_join, leaf}
use Rattle.given_values.specs.Given.{count}
use Rattle.given_values.specs.GivenFaults.{count_fault}
use Rattle.given_values.specs.Passing.{seens}
use Rattle.given_values.proofs.values.take_fault.Goals as goal

pub returns : goal.returns
returns c =
    let os = seens c.args.items.now in
    rw (c.lesser.ensures, c.count_fault.ensures, c.count.ensures) (least_join _ _ c.placed_fault.result _ c.placed_fault.ensures (leaf (count_fault (count os) (length c.args.places.now) c.args.own)))
