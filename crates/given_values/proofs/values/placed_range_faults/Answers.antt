use Rattle.std.proofs.Common.{◌≤◌, ◌<◌, min, length, arith}
use Rattle.type_faults.proofs.Leasts.{kept_end}
use Rattle.given_values.specs.declared.gives.Item.{Item}
use Rattle.given_values.specs.GivenFaults.{SidesFail, placed_range_fault}
use Rattle.given_values.specs.Passing.{seens}
use Rattle.given_values.proofs.Places.{sides_kept, sides_end}
use Rattle.given_values.proofs.values.placed_range_faults.Goals as goal

pub loop-index-preserved : goal.loop-index-preserved
loop-index-preserved c =
    let ps = c.args.places.now in
    let xs = c.args.items.now in
    let k = c.loop-index.index in
    let item : Item = c.index-items-index.result in
    let l : k < length ps = omega (arith, c.loop-index-test.true, c.min-index-end.ensures) in
    let m : k < length xs = omega (arith, c.loop-index-test.true, c.min-index-end.ensures) in
    rw (c.lesser-fault.ensures) (sides_kept placed_range_fault ps xs k c.loop-index.fault c.placed_range_fault.result _ item l m c.index-items-index.is c.loop-index.invariant c.placed_range_fault.ensures)

pub returns : goal.returns
returns c =
    let ps = c.args.places.now in
    let xs = c.args.items.now in
    let k = c.loop-index.index in
    let end : min (length ps) (length xs) ≤ k = omega (arith, c.loop-index-test.false, c.min-index-end.ensures) in
    kept_end (SidesFail placed_range_fault ps (seens xs)) _ c.loop-index.fault (sides_end placed_range_fault ps xs k end) c.loop-index.invariant
