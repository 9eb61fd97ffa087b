use Rattle.std.proofs.Common.{◌+◌, drop, arith}
use Rattle.typed.specs.View.{steps_of}
use Rattle.expression_code.proofs.Steps.{above_index, above_least}
use Rattle.expression_code.proofs.parts.above_steps.Goals as goal

pub overflow_add-above : goal.overflow_add-above
overflow_add-above c =
    let steps = c.args.steps.now in let i = c.loop-step.step-index in
    let next = above_index steps i c.step-item.result c.loop-step-test.true c.step-item.is c.in-Index.field-0 c.in-Index.field-1 c.in-Index.field-2 c.in-Index.is c.loop-step.above in
    let least = above_least (c.loop-step.above + 1) (steps_of (drop (i + 1) steps)) in
    omega (arith, c.loop-step.invariant, next, least, c.requires)
