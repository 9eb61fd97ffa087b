-- One step more in memory.
use Rattle.std.proofs.Common.{◌≡◌, List, [], ◌∷◌, ◌++◌, refl, ap}
use Rattle.typed.specs.declared.expr.Step.{Step}
use Rattle.typed.specs.declared.expr.Step.TheVariants as way
use Rattle.typed_syntax.specs.Syntax.{inner, at_index}
use Rattle.typed.specs.Positions.{position}
use Rattle.typed.specs.View.{ex_of, steps_of}
use Rattle.operand_parts.specs.Parts.{steps_then}
use Rattle.operand_parts.specs.Passing.{step_view}

pub steps_push : (ws : List Step) (w : Step) → steps_of (ws ++ w ∷ []) ≡ steps_then (steps_of ws) (step_view w)
steps_push [] w = refl
steps_push (way.Inner i ∷ ws) w = ap (inner i) (steps_push ws w)
steps_push (way.Index at e m ∷ ws) w = ap (at_index (position at) (ex_of e) m) (steps_push ws w)
