use Rattle.std.proofs.Common.{◌≡◌, ◌++◌, drop, map}
use Rattle.syntax.specs.Expressions.{ex_of}
use Rattle.names.specs.Scope.{scope_of}
use Rattle.function_heads.proofs.head_types.with_field.Given as goal
use Rattle.signatures.specs.Signatures.{param_with}
use Rattle.function_heads.specs.HeadTypes.{slot_of}

abbrev pub invariant-loop-name : goal.invariant-loop-name
invariant-loop-name l =
    l.fn.slots.items ++ map (slot_of l.text (scope_of l.heads)) (map (param_with (ex_of l.field.type_expr)) l.field.names.items)
    ≡ l.slots.items ++ map (slot_of l.text (scope_of l.heads)) (map (param_with (ex_of l.field.type_expr)) (drop l.name-index l.field.names.items))
