use Rattle.std.proofs.Common.{◌≡◌, ◌++◌, drop, map}
use Rattle.syntax.specs.Expressions.{exs_of}
use Rattle.names.specs.Scope.{scope_of}
use Rattle.function_heads.proofs.head_types.unnamed_slots.Given as goal
use Rattle.signatures.specs.Signatures.{unnamed_params}
use Rattle.function_heads.specs.HeadTypes.{slot_of}

abbrev pub invariant-loop-type_expr : goal.invariant-loop-type_expr
invariant-loop-type_expr l = map (slot_of l.text (scope_of l.heads)) (unnamed_params (exs_of l.types)) ≡ l.slots.items ++ map (slot_of l.text (scope_of l.heads)) (unnamed_params (exs_of (drop l.type_expr-index l.types)))
