use Rattle.std.proofs.Common.{◌≡◌, ◌++◌, drop, map}
use Rattle.syntax.specs.Declarations.{fields_of}
use Rattle.names.specs.Scope.{scope_of}
use Rattle.function_heads.proofs.head_types.named_slots.Given as goal
use Rattle.signatures.specs.Signatures.{named_params}
use Rattle.function_heads.specs.HeadTypes.{slot_of}

abbrev pub invariant-loop-field : goal.invariant-loop-field
invariant-loop-field l = map (slot_of l.text (scope_of l.heads)) (named_params (fields_of l.fields)) ≡ l.slots.items ++ map (slot_of l.text (scope_of l.heads)) (named_params (fields_of (drop l.field-index l.fields)))
