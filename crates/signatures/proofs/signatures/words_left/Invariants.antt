-- The words that are left and those of the types so far are the room.
use Rattle.std.proofs.Common.{◌≡◌, ◌+◌, drop}
use Rattle.typed_syntax.specs.Syntax.{all_width}
use Rattle.names.specs.Scope.{type_trees}
use Rattle.signatures.proofs.signatures.words_left.Given as goal

abbrev pub invariant-loop-value_type : goal.invariant-loop-value_type
invariant-loop-value_type l = l.left + all_width (type_trees l.types l.value_types) ≡ l.room + all_width (type_trees l.types (drop l.value_type-index l.value_types))
