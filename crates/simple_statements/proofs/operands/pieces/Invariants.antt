use Rattle.std.proofs.Common.{◌≡◌, ◌++◌, map, length}
use Rattle.std.specs.Vec.Iter.{into_iter_items, into_iter_len}
use Rattle.typed.specs.View.{piece_of}
use Rattle.names.specs.Scope.{scope_of, with_strings}
use Rattle.given_values.specs.Passing.{part_view}
use Rattle.simple_statements.proofs.operands.pieces.Given as goal
use Rattle.simple_statements.specs.SimpleStatements.{strings_of, pieces_from}

abbrev pub invariant-loop-part : goal.invariant-loop-part
invariant-loop-part l =
    (pieces_from (length (scope_of l.fn.scope).strings) (map part_view l.fn.parts.items) ≡ map piece_of l.pieces.items ++ pieces_from (length (scope_of l.scope).strings) (map part_view (into_iter_items l.part-iterator)))
    × (with_strings (scope_of l.fn.scope) (strings_of (map part_view l.fn.parts.items)) ≡ with_strings (scope_of l.scope) (strings_of (map part_view (into_iter_items l.part-iterator))))
    × (into_iter_len l.part-iterator ≡ length (into_iter_items l.part-iterator))
