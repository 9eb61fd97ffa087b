-- The types so far have their words, and none has too many.
use Rattle.std.proofs.Common.{◌≡◌, false, map, take}
use Rattle.std.specs.List.{list_any}
use Rattle.typed.specs.Tables.{with_fields}
use Rattle.typed.specs.Trees.{words_of}
use Rattle.typed.specs.Formed.{is_too_large}
use Rattle.typed.proofs.table.TypeTable.words_with.Given as goal

abbrev pub invariant-loop-value_type : goal.invariant-loop-value_type
invariant-loop-value_type l =
    (l.all.items ≡ map (words_of (with_fields l.self l.id.0 l.told.fields.items)) (take l.value_type-index l.self.types))
    × (list_any (is_too_large (with_fields l.self l.id.0 l.told.fields.items)) (take l.value_type-index l.self.types) ≡ false)
