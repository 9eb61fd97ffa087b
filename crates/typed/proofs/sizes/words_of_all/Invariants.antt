-- The types so far have their words.
use Rattle.std.proofs.Common.{◌≡◌, map, take}
use Rattle.typed.specs.Trees.{words_of}
use Rattle.typed.specs.Memory.{table_of}
use Rattle.typed.proofs.sizes.words_of_all.Given as goal

abbrev pub invariant-loop-value_type : goal.invariant-loop-value_type
invariant-loop-value_type l = l.all.items ≡ map (words_of (table_of l.types l.structs)) (take l.value_type-index l.types)
