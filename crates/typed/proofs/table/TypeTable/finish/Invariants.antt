-- The fields of the structs so far, and those that are left.
use Rattle.std.proofs.Common.{◌≡◌, [], ◌++◌, map, length}
use Rattle.std.specs.Option.{unwrap_or}
use Rattle.std.specs.Vec.Iter.{into_iter_items, into_iter_len}
use Rattle.typed.specs.Memory.{fields_in}
use Rattle.typed.proofs.table.TypeTable.finish.Given as goal

abbrev pub invariant-loop-told : goal.invariant-loop-told
invariant-loop-told l =
    (map (λ s. s.items) l.structs.items ++ map (λ s. unwrap_or (fields_in s) []) (into_iter_items l.told-iterator) ≡ map (λ s. unwrap_or (fields_in s) []) (into_iter_items l.initial.told-iterator))
    × (into_iter_len l.told-iterator ≡ length (into_iter_items l.told-iterator))
