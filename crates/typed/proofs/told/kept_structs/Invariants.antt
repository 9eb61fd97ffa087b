-- The structs so far, and those that are left.
use Rattle.std.proofs.Common.{◌≡◌, ℕ, ◌++◌, map, length, slice_get, Some}
use Rattle.std.specs.Vec.Iter.{into_iter_items, into_iter_len}
use Rattle.typed.specs.declared.told.Told.{Told}
use Rattle.typed.specs.Tables.{lists_of}
use Rattle.typed.specs.Words.{known}
use Rattle.typed.specs.Memory.{fields_in}
use Rattle.typed.proofs.told.kept_structs.Given as goal

abbrev pub invariant-loop-list : goal.invariant-loop-list
invariant-loop-list l =
    (map fields_in l.structs.items ++ lists_of (into_iter_items l.list-iterator) ≡ lists_of (into_iter_items l.initial.list-iterator))
    × ((s : ℕ) (t : Told) → slice_get l.structs.items s ≡ Some (Some t) → t.words ≡ known l.words s)
    × (into_iter_len l.list-iterator ≡ length (into_iter_items l.list-iterator))
