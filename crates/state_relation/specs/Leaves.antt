-- The type of each machine word of a value.
use Rattle.std.specs.Prelude.{ℕ, zero, suc, List, [], ◌∷◌, ◌++◌, get_or}
use Rattle.typed_syntax.specs.Types.{TypeTree, PartTypes, ints, bools, struct_of, array_of, pointer_to, slice_of, no_types, more_types}

abbrev pub times : ℕ → List TypeTree → List TypeTree
times zero ls = []
times (suc n) ls = ls ++ times n ls

-- the types of a value's words in order, each of which is one of numbers, of truth values or of addresses; the first word of a slice has
-- the slice's
abbrev mutual
  pub leaves : TypeTree → List TypeTree
  leaves ints = ints ∷ []
  leaves bools = bools ∷ []
  leaves (struct_of ts) = leaves_in ts
  leaves (array_of n t) = times n (leaves t)
  leaves (pointer_to n) = pointer_to n ∷ []
  leaves (slice_of n) = slice_of n ∷ ints ∷ ints ∷ []

  pub leaves_in : PartTypes → List TypeTree
  leaves_in no_types = []
  leaves_in (more_types t ts) = leaves t ++ leaves_in ts

abbrev pub leaf : TypeTree → ℕ → TypeTree
leaf t j = get_or (leaves t) j ints

-- those of values side by side
abbrev pub all_leaves : List TypeTree → List TypeTree
all_leaves [] = []
all_leaves (t ∷ ts) = leaves t ++ all_leaves ts
