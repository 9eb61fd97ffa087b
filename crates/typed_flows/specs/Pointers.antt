-- Whether the values of a type have pointers.
use Rattle.std.specs.Prelude.{Bool, true, false, ◌||◌}
use Rattle.typed_syntax.specs.Types.{TypeTree, PartTypes, ints, bools, struct_of, array_of, pointer_to, slice_of, no_types, more_types}

-- a pointer is one itself, and a slice has one to its elements
abbrev mutual
  pub has_pointers : TypeTree → Bool
  has_pointers ints = false
  has_pointers bools = false
  has_pointers (struct_of ts) = have_pointers ts
  has_pointers (array_of n t) = has_pointers t
  has_pointers (pointer_to n) = true
  has_pointers (slice_of n) = true

  pub have_pointers : PartTypes → Bool
  have_pointers no_types = false
  have_pointers (more_types t ts) = has_pointers t || have_pointers ts
