-- The types of a table as trees.
use Rattle.std.specs.Prelude.{ℕ, zero, suc, ◌*◌, List, [], ◌∷◌, length, map, get_or, slice_get, Option, None, Some}
use Rattle.std.specs.Option.{unwrap_or, option_map, option_and_then}
use Rattle.typed_syntax.specs.Types.{TypeTree, PartTypes, ints, bools, struct_of, array_of, pointer_to, slice_of, no_types, more_types, width, part_offset}
use Rattle.base.specs.declared.ids.TypeId.{TypeId}
use Rattle.base.specs.declared.value_type.ValueType.{ValueType}
use Rattle.base.specs.declared.value_type.ValueType.TheVariants.{Int, Bool as Truth, Struct, Array, Pointer, Slice}
use Rattle.typed.specs.Tables.{Table, fields_of, told}

-- the tree of the type that has a number, where these are the trees of the types
abbrev pub part_by : Table → (ValueType → Option TypeTree) → ℕ → Option TypeTree
part_by T tree i = option_and_then tree (slice_get T.types i)

abbrev pub more_by : Option TypeTree → Option PartTypes → Option PartTypes
more_by x xs = option_and_then (λ y. option_map (more_types y) xs) x

abbrev pub parts_by : Table → (ValueType → Option TypeTree) → List TypeId → Option PartTypes
parts_by T tree [] = Some no_types
parts_by T tree (e ∷ es) = more_by (part_by T tree e.0) (parts_by T tree es)

-- the tree of a type, made of those of its parts; none where a struct isn't told, or a part has none. What a pointer leads to and what
-- the elements of a slice are is no part: it's named by its number, and so may be a struct that isn't told, or hold the type itself
abbrev pub tree_by : Table → (ValueType → Option TypeTree) → ValueType → Option TypeTree
tree_by T tree Int = Some ints
tree_by T tree Truth = Some bools
tree_by T tree (Struct s) = option_and_then (λ fields. option_map struct_of (parts_by T tree fields)) (fields_of T s.0)
tree_by T tree (Array n e) = option_map (array_of n) (part_by T tree e.0)
tree_by T tree (Pointer e) = Some (pointer_to e.0)
tree_by T tree (Slice e) = Some (slice_of e.0)

-- the tree of a type that nests so deep at most
abbrev pub tree_within : Table → ℕ → ValueType → Option TypeTree
tree_within T zero t = None
tree_within T (suc depth) t = tree_by T (tree_within T depth) t

-- no type of a table nests deeper, since an array stands after its elements' type, and a struct is told after those of its fields
abbrev pub depth_of : Table → ℕ
depth_of T = suc (told T.structs) * suc (length T.types)

-- the tree of a type: none where it is a struct that's not told, or made of one
unfoldable pub tree_of : Table → ValueType → Option TypeTree
tree_of T t = tree_within T (depth_of T) t

-- the machine words of each value of a type
abbrev pub words_of : Table → ValueType → Option ℕ
words_of T t = option_map width (tree_of T t)

abbrev pub offset_in : Option TypeTree → ℕ → ℕ
offset_in None i = 0
offset_in (Some t) i = part_offset t i

-- the trees of the types by their numbers; what has none counts as a whole number
abbrev pub trees : Table → List TypeTree
trees T = map (λ t. unwrap_or (tree_of T t) ints) T.types

abbrev pub tree_named : Table → ℕ → TypeTree
tree_named T i = get_or (trees T) i ints
