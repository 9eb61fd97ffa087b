-- Which types of a table have pointers, by those that are known already.
use Rattle.std.specs.Prelude.{◌≡◌, ℕ, Bool, true, false, List, [], Option, Some, None, get_or}
use Rattle.std.specs.List.{list_any}
use Rattle.std.specs.Option.{unwrap_or}
use Rattle.base.specs.declared.value_type.ValueType.{ValueType}
use Rattle.base.specs.declared.value_type.ValueType.TheVariants.{Int, Bool as Truth, Struct, Array, Pointer, Slice}
use Rattle.typed.specs.Tables.{Table, fields_of}
use Rattle.typed.specs.Trees.{tree_named}
use Rattle.typed_flows.specs.Pointers.{has_pointers}

-- what is known is right
abbrev pub AreKnown : Table → List (Option Bool) → Type 0
AreKnown T known = (i : ℕ) (b : Bool) → get_or known i None ≡ Some b → b ≡ has_pointers (tree_named T i)

-- all of them
abbrev pub AreAll : Table → List Bool → Type 0
AreAll T all = (i : ℕ) → get_or all i false ≡ has_pointers (tree_named T i)

-- a type by those of its parts
abbrev pub has_by : Table → ValueType → Bool
has_by T Int = false
has_by T Truth = false
has_by T (Struct s) = list_any (λ e. has_pointers (tree_named T e.0)) (unwrap_or (fields_of T s.0) [])
has_by T (Array n e) = has_pointers (tree_named T e.0)
has_by T (Pointer e) = true
has_by T (Slice e) = true
