-- The parts of values by paths. A path is a list of steps, each the number of a field or an index.
use Rattle.std.specs.Prelude.{◌≡◌, ◌≢◌, ◌⊎◌, ℕ, zero, suc, ◌+◌, ◌<◌, pos, List, [], ◌∷◌}
use Rattle.typed_syntax.specs.Types.{TypeTree, part_count, part_type, part_offset}
use Rattle.typed_syntax.specs.Value.{Value, Values, int, bool, composite, nil_pointer, pointer, nil_slice, slice_in, no_values, more_values}

-- in the place of what is not there
abbrev pub no_value : Value
no_value = int (pos 0)

abbrev pub nth_value : Values → ℕ → Value
nth_value no_values i = no_value
nth_value (more_values v vs) zero = v
nth_value (more_values v vs) (suc i) = nth_value vs i

-- another value in the place of one
abbrev pub with_nth : Values → ℕ → Value → Values
with_nth no_values i x = no_values
with_nth (more_values v vs) zero x = more_values x vs
with_nth (more_values v vs) (suc i) x = more_values v (with_nth vs i x)

-- a part of a value, and the value with another one in its place; what a pointer or a slice leads to is no part of it
abbrev pub part : Value → ℕ → Value
part (int z) i = no_value
part (bool b) i = no_value
part (composite vs) i = nth_value vs i
part nil_pointer i = no_value
part (pointer x path) i = no_value
part nil_slice i = no_value
part (slice_in x path first count room) i = no_value

abbrev pub with_part : Value → ℕ → Value → Value
with_part (int z) i x = int z
with_part (bool b) i x = bool b
with_part (composite vs) i x = composite (with_nth vs i x)
with_part nil_pointer i x = nil_pointer
with_part (pointer y path) i x = pointer y path
with_part nil_slice i x = nil_slice
with_part (slice_in y path first count room) i x = slice_in y path first count room

-- the part at a path
abbrev pub at_path : Value → List ℕ → Value
at_path v [] = v
at_path v (i ∷ path) = at_path (part v i) path

-- the value with another part at a path
abbrev pub with_path : Value → List ℕ → Value → Value
with_path v [] x = x
with_path v (i ∷ path) x = with_part v i (with_path (part v i) path x)

-- a path leads from values of a type to parts of a type
abbrev pub Leads : TypeTree → List ℕ → TypeTree → Type 0
Leads t [] s = t ≡ s
Leads t (i ∷ path) s = (i < part_count t) × Leads (part_type t i) path s

-- that type, where the path leads anywhere
abbrev pub type_at : TypeTree → List ℕ → TypeTree
type_at t [] = t
type_at t (i ∷ path) = type_at (part_type t i) path

-- the words before the part at a path
abbrev pub offset : TypeTree → List ℕ → ℕ
offset t [] = 0
offset t (i ∷ path) = part_offset t i + offset (part_type t i) path

-- neither of two paths goes on where the other ends
abbrev pub Apart : List ℕ → List ℕ → Type 0
Apart [] q = ⊥
Apart (i ∷ p) [] = ⊥
Apart (i ∷ p) (j ∷ q) = (i ≢ j) ⊎ ((i ≡ j) × Apart p q)
