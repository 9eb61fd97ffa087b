-- Types, and how many machine words a value of each has [Go specification, Types].
use Rattle.std.specs.Prelude.{ℕ, zero, suc, ◌+◌, ◌*◌, ◌<◌, List, [], ◌∷◌, ◌++◌, get_or}

mutual
  -- a type stands whole: none here holds itself. What a pointer leads to, and what the elements of a slice are, is named by its number
  -- in the program's table of types, so a type may lead to itself
  pub data TypeTree : Type 0 where
    -- whole numbers, and truth values
    ints : TypeTree
    bools : TypeTree
    -- structs, by the types of their fields in order
    struct_of : PartTypes → TypeTree
    -- arrays, by their length and the type of their elements
    array_of : ℕ → TypeTree → TypeTree
    -- pointers to variables of a type, and slices of elements of a type, by its number
    pointer_to : ℕ → TypeTree
    slice_of : ℕ → TypeTree

  pub data PartTypes : Type 0 where
    no_types : PartTypes
    more_types : TypeTree → PartTypes → PartTypes

abbrev mutual
  -- the number of machine words of each value of a type
  pub width : TypeTree → ℕ
  width ints = 1
  width bools = 1
  width (struct_of ts) = widths ts
  width (array_of n t) = n * width t
  width (pointer_to n) = 1
  -- the address of the first element, the length and the capacity
  width (slice_of n) = 3

  pub widths : PartTypes → ℕ
  widths no_types = 0
  widths (more_types t ts) = width t + widths ts

-- n times the same type
abbrev pub repeated : ℕ → TypeTree → PartTypes
repeated zero t = no_types
repeated (suc n) t = more_types t (repeated n t)

-- the types of the parts of a struct, which are its fields, and of an array, which are its elements
abbrev pub part_types : TypeTree → PartTypes
part_types ints = no_types
part_types bools = no_types
part_types (struct_of ts) = ts
part_types (array_of n t) = repeated n t
part_types (pointer_to n) = no_types
part_types (slice_of n) = no_types

abbrev pub types_in : PartTypes → ℕ
types_in no_types = 0
types_in (more_types t ts) = suc (types_in ts)

abbrev pub nth_type : PartTypes → ℕ → TypeTree
nth_type no_types i = ints
nth_type (more_types t ts) zero = t
nth_type (more_types t ts) (suc i) = nth_type ts i

-- the words of the first parts together
abbrev pub widths_before : PartTypes → ℕ → ℕ
widths_before no_types i = 0
widths_before (more_types t ts) zero = 0
widths_before (more_types t ts) (suc i) = width t + widths_before ts i

-- how many parts the values of a type have, the type of each, and the words before it
abbrev pub part_count : TypeTree → ℕ
part_count t = types_in (part_types t)

abbrev pub part_type : TypeTree → ℕ → TypeTree
part_type t i = nth_type (part_types t) i

abbrev pub part_offset : TypeTree → ℕ → ℕ
part_offset t i = widths_before (part_types t) i

-- ---- a table of types, in which each names the types of its parts by their numbers

pub data TypeEntry : Type 0 where
  int_entry : TypeEntry
  bool_entry : TypeEntry
  struct_entry : (fields : List ℕ) → TypeEntry
  array_entry : (length element : ℕ) → TypeEntry
  pointer_entry : (target : ℕ) → TypeEntry
  slice_entry : (element : ℕ) → TypeEntry

abbrev pub numbered : List TypeTree → ℕ → TypeTree
numbered known t = get_or known t ints

abbrev pub all_numbered : List TypeTree → List ℕ → PartTypes
all_numbered known [] = no_types
all_numbered known (t ∷ ts) = more_types (numbered known t) (all_numbered known ts)

-- the type of an entry, where these are the types of the table
abbrev pub entry_type : List TypeTree → TypeEntry → TypeTree
entry_type known int_entry = ints
entry_type known bool_entry = bools
entry_type known (struct_entry fields) = struct_of (all_numbered known fields)
entry_type known (array_entry n t) = array_of n (numbered known t)
entry_type known (pointer_entry t) = pointer_to t
entry_type known (slice_entry t) = slice_of t

-- the types of a table, each made of those before it
abbrev pub types_after : List TypeTree → List TypeEntry → List TypeTree
types_after known [] = known
types_after known (e ∷ es) = types_after (known ++ entry_type known e ∷ []) es

abbrev pub types_of : List TypeEntry → List TypeTree
types_of es = types_after [] es

abbrev pub AllBelow : ℕ → List ℕ → Type 0
AllBelow n [] = Unit {0}
AllBelow n (t ∷ ts) = (t < n) × AllBelow n ts

-- the types of the parts of an entry stand before it; what a pointer or a slice leads to may stand anywhere
abbrev pub PartsBefore : ℕ → TypeEntry → Type 0
PartsBefore n int_entry = Unit {0}
PartsBefore n bool_entry = Unit {0}
PartsBefore n (struct_entry fields) = AllBelow n fields
PartsBefore n (array_entry length t) = t < n
PartsBefore n (pointer_entry t) = Unit {0}
PartsBefore n (slice_entry t) = Unit {0}
