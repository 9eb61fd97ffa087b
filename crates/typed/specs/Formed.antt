-- What holds of each table, and what is refused.
use Rattle.std.specs.Prelude.{◌≡◌, ℕ, ◌*◌, ◌^◌, ◌<◌, ◌≤◌, suc, Bool, if◌then◌else◌, List, length, get_or, sum_by, Option, None, Some, IsSome}
use Rattle.std.specs.List.{list_any}
use Rattle.std.specs.Option.{unwrap_or, option_map, option_or}
use Rattle.typed_syntax.specs.Types.{TypeTree, width}
use Rattle.base.specs.declared.ids.TypeId.{TypeId}
use Rattle.base.specs.declared.ids.StructId.{StructId}
use Rattle.base.specs.declared.value_type.ValueType.{ValueType}
use Rattle.base.specs.declared.value_type.ValueType.TheVariants.{Int, Bool as Truth, Struct, Array, Pointer, Slice}
use Rattle.typed.specs.declared.fault.TableFault.{TableFault}
use Rattle.typed.specs.declared.fault.TableFault.TheVariants.{TooLarge}
use Rattle.typed.specs.Tables.{Table, Holds, fields_of, with_fields, told}
use Rattle.typed.specs.Trees.{part_by, tree_by, tree_within, tree_of, words_of}
use Rattle.typed.specs.Words.{IsInLimits, refusal_by, is_over}

-- an array with a number stands after the type of its elements, and so does what leads to a type
abbrev pub IsPlaced : ℕ → ValueType → Type 0
IsPlaced i (Array n e) = (e.0 < i) × IsInLimits n
IsPlaced i (Pointer e) = e.0 < i
IsPlaced i (Slice e) = e.0 < i
IsPlaced i t = Unit {0}

-- what holds of each table
pub record IsFormed (T : Table) : Type 0 where
  pub int : Holds T 0 Int
  pub bool : Holds T 1 Truth
  -- each type stands once
  pub once : (i j : ℕ) (t : ValueType) → Holds T i t → Holds T j t → i ≡ j
  pub placed : (i : ℕ) (t : ValueType) → Holds T i t → IsPlaced i t
  -- a struct that's told has a tree, in which only structs that are told nest, and between two of them only types of the table
  pub nested : (s : StructId) (fields : List TypeId) → fields_of T s.0 ≡ Some fields → (x : TypeTree) × (tree_within T (told T.structs * suc (length T.types)) (Struct s) ≡ Some x)
  -- each number fits a word of 32 bits
  pub numbers : length T.types ≤ 2 ^ 32
  -- no type has too many words, or none
  pub types : (i : ℕ) (t : ValueType) (words : ℕ) → Holds T i t → words_of T t ≡ Some words → IsInLimits words
  pub structs : (s : StructId) (words : ℕ) → words_of T (Struct s) ≡ Some words → IsInLimits words

-- the tree of each type is made of those of its parts
abbrev pub TreesAreMade : Table → Type 0
TreesAreMade T = (t : ValueType) → tree_of T t ≡ tree_by T (tree_of T) t

-- types that have a tree keep it
abbrev pub KeepsTrees : Table → Table → Type 0
KeepsTrees T U = (t : ValueType) (x : TypeTree) → tree_of T t ≡ Some x → tree_of U t ≡ Some x

-- these are the words of each struct that's told
abbrev pub AreStructWords : Table → List (Option ℕ) → Type 0
AreStructWords T words = (s : StructId) (fields : List TypeId) → fields_of T s.0 ≡ Some fields → get_or words s.0 None ≡ words_of T (Struct s)

-- ---- what is refused

-- the elements of an array or a slice are of a type of the table, and a pointer leads to one
abbrev pub Stands : Table → ValueType → Type 0
Stands T (Array n e) = e.0 < length T.types
Stands T (Pointer e) = e.0 < length T.types
Stands T (Slice e) = e.0 < length T.types
Stands T t = Unit {0}

-- the tree of the type with a number
abbrev pub tree_at : Table → ℕ → Option TypeTree
tree_at T i = part_by T (tree_of T) i

abbrev pub words_at : Table → ℕ → Option ℕ
words_at T i = option_map width (tree_at T i)

-- the words that a type has at least: what has none yet has one at least
abbrev pub least_words : Table → ValueType → ℕ
least_words T (Array n e) = n * unwrap_or (words_at T e.0) 1
least_words T t = unwrap_or (words_of T t) 1

abbrev pub refusal : Table → ValueType → Option TableFault
refusal T t = refusal_by (least_words T t)

-- the words of the type with a number are known
abbrev pub HasWords : Table → TypeId → Type 0
HasWords T e = IsSome (words_at T e.0)

-- the words of fields together
abbrev pub sum_of : Table → List TypeId → ℕ
sum_of T fields = sum_by (λ e. unwrap_or (words_at T e.0) 0) fields

abbrev pub is_too_large : Table → ValueType → Bool
is_too_large T t = is_over (words_of T t)

-- a struct with these fields would have too many words, or none, or a type of the table that's made of it too many
abbrev pub struct_refusal : Table → ℕ → List TypeId → Option TableFault
struct_refusal T s fields = option_or (refusal_by (sum_of T fields)) (if list_any (is_too_large (with_fields T s fields)) T.types then Some TooLarge else None)
