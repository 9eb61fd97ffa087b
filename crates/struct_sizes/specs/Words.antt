-- The machine words of types and structs.
use Rattle.std.specs.Prelude.{◌≡◌, ℕ, ◌+◌, ◌*◌, ◌<◌, List, [], ◌∷◌, length, slice_get, slice_index_or, Option, Some, None}
use Rattle.std.specs.Option.{option_map}
use Rattle.struct_sizes.specs.declared.forms.Prefix.{Prefix}
use Rattle.struct_sizes.specs.declared.forms.Prefix.TheVariants.{Pointer, Slice, Array}
use Rattle.struct_sizes.specs.declared.forms.Base.{Base}
use Rattle.struct_sizes.specs.declared.forms.Base.TheVariants.{Int, Bool as Truth, Struct}
use Rattle.struct_sizes.specs.Structs.{Prefixed, Fields, holds}
use Rattle.components.specs.Graph.{Leads}

-- the words behind a prefix, by those of what follows it, where they are known: a pointer is an address, and a slice an address and
-- two lengths, whatever they lead to
abbrev pub prefix_words : Prefix → Option ℕ → Option ℕ
prefix_words Pointer words = Some 1
prefix_words Slice words = Some 3
prefix_words (Array n) words = option_map (λ w. n * w) words

abbrev pub prefixed_words : List Prefix → Option ℕ → Option ℕ
prefixed_words [] words = words
prefixed_words (p ∷ ps) words = prefix_words p (prefixed_words ps words)

-- by a table of the words of all structs
abbrev pub base_words : List (Option ℕ) → Base → Option ℕ
base_words table Int = Some 1
base_words table Truth = Some 1
base_words table (Struct id) = slice_index_or table id.0 None

abbrev pub type_words : List (Option ℕ) → Prefixed → Option ℕ
type_words table t = prefixed_words t.prefixes (base_words table t.base)

abbrev pub field_words : List (Option ℕ) → Option Prefixed → Option ℕ
field_words table None = None
field_words table (Some t) = type_words table t

abbrev pub added : Option ℕ → Option ℕ → Option ℕ
added None more = None
added (Some words) None = None
added (Some words) (Some more) = Some (words + more)

-- the words of fields together
abbrev pub sum_words : List (Option ℕ) → Fields → Option ℕ
sum_words table [] = Some 0
sum_words table (f ∷ fs) = added (field_words table f) (sum_words table fs)

-- the words of all structs: a struct that holds itself has none, and any other those of its fields
pub record IsTable (ss : List Fields) (table : List (Option ℕ)) : Type 0 where
  pub size : length table ≡ length ss
  pub endless : (k : ℕ) → k < length ss → Leads (holds ss) k k → slice_get table k ≡ Some None
  pub sums : (k : ℕ) (s : Fields) → slice_get ss k ≡ Some s → (Leads (holds ss) k k → ⊥) → slice_get table k ≡ Some (sum_words table s)

-- there is one such table at most
abbrev pub OneTable : Type 0
OneTable = (ss : List Fields) (table other : List (Option ℕ)) → IsTable ss table → IsTable ss other → table ≡ other
