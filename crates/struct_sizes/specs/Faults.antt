-- What is wrong with types and structs, where the words of the structs are known.
use Rattle.std.specs.Prelude.{◌≡◌, ◌⊎◌, ℕ, ◌<◌, ◌==◌, nat_lt, List, [], ◌∷◌, drop, slice_get, slice_index_or, Option, Some, None, option_and_then, if◌then◌else◌}
use Rattle.struct_sizes.specs.declared.forms.Prefix.{Prefix}
use Rattle.struct_sizes.specs.declared.forms.Prefix.TheVariants.{Pointer, Slice, Array}
use Rattle.struct_sizes.specs.declared.verdicts.SizeFault.{SizeFault}
use Rattle.struct_sizes.specs.declared.verdicts.SizeFault.TheVariants.{ZeroSize, TooLarge}
use Rattle.struct_sizes.specs.declared.verdicts.LevelFault.{LevelFault}
use Rattle.struct_sizes.specs.Structs.{Prefixed, Fields, holds}
use Rattle.struct_sizes.specs.Words.{prefixed_words, base_words}
use Rattle.components.specs.Graph.{Leads}

-- a type has a word at least, and 65,535 at most
abbrev pub size_fault : ℕ → Option SizeFault
size_fault words = if words == 0 then Some ZeroSize else if nat_lt 65535 words then Some TooLarge else None

-- the fault of known words
abbrev pub known_fault : Option ℕ → Option SizeFault
known_fault words = option_and_then size_fault words

-- the rule is one of arrays
abbrev pub prefix_fault : Prefix → Option ℕ → Option SizeFault
prefix_fault Pointer words = None
prefix_fault Slice words = None
prefix_fault (Array n) words = known_fault words

-- the fault of the outermost of some prefixes before a base of some words
abbrev pub outer_fault : List Prefix → Option ℕ → Option SizeFault
outer_fault [] words = None
outer_fault (p ∷ ps) words = prefix_fault p (prefixed_words (p ∷ ps) words)

-- the array at a level of a type has too few or too many words
abbrev pub FailsAt : List (Option ℕ) → Prefixed → (level : ℕ) → SizeFault → Type 0
FailsAt table t level fault = outer_fault (drop level t.prefixes) (base_words table t.base) ≡ Some fault

abbrev pub IsBad : List (Option ℕ) → Prefixed → Type 0
IsBad table t = (level : ℕ) × (fault : SizeFault) × FailsAt table t level fault

-- the innermost level that fails, if one does
abbrev pub IsInnermost : List (Option ℕ) → Prefixed → Option LevelFault → Type 0
IsInnermost table t None = (level : ℕ) (fault : SizeFault) → FailsAt table t level fault → ⊥
IsInnermost table t (Some f) = FailsAt table t f.level f.kind × ((level : ℕ) (fault : SizeFault) → f.level < level → FailsAt table t level fault → ⊥)

-- a field isn't known to be a type, or its type is bad
abbrev pub FieldFails : List (Option ℕ) → Option Prefixed → Type 0
FieldFails table None = Unit {0}
FieldFails table (Some t) = IsBad table t

abbrev pub FieldsFail : List (Option ℕ) → Fields → Type 0
FieldsFail table [] = ⊥
FieldsFail table (f ∷ fs) = FieldFails table f ⊎ FieldsFail table fs

-- a number that is no struct's is no type
abbrev pub FormFails : List (Option ℕ) → Option Fields → Type 0
FormFails table None = Unit {0}
FormFails table (Some s) = FieldsFail table s

-- a struct is at fault by its form: by a field, or because it holds itself
abbrev pub ByForm : List Fields → List (Option ℕ) → ℕ → Type 0
ByForm ss table k = FormFails table (slice_get ss k) ⊎ Leads (holds ss) k k

-- by its size, where its form is right
abbrev pub BySize : List Fields → List (Option ℕ) → ℕ → SizeFault → Type 0
BySize ss table k fault = (ByForm ss table k → ⊥) × (known_fault (slice_index_or table k None) ≡ Some fault)

abbrev pub AtFault : List Fields → List (Option ℕ) → ℕ → Type 0
AtFault ss table k = ByForm ss table k ⊎ ((fault : SizeFault) × BySize ss table k fault)
