-- Which structs and types are refused, and what is told of them.
use Rattle.std.specs.Prelude.{◌≡◌, ◌⊎◌, ◌↔◌, IsTrue, ℕ, ◌<◌, ◌≤◌, List, length, slice_get, Option, Some, None, Result, Ok, Err}
use Rattle.struct_sizes.specs.declared.forms.Base.{Base}
use Rattle.struct_sizes.specs.declared.forms.Base.TheVariants.{Int, Bool as Truth, Struct}
use Rattle.struct_sizes.specs.declared.verdicts.SizeFault.{SizeFault}
use Rattle.struct_sizes.specs.declared.verdicts.StructFault.{StructFault}
use Rattle.struct_sizes.specs.declared.verdicts.StructFault.TheVariants.{HoldsItself, Size}
use Rattle.struct_sizes.specs.declared.verdicts.Verdict.{Verdict}
use Rattle.struct_sizes.specs.declared.verdicts.Verdict.TheVariants.{Sized, Refused}
use Rattle.struct_sizes.specs.declared.verdicts.TypeRefusal.{TypeRefusal}
use Rattle.struct_sizes.specs.declared.verdicts.TypeRefusal.TheVariants.{Base as RefusedBase, Level}
use Rattle.struct_sizes.specs.declared.verdicts.Verdicts.{Verdicts}
use Rattle.struct_sizes.specs.Structs.{Prefixed, Fields, holds, mentions}
use Rattle.struct_sizes.specs.Words.{type_words, sum_words, IsTable}
use Rattle.struct_sizes.specs.Faults.{IsInnermost, FormFails, ByForm, BySize, AtFault}
use Rattle.struct_sizes.specs.Kept.{AgreeAll}
use Rattle.components.specs.Graph.{Among, row, Leads, Reaches}

-- a struct at fault is no type, and so is none that mentions one that is none
abbrev pub IsRefused : List Fields → List (Option ℕ) → ℕ → Type 0
IsRefused ss table k = (j : ℕ) × Reaches (mentions ss) k j × AtFault ss table j

-- what is told of a struct. A rule is looked at only where its operands are types: a size is told where no struct that is reached is
-- at fault by its form, and each that is at fault by its size reaches this one, so that they are looked at together
abbrev pub IsTold : List Fields → List (Option ℕ) → ℕ → StructFault → Type 0
IsTold ss table k HoldsItself = Leads (holds ss) k k
IsTold ss table k (Size fault) = BySize ss table k fault × ((j : ℕ) → Reaches (mentions ss) k j → ByForm ss table j → ⊥) × ((j : ℕ) (other : SizeFault) → Reaches (mentions ss) k j → BySize ss table j other → Reaches (mentions ss) j k)

abbrev pub AreTold : List Fields → List (Option ℕ) → ℕ → Option StructFault → Type 0
AreTold ss table k None = (fault : StructFault) → IsTold ss table k fault → ⊥
AreTold ss table k (Some fault) = IsTold ss table k fault

-- each struct at fault that is reached reaches this one, too: nothing else has to be mended before it
abbrev pub IsSource : List Fields → List (Option ℕ) → ℕ → Type 0
IsSource ss table k = (j : ℕ) → Reaches (mentions ss) k j → AtFault ss table j → Reaches (mentions ss) j k

abbrev pub IsVerdict : List Fields → List (Option ℕ) → ℕ → Verdict → Type 0
IsVerdict ss table k (Sized words) = (IsRefused ss table k → ⊥) × (slice_get table k ≡ Some (Some words))
IsVerdict ss table k (Refused refusal) = IsRefused ss table k × AreTold ss table k refusal.told × (IsTrue refusal.is_source ↔ IsSource ss table k)

-- no refusal is silent: one that has to be mended first is reached, of which something is told, or a field of which fails
abbrev pub Speaks : List Fields → List (Option ℕ) → ℕ → Type 0
Speaks ss table k = FormFails table (slice_get ss k) ⊎ ((fault : StructFault) × IsTold ss table k fault)

abbrev pub IsHeard : List Fields → List (Option ℕ) → ℕ → Type 0
IsHeard ss table k = (j : ℕ) × Reaches (mentions ss) k j × IsSource ss table j × Speaks ss table j

-- the verdict of each struct, by the table of the words of all, of which what is kept tells as much as matters
pub record AreVerdicts (ss : List Fields) (table : List (Option ℕ)) (found : Verdicts) : Type 0 where
  pub is_table : IsTable ss table
  pub kept : AgreeAll found.words.items table
  pub size : length found.verdicts.items ≡ length ss
  pub verdicts : (k : ℕ) (v : Verdict) → slice_get found.verdicts.items k ≡ Some v → IsVerdict ss table k v
  pub heard : (k : ℕ) → IsRefused ss table k → IsHeard ss table k

abbrev pub IsSettled : List Fields → Verdicts → Type 0
IsSettled ss found = (table : List (Option ℕ)) × AreVerdicts ss table found

-- there is one answer at most
abbrev pub OneAnswer : Type 0
OneAnswer = (ss : List Fields) (found other : Verdicts) → IsSettled ss found → IsSettled ss other → found.verdicts.items ≡ other.verdicts.items

abbrev pub BaseRefused : List Fields → List (Option ℕ) → Base → Type 0
BaseRefused ss table Int = ⊥
BaseRefused ss table Truth = ⊥
BaseRefused ss table (Struct id) = IsRefused ss table id.0

-- a type has its words, or is refused by its base or by the innermost of its arrays that fails
abbrev pub IsTypeVerdict : List Fields → List (Option ℕ) → Prefixed → Result ℕ TypeRefusal → Type 0
IsTypeVerdict ss table t (Ok words) = (BaseRefused ss table t.base → ⊥) × IsInnermost table t None × (type_words table t ≡ Some words)
IsTypeVerdict ss table t (Err RefusedBase) = BaseRefused ss table t.base
IsTypeVerdict ss table t (Err (Level fault)) = (BaseRefused ss table t.base → ⊥) × IsInnermost table t (Some fault)

-- a field is a type: its base is one, and no array in it fails
abbrev pub IsFieldType : List Fields → List (Option ℕ) → Option Prefixed → Type 0
IsFieldType ss table None = ⊥
IsFieldType ss table (Some t) = (BaseRefused ss table t.base → ⊥) × IsInnermost table t None

-- a struct is a type of some words: its fields are types, of as many words together, and so is each struct that it holds
pub record IsStructType (ss : List Fields) (table : List (Option ℕ)) (k words : ℕ) : Type 0 where
  pub fields : Fields
  pub is : slice_get ss k ≡ Some fields
  pub types : (i : ℕ) (f : Option Prefixed) → slice_get fields i ≡ Some f → IsFieldType ss table f
  pub held : (j : ℕ) → Among j (row (holds ss) k) → IsRefused ss table j → ⊥
  pub sum : sum_words table fields ≡ Some words
  pub some : 0 < words
  pub few : words ≤ 65535

-- a struct that isn't refused is a type
abbrev pub SizedIsType : Type 0
SizedIsType = (ss : List Fields) (table : List (Option ℕ)) (found : Verdicts) (k words : ℕ) → AreVerdicts ss table found → slice_get found.verdicts.items k ≡ Some (Sized words) → IsStructType ss table k words
