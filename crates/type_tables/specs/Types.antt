-- What a table of types has for each field of a program.
use Rattle.std.specs.Prelude.{◌≡◌, ℕ, List, [], ◌∷◌, slice_get, get_or, Option, Some, None}
use Rattle.std.specs.List.{AllZip}
use Rattle.base.specs.declared.ids.TypeId.{TypeId}
use Rattle.base.specs.declared.ids.StructId.{StructId}
use Rattle.base.specs.declared.value_type.ValueType.{ValueType}
use Rattle.base.specs.declared.value_type.ValueType.TheVariants.{Struct as StructType, Array as ArrayType}
use Rattle.struct_sizes.specs.declared.forms.Prefix.{Prefix}
use Rattle.struct_sizes.specs.declared.forms.Prefix.TheVariants.{Pointer, Slice, Array}
use Rattle.struct_sizes.specs.declared.forms.Base.{Base}
use Rattle.struct_sizes.specs.declared.verdicts.Verdict.{Verdict}
use Rattle.struct_sizes.specs.declared.verdicts.Verdict.TheVariants.{Sized}
use Rattle.struct_sizes.specs.declared.verdicts.Verdicts.{Verdicts}
use Rattle.struct_sizes.specs.Structs.{Prefixed, Fields}
use Rattle.struct_sizes.specs.Verdicts.{IsSettled}
use Rattle.typed.specs.Tables.{Table, Holds, fields_of}
use Rattle.typed.specs.Trees.{words_of}
use Rattle.type_tables.specs.Told.{base_type, number_in, sized_structs, program_table}

-- no prefix is a pointer or a slice
abbrev pub AreArrays : List Prefix → Type 0
AreArrays [] = Unit {0}
AreArrays (Pointer ∷ ps) = ⊥
AreArrays (Slice ∷ ps) = ⊥
AreArrays (Array n ∷ ps) = AreArrays ps

abbrev pub AllArrays : List Fields → Type 0
AllArrays ss = (k i : ℕ) (fs : Fields) (t : Prefixed) → slice_get ss k ≡ Some fs → slice_get fs i ≡ Some (Some t) → AreArrays t.prefixes

-- a number of a table is that of the type that some prefixes and a base make: of the base, or of an array of the type behind it
abbrev pub IsTypeOf : Table → List Prefix → Base → ℕ → Type 0
IsTypeOf T [] base i = Holds T i (base_type base)
IsTypeOf T (Array n ∷ ps) base i = (e : TypeId) × Holds T i (ArrayType n e) × IsTypeOf T ps base e.0
IsTypeOf T (Pointer ∷ ps) base i = ⊥
IsTypeOf T (Slice ∷ ps) base i = ⊥

abbrev pub IsNumberOf : Table → Option Prefixed → TypeId → Type 0
IsNumberOf T None e = ⊥
IsNumberOf T (Some t) e = IsTypeOf T t.prefixes t.base e.0

-- numbers of the types of fields, one for each
abbrev pub AreNumbersOf : Table → Fields → List TypeId → Type 0
AreNumbersOf T fs es = AllZip (IsNumberOf T) fs es

-- a struct with fields is told with the types of these, and one without is not told
abbrev pub IsToldAs : Table → Option Fields → Option (List TypeId) → Type 0
IsToldAs T None None = Unit {0}
IsToldAs T None (Some es) = ⊥
IsToldAs T (Some fs) None = ⊥
IsToldAs T (Some fs) (Some es) = AreNumbersOf T fs es

abbrev pub TellsEach : Table → List (Option Fields) → Type 0
TellsEach T structs = (k : ℕ) → IsToldAs T (get_or structs k None) (fields_of T k)

-- each struct that isn't refused has its words
abbrev pub HaveWords : Table → List Verdict → Type 0
HaveWords T verdicts = (k : StructId) (words : ℕ) → slice_get verdicts k.0 ≡ Some (Sized words) → words_of T (StructType k) ≡ Some words

-- ---- laws

-- where no type stands twice, a type has one number at most
abbrev pub OneNumber : Type 0
OneNumber = (T : Table) → ((i j : ℕ) (t : ValueType) → Holds T i t → Holds T j t → i ≡ j) → (ps : List Prefix) (base : Base) (i : ℕ) → IsTypeOf T ps base i → number_in T ps base ≡ i

-- the table of a program tells each struct with the types of its fields, and no other
abbrev pub ProgramTells : Type 0
ProgramTells = (ss : List Fields) (found : Verdicts) → IsSettled ss found → AllArrays ss → TellsEach (program_table (sized_structs ss found.verdicts.items)) (sized_structs ss found.verdicts.items)
