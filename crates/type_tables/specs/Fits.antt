-- Types that enter a table in which no struct is told.
use Rattle.std.specs.Prelude.{◌≡◌, ℕ, ◌*◌, ◌<◌, List, [], ◌∷◌, slice_get, Option, Some, None}
use Rattle.std.specs.List.{AllZip}
use Rattle.base.specs.declared.ids.TypeId.{TypeId}
use Rattle.struct_sizes.specs.declared.forms.Prefix.{Prefix}
use Rattle.struct_sizes.specs.declared.forms.Prefix.TheVariants.{Pointer, Slice, Array}
use Rattle.struct_sizes.specs.declared.forms.Base.{Base}
use Rattle.struct_sizes.specs.declared.forms.Base.TheVariants.{Int, Bool as Truth, Struct}
use Rattle.struct_sizes.specs.Structs.{Prefixed, Fields}
use Rattle.typed.specs.Tables.{Table, fields_of}
use Rattle.typed.specs.Words.{IsInLimits}
use Rattle.type_tables.specs.Types.{IsToldAs}

abbrev pub IsArray : Prefix → Type 0
IsArray Pointer = ⊥
IsArray Slice = ⊥
IsArray (Array n) = Unit {0}

-- the words of arrays by those of their base
abbrev pub array_words : List Prefix → ℕ → ℕ
array_words [] words = words
array_words (Array n ∷ ps) words = n * array_words ps words
array_words (Pointer ∷ ps) words = array_words ps words
array_words (Slice ∷ ps) words = array_words ps words

-- each array has as many words as it may have
abbrev pub AreInLimits : List Prefix → ℕ → Type 0
AreInLimits [] words = Unit {0}
AreInLimits (p ∷ ps) words = IsArray p × IsInLimits (array_words (p ∷ ps) words) × AreInLimits ps words

-- what is known of the words of a base without a table
abbrev pub MayHave : Base → ℕ → Type 0
MayHave Int words = words ≡ 1
MayHave Truth words = words ≡ 1
MayHave (Struct id) words = 0 < words

-- a type whose arrays are within the limits by some number of words of its base
abbrev pub Fits : Option Prefixed → Type 0
Fits None = ⊥
Fits (Some t) = (words : ℕ) × MayHave t.base words × AreInLimits t.prefixes words

abbrev pub FieldsFit : Fields → Type 0
FieldsFit fs = (i : ℕ) (f : Option Prefixed) → slice_get fs i ≡ Some f → Fits f

abbrev pub StructFits : Option Fields → Type 0
StructFits None = Unit {0}
StructFits (Some fs) = FieldsFit fs

abbrev pub StructsFit : List (Option Fields) → Type 0
StructsFit structs = (k : ℕ) (s : Option Fields) → slice_get structs k ≡ Some s → StructFits s

abbrev pub IsUntold : Table → Type 0
IsUntold T = (s : ℕ) → fields_of T s ≡ None

-- structs in turn, and how each is told
abbrev pub AreToldAs : Table → List (Option Fields) → List (Option (List TypeId)) → Type 0
AreToldAs T ss xs = AllZip (IsToldAs T) ss xs
