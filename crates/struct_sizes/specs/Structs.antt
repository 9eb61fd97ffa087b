-- Types and structs; and which struct holds or mentions which [Go specification, Struct types, Array types]: graphs over their numbers.
use Rattle.std.specs.Prelude.{ℕ, Bool, true, false, List, [], ◌∷◌, map, Option, Some, None, if◌then◌else◌}
use Rattle.std.specs.List.{flat_map}
use Rattle.std.specs.Option.{option_map}
use Rattle.struct_sizes.specs.declared.forms.Prefix.{Prefix}
use Rattle.struct_sizes.specs.declared.forms.Prefix.TheVariants.{Pointer, Slice, Array}
use Rattle.struct_sizes.specs.declared.forms.Base.{Base}
use Rattle.struct_sizes.specs.declared.forms.Base.TheVariants.{Int, Bool as Truth, Struct}
use Rattle.struct_sizes.specs.declared.forms.PrefixedType.{PrefixedType}
use Rattle.struct_sizes.specs.declared.forms.DeclaredStruct.{DeclaredStruct}

-- a type: its prefixes, the outermost first, and its base
pub record Prefixed : Type 0 where
  pub prefixes : List Prefix
  pub base : Base

-- a struct: the types of its fields in order, with none where what stands there isn't known to be a type
abbrev pub Fields : Type 0
Fields = List (Option Prefixed)

-- types and structs as they lie in memory

abbrev pub prefixed_of : PrefixedType → Prefixed
prefixed_of t = record { prefixes = t.prefixes.items; base = t.base }

abbrev pub field_of : Option PrefixedType → Option Prefixed
field_of f = option_map prefixed_of f

abbrev pub fields_of : DeclaredStruct → Fields
fields_of s = map field_of s.fields.items

abbrev pub structs_of : List DeclaredStruct → List Fields
structs_of ss = map fields_of ss

-- the struct that a type begins from, if it is one
abbrev pub named : Base → List ℕ
named Int = []
named Truth = []
named (Struct id) = id.0 ∷ []

-- whether what stands behind prefixes stands in place: arrays alone, and no pointer or slice
abbrev pub is_in_place : List Prefix → Bool
is_in_place [] = true
is_in_place (Pointer ∷ ps) = false
is_in_place (Slice ∷ ps) = false
is_in_place (Array n ∷ ps) = is_in_place ps

abbrev pub held_in : Option Prefixed → List ℕ
held_in None = []
held_in (Some t) = if is_in_place t.prefixes then named t.base else []

abbrev pub mentioned_in : Option Prefixed → List ℕ
mentioned_in None = []
mentioned_in (Some t) = named t.base

-- for each struct, those that it holds, and those that it mentions
abbrev pub holds : List Fields → List (List ℕ)
holds ss = map (flat_map held_in) ss

abbrev pub mentions : List Fields → List (List ℕ)
mentions ss = map (flat_map mentioned_in) ss
