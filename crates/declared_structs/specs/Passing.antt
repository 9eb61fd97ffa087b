-- What lies in memory as what the specifications speak of.
use Rattle.std.specs.Prelude.{◌≡◌, ℕ, ◌⊎◌, IsTrue, List, ◌++◌, map, Option, Some, None}
use Rattle.std.specs.Option.{option_map}
use Rattle.std.specs.Borrow.{Bor}
use Rattle.syntax.specs.declared.expression.Name.{Name}
use Rattle.syntax.specs.declared.declaration.TypeSpec.{TypeSpec as TypeSpecData}
use Rattle.syntax.specs.Expressions.{Ex as TreeEx}
use Rattle.syntax.specs.Declarations.{Field, TypeSpec, type_spec_of}
use Rattle.struct_sizes.specs.declared.forms.Prefix.{Prefix}
use Rattle.struct_sizes.specs.declared.forms.PrefixedType.{PrefixedType}
use Rattle.struct_sizes.specs.Structs.{Prefixed, Fields, prefixed_of}
use Rattle.struct_sizes.specs.declared.verdicts.StructFault.{StructFault}
use Rattle.struct_sizes.specs.declared.verdicts.Refusal.{Refusal}
use Rattle.struct_sizes.specs.declared.verdicts.Verdict.{Verdict}
use Rattle.struct_sizes.specs.declared.verdicts.Verdict.TheVariants.{Refused}
use Rattle.declared_structs.specs.Forms.{prefixed, field_types, struct_types, specs_structs}
use Rattle.base.specs.declared.pos.Pos.{Pos}
use Rattle.type_faults.specs.declared.fault.Fault.{Fault}
use Rattle.type_faults.specs.Faults.{fault, IsFault}
use Rattle.names.specs.Scope.{Scope}
use Rattle.declared_structs.specs.Faults.{struct_kind, LevelsFail}

-- a type after prefixes that stand before it
abbrev pub behind : List Prefix → Prefixed → Prefixed
behind ps t = record { prefixes = ps ++ t.prefixes; base = t.base }

abbrev pub view : Option PrefixedType → Option Prefixed
view t = option_map prefixed_of t

abbrev pub views : List (Option PrefixedType) → Fields
views fields = map view fields

-- the type that an expression states, after prefixes that stand before it
abbrev pub prefixed_after : List ℕ → Scope → List Prefix → TreeEx → Option Prefixed
prefixed_after text s ps e = option_map (behind ps) (prefixed text s e)

-- more fields: one of a type for each name, and those that share a type
abbrev pub with_names : Fields → List Name → Option Prefixed → Fields
with_names fs ns t = fs ++ map (λ n. t) ns

abbrev pub with_field : List ℕ → Scope → Fields → Field → Fields
with_field text s fs x = fs ++ field_types text s x

-- more structs
abbrev pub with_specs : List ℕ → Scope → List Fields → List TypeSpec → List Fields
with_specs text s ss ts = ss ++ specs_structs text s ts

abbrev pub spec_views : List (Bor TypeSpecData) → List TypeSpec
spec_views specs = map (λ t. type_spec_of t.now) specs

-- ---- sizes

abbrev pub whole_fault : Option StructFault → Pos → Option Fault
whole_fault None pos = None
whole_fault (Some told) pos = Some (fault (struct_kind told) pos)

-- what fails in a struct that is refused, by what is said of that
abbrev pub RefusalFails : List ℕ → Scope → List (Option ℕ) → Refusal → TypeSpec → Fault → Type 0
RefusalFails text s words refusal t f = IsFault (whole_fault refusal.told t.name.pos) f ⊎ (IsTrue refusal.is_source × LevelsFail text s words t.fields f)

-- what is said of a struct that is refused, by its verdict
abbrev pub refusal_in : Option Verdict → Option Refusal
refusal_in (Some (Refused r)) = Some r
refusal_in other = None

abbrev pub OptionalFails : List ℕ → Scope → List (Option ℕ) → Option Refusal → TypeSpec → Fault → Type 0
OptionalFails text s words None t f = ⊥
OptionalFails text s words (Some r) t f = RefusalFails text s words r t f

abbrev pub types_of : List ℕ → Scope → TypeSpec → Fields
types_of text s t = struct_types text s t.fields

-- structs are those of some declarations
abbrev pub AreOf : List ℕ → Scope → List (Bor TypeSpecData) → List Fields → Type 0
AreOf text s specs ss = ss ≡ map (types_of text s) (spec_views specs)
