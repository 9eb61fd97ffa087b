-- Which rules fail in the declarations of structs, and where each is reported: at its name a struct that is declared under a name that stands for
-- something else, or that holds itself, or is too large; at a field's name one that stands twice, or is blank; and the rules of each field's type.
use Rattle.std.specs.Prelude.{◌≡◌, ◌⊎◌, ℕ, zero, suc, ◌==◌, Bool, true, false, List, [], ◌∷◌, ◌++◌, codes, Option, Some, None, is_some, if◌then◌else◌}
use Rattle.std.specs.Str.{bytes_eq}
use Rattle.base.specs.declared.pos.Pos.{Pos}
use Rattle.base.specs.declared.value_type.ValueType.TheVariants as value_type
use Rattle.syntax.specs.declared.expression.Name.{Name}
use Rattle.syntax.specs.FirstBytes.{first_pos}
use Rattle.syntax.specs.Expressions.{Ex as TreeEx, paren, array_type, spelled}
use Rattle.syntax.specs.Declarations.{Field, TypeSpec, Declaration, constants, variables, types, function}
use Rattle.type_faults.specs.declared.fault.Fault.{Fault}
use Rattle.type_faults.specs.declared.fault.FaultKind.{FaultKind}
use Rattle.type_faults.specs.declared.fault.FaultKind.TheVariants as kind
use Rattle.type_faults.specs.Faults.{fault, IsFault}
use Rattle.struct_sizes.specs.declared.verdicts.SizeFault.{SizeFault}
use Rattle.struct_sizes.specs.declared.verdicts.SizeFault.TheVariants.{ZeroSize, TooLarge}
use Rattle.struct_sizes.specs.declared.verdicts.StructFault.{StructFault}
use Rattle.struct_sizes.specs.declared.verdicts.StructFault.TheVariants.{HoldsItself, Size}
use Rattle.struct_sizes.specs.declared.verdicts.LevelFault.{LevelFault}
use Rattle.struct_sizes.specs.Structs.{Prefixed, Fields}
use Rattle.struct_sizes.specs.Words.{IsTable}
use Rattle.struct_sizes.specs.Faults.{IsInnermost}
use Rattle.struct_sizes.specs.Verdicts.{IsTold, IsSource}
use Rattle.typed.specs.Tables.{Table}
use Rattle.names.specs.Types.{is_known}
use Rattle.names.specs.Blocks.{Blocks, innermost, insert}
use Rattle.names.specs.Universe.{is_blank}
use Rattle.names.specs.declared.scope.Declared.{Declared}
use Rattle.names.specs.declared.scope.Declared.TheVariants as declared
use Rattle.names.specs.Scope.{Scope, declaration}
use Rattle.expression_types.specs.Faults.{StatedFails}
use Rattle.declared_structs.specs.Forms.{prefixed, structs_in}

-- ---- names

-- the name of the struct of a number: `init` is none, and the first declaration of a name stays
abbrev pub is_this_struct : ℕ → Option Declared → Bool
is_this_struct k (Some (declared.«Type» (value_type.Struct j))) = j.0 == k
is_this_struct k other = false

abbrev pub struct_name_fault : ℕ → (is_blank is_init : Bool) → Option Declared → Pos → Option Fault
struct_name_fault k true is_init d pos = None
struct_name_fault k false true d pos = Some (fault kind.OutOfProfile pos)
struct_name_fault k false false d pos = if is_this_struct k d then None else Some (fault kind.Redeclared pos)

-- the name of a field: a blank one is left out, and the first one of a name stays
abbrev pub field_name_fault : (is_blank is_noted : Bool) → Pos → Option Fault
field_name_fault true is_noted pos = Some (fault kind.OutOfProfile pos)
field_name_fault false true pos = Some (fault kind.Redeclared pos)
field_name_fault false false pos = None

-- the names so far as one block, apart from blank ones
abbrev pub noted : Blocks → List ℕ → Blocks
noted names n = if is_blank n then names else insert names n 0

-- ---- sizes

abbrev pub size_kind : SizeFault → FaultKind
size_kind ZeroSize = kind.ZeroSize
size_kind TooLarge = kind.TooLarge

abbrev pub struct_kind : StructFault → FaultKind
struct_kind HoldsItself = kind.SelfReference
struct_kind (Size size) = size_kind size

-- the bracket of the array at a level of a type
abbrev pub bracket_at : TreeEx → ℕ → Pos
bracket_at (paren at e) level = bracket_at e level
bracket_at (array_type at len e) zero = at
bracket_at (array_type at len e) (suc level) = bracket_at e level
bracket_at e level = first_pos e

-- what is told of a struct as a whole
abbrev pub WholeFails : List Fields → List (Option ℕ) → ℕ → Pos → Fault → Type 0
WholeFails ss table k pos f = (x : StructFault) × IsTold ss table k x × (f ≡ fault (struct_kind x) pos)

-- an array of a type has no such size, also where its elements are of a refused struct
abbrev pub LevelFails : List (Option ℕ) → TreeEx → Option Prefixed → Fault → Type 0
LevelFails table e None f = ⊥
LevelFails table e (Some t) f = (x : LevelFault) × IsInnermost table t (Some x) × (f ≡ fault (size_kind x.kind) (bracket_at e x.level))

-- where a type stands after names there are fields
abbrev pub WhereNamed : List Name → (Fault → Type 0) → Fault → Type 0
WhereNamed [] P f = ⊥
WhereNamed (n ∷ ns) P f = P f

-- the names of fields, and the declarations of structs, in the order of the text
abbrev pub field_names : List Field → List Name
field_names [] = []
field_names (f ∷ fs) = f.names ++ field_names fs

abbrev pub type_specs_in : List Declaration → List TypeSpec
type_specs_in [] = []
type_specs_in (constants at specs ∷ ds) = type_specs_in ds
type_specs_in (variables at specs ∷ ds) = type_specs_in ds
type_specs_in (types at specs ∷ ds) = specs ++ type_specs_in ds
type_specs_in (function f ∷ ds) = type_specs_in ds

module _ (text : List ℕ) where
  abbrev pub FieldNamesFail : Blocks → List Name → Fault → Type 0
  FieldNamesFail names [] f = ⊥
  FieldNamesFail names (n ∷ ns) f =
      IsFault (field_name_fault (is_blank (spelled text n)) (is_some (innermost names (spelled text n))) n.pos) f ⊎ FieldNamesFail (noted names (spelled text n)) ns f

  -- in a scope whose table has the types of the program
  abbrev pub FieldTypesFail : Scope → List Field → Fault → Type 0
  FieldTypesFail s [] f = ⊥
  FieldTypesFail s (x ∷ xs) f = StatedFails text s x.type_expr f ⊎ FieldTypesFail s xs f

  -- by the constants and the names of a scope
  abbrev pub FieldSizeFails : Scope → List (Option ℕ) → Field → Fault → Type 0
  FieldSizeFails s table x f = WhereNamed x.names (LevelFails table x.type_expr (prefixed text s x.type_expr)) f

  abbrev pub LevelsFail : Scope → List (Option ℕ) → List Field → Fault → Type 0
  LevelsFail s table [] f = ⊥
  LevelsFail s table (x ∷ xs) f = FieldSizeFails s table x f ⊎ LevelsFail s table xs f

  -- the fault of the name of the struct of a number
  abbrev pub name_fault_in : Scope → ℕ → Name → Option Fault
  name_fault_in s k n = struct_name_fault k (is_blank (spelled text n)) (bytes_eq (spelled text n) (codes "init")) (declaration s (spelled text n)) n.pos

  -- a rule of a struct by itself
  abbrev pub StructFails : Scope → ℕ → TypeSpec → Fault → Type 0
  StructFails s k t f =
      IsFault (name_fault_in s k t.name) f ⊎ (FieldNamesFail ([] ∷ []) (field_names t.fields) f ⊎ FieldTypesFail s t.fields f)

  -- of structs, from a number on
  abbrev pub StructsFail : Scope → ℕ → List TypeSpec → Fault → Type 0
  StructsFail s k [] f = ⊥
  StructsFail s k (t ∷ ts) f = StructFails s k t f ⊎ StructsFail s (suc k) ts f

  -- a rule of its size among the others; where nothing has to be mended before it, each array of a field is looked at, whatever its elements
  abbrev pub SizeFails : Scope → List Fields → List (Option ℕ) → ℕ → TypeSpec → Fault → Type 0
  SizeFails s ss table k t f = WholeFails ss table k t.name.pos f ⊎ (IsSource ss table k × LevelsFail s table t.fields f)

  abbrev pub SizesFail : Scope → List Fields → List (Option ℕ) → ℕ → List TypeSpec → Fault → Type 0
  SizesFail s ss table k [] f = ⊥
  SizesFail s ss table k (t ∷ ts) f = SizeFails s ss table k t f ⊎ SizesFail s ss table (suc k) ts f

  -- a rule fails in the declarations of structs by themselves, in a scope whose table has the types of the program
  abbrev pub DeclarationsFail : Scope → List Declaration → Fault → Type 0
  DeclarationsFail s ds f = StructsFail s 0 (type_specs_in ds) f

  -- and in their sizes, by the constants and the names of a scope
  pub record SizesOfAllFail (s : Scope) (ds : List Declaration) (f : Fault) : Type 0 where
    pub table : List (Option ℕ)
    pub is_table : IsTable (structs_in text s ds) table
    pub fails : SizesFail s (structs_in text s ds) table 0 (type_specs_in ds) f

-- ---- types

-- structs that are no types in a table, from a number on, each at its name
abbrev pub StructsOpen : Table → ℕ → List TypeSpec → Fault → Type 0
StructsOpen T k [] f = ⊥
StructsOpen T k (t ∷ ts) f =
    IsFault (if is_known T (value_type.Struct (record { 0 = k })) then None else Some (fault kind.SelfReference t.name.pos)) f
    ⊎ StructsOpen T (suc k) ts f

-- each is a type
abbrev pub AreTypes : Table → ℕ → List TypeSpec → Type 0
AreTypes T k [] = Unit {0}
AreTypes T k (t ∷ ts) = (is_known T (value_type.Struct (record { 0 = k })) ≡ true) × AreTypes T (suc k) ts
