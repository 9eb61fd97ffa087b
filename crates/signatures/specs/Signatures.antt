-- Parameters, results and signatures, and the names that a package declares (Go specification, "Function declarations", "Function types",
-- "Blocks").
use Rattle.std.specs.Prelude.{ℕ, length, ◌+◌, ◌==◌, Bool, true, false, not, ◌&&◌, ◌||◌, List, [], ◌∷◌, ◌++◌, codes, map, Option, Some, None, option_and_then, nat_le, if◌then◌else◌}
use Rattle.std.specs.Option.{option_map}
use Rattle.std.specs.Str.{bytes_eq}
use Rattle.syntax.specs.declared.expression.Name.{Name}
use Rattle.syntax.specs.Expressions.{Ex as TreeEx, Exs as TreeExs, some, spelled}
use Rattle.syntax.specs.Expressions as expressions
use Rattle.syntax.specs.Statements.{ValueSpec}
use Rattle.syntax.specs.Declarations.{Field, Parameters, unnamed, named, TypeSpec, Declaration, constants, variables, types}
use Rattle.syntax.specs.Declarations as tree
use Rattle.base.specs.declared.value_type.ValueType.{ValueType}
use Rattle.base.specs.declared.value_type.ValueType.TheVariants.{Struct}
use Rattle.typed_syntax.specs.Syntax.{all_width}
use Rattle.typed.specs.Tables.{Table}
use Rattle.names.specs.declared.scope.Declared.{Declared}
use Rattle.names.specs.declared.scope.Declared.TheVariants.{Untyped, Constant, Global, Function, «Type»}
use Rattle.names.specs.Universe.{is_blank}
use Rattle.names.specs.Scope.{Scope, Signature, type_trees, is_here, with_declaration, with_value, with_global, with_struct}
use Rattle.signatures.specs.Structs.{fields_of_struct}
use Rattle.signatures.specs.declared.slots.Slot.{Slot}

-- ---- parameters and results one by one: names that share a type each have it

pub record Param : Type 0 where
  pub name : Option Name
  pub type_expr : TreeEx

abbrev pub unnamed_params : TreeExs → List Param
unnamed_params expressions.none = []
unnamed_params (some t ts) = record { name = None; type_expr = t } ∷ unnamed_params ts

abbrev pub param_with : TreeEx → Name → Param
param_with t n = record { name = Some n; type_expr = t }

abbrev pub field_params : Field → List Param
field_params f = map (param_with f.type_expr) f.names

abbrev pub named_params : List Field → List Param
named_params [] = []
named_params (f ∷ fs) = field_params f ++ named_params fs

abbrev pub params_of : Parameters → List Param
params_of (unnamed ts) = unnamed_params ts
params_of (named fs) = named_params fs

abbrev pub is_named : Parameters → Bool
is_named (unnamed ts) = false
is_named (named fs) = true

-- the types, where all are known
abbrev pub types_of : List Slot → Option (List ValueType)
types_of [] = Some []
types_of (p ∷ ps) = option_and_then (λ t. option_map (λ ts. t ∷ ts) (types_of ps)) p.value_type

-- the words of the arguments and the results
abbrev pub words : Table → Signature → ℕ
words T sig = all_width (type_trees T sig.params) + all_width (type_trees T sig.results)

-- the most words that the arguments and the results of a function have together
abbrev pub most_words : ℕ
most_words = 65535

abbrev pub is_small : Table → Option Signature → Bool
is_small T None = false
is_small T (Some sig) = nat_le (words T sig) most_words

-- a package has no name `init`
abbrev pub is_init : List ℕ → Bool
is_init name = bytes_eq name (codes "init")

-- whether the package block declares this name: the first declaration of a name stays
abbrev pub declares_name : Scope → List ℕ → Bool
declares_name s n = not (is_blank n || is_init n) && not (is_here s n)

-- whether a function's name may stand for it: the first of its spelling is this one
abbrev pub is_number : ℕ → Option Declared → Bool
is_number i None = true
is_number i (Some (Function f)) = f.0 == i
is_number i other = false

abbrev pub may_be_named : ℕ → (is_blank : Bool) → Option Declared → Bool
may_be_named i is_blank d = is_blank || is_number i d

module _ (text : List ℕ) where
  -- ---- the names that the package declares

  abbrev pub with_name : Declared → Scope → Name → Scope
  with_name d s n = if declares_name s (spelled text n) then with_declaration s (spelled text n) d else s

  -- a struct with the next number: the fields of each struct are noted by their names, also of one whose own name is not declared
  abbrev pub with_type : Scope → TypeSpec → Scope
  with_type s t = with_struct (with_name («Type» (Struct (record { 0 = length s.fields }))) s t.name) (fields_of_struct text t.fields)

  abbrev pub with_types : Scope → List TypeSpec → Scope
  with_types s [] = s
  with_types s (t ∷ ts) = with_types (with_type s t) ts

  -- a constant with the next number, of which nothing is known yet
  abbrev pub with_constant_name : Scope → Name → Scope
  with_constant_name s n = with_value (with_name (Constant (record { 0 = length s.values })) s n) None

  abbrev pub with_constant_names : Scope → List Name → Scope
  with_constant_names s [] = s
  with_constant_names s (n ∷ ns) = with_constant_names (with_constant_name s n) ns

  abbrev pub with_constants : Scope → List ValueSpec → Scope
  with_constants s [] = s
  with_constants s (v ∷ vs) = with_constants (with_constant_names s v.names) vs

  -- a package variable with the next number, of which nothing is known yet: with a name it is numbered among those that have one, too
  abbrev pub with_numbered_name : Scope → Name → Scope
  with_numbered_name s n = with_global (with_name (Global (record { 0 = length s.values }) (record { 0 = length s.globals })) s n)

  abbrev pub with_variable_name : Scope → Name → Scope
  with_variable_name s n = with_value (if is_blank (spelled text n) then s else with_numbered_name s n) None

  abbrev pub with_variable_names : Scope → List Name → Scope
  with_variable_names s [] = s
  with_variable_names s (n ∷ ns) = with_variable_names (with_variable_name s n) ns

  abbrev pub with_package_variables : Scope → List ValueSpec → Scope
  with_package_variables s [] = s
  with_package_variables s (v ∷ vs) = with_package_variables (with_variable_names s v.names) vs

  -- ---- what the package declares apart from its functions, of which it has the names alone

  abbrev pub with_head : Scope → Declaration → Scope
  with_head s (constants pos specs) = with_constants s specs
  with_head s (variables pos specs) = with_package_variables s specs
  with_head s (types pos specs) = with_types s specs
  with_head s (tree.function f) = with_name Untyped s f.name

  abbrev pub with_heads : Scope → List Declaration → Scope
  with_heads s [] = s
  with_heads s (d ∷ ds) = with_heads (with_head s d) ds
