-- What the checker's pass works out of what it knows of the parts.
use Rattle.std.specs.Prelude.{◌≡◌, ⊤, ℕ, List, [], ◌∷◌, map, Option, Some, None, if◌then◌else◌}
use Rattle.std.specs.Option.{option_map}
use Rattle.base.specs.declared.pos.Pos.{Pos}
use Rattle.typed_syntax.specs.Value.{Value}
use Rattle.typed.specs.View.{value_of, func_of}
use Rattle.typed.specs.declared.program.PackageVariable.{PackageVariable}
use Rattle.typed.specs.declared.program.Func.{Func as FuncData}
use Rattle.types_go.specs.declared.members.Member.{Member as MemberData}
use Rattle.types_go.specs.declared.members.Member.TheVariants as member
use Rattle.syntax.specs.declared.expression.Name.{Name}
use Rattle.syntax.specs.Declarations.{function_of, Syntax, Declaration, constants, variables, types, function}
use Rattle.names.specs.Scope.{Scope, beginning}
use Rattle.package_values.specs.declared.items.Role.TheVariants as role
use Rattle.package_values.specs.Values.{items_in_specs, items_in, settled}
use Rattle.signatures.specs.Signatures.{with_heads}
use Rattle.package_values.specs.Passing.{item_of}
use Rattle.function_heads.specs.PackageBlock.{is_external, with_items}
use Rattle.typed.specs.Formed.{IsFormed}
use Rattle.typed.specs.Tables.{Table}
use Rattle.typed.specs.declared.program.Site.{Site}
use Rattle.type_faults.specs.declared.fault.Fault.{Fault}
use Rattle.type_faults.specs.Least.{IsLeast, lesser}
use Rattle.declared_structs.specs.Faults.{DeclarationsFail as StructDeclarationsFail}
use Rattle.package_values.specs.ValueFaults.{ItemsFail}
use Rattle.function_heads.specs.HeadFaults.{DeclarationsFail}
use Rattle.types_go.specs.Functions.{Member, of_function, of_variable, numbered, functions, IsHeads, members, package_scope, main_number}
use Rattle.types_go.specs.FunctionFaults.{FailsWithHeads}
use Rattle.types_go.specs.Checked.{sites_in, site_names_in, function_places, strings_in, types_in, globals_in}

-- a tree of its parts
abbrev pub syntax_with : List ℕ → Name → List Declaration → Syntax
syntax_with text own_name ds = record { text = text; file = record { package_name = own_name; declarations = ds } }

-- what a package declares but for its functions, and its block with the types of a table, where all is known that can be
abbrev pub constants_of : List ℕ → List Declaration → Scope
constants_of text ds = settled text (with_heads text beginning ds) (items_in ds)

abbrev pub block_of : List ℕ → Scope → Table → List Declaration → Scope
block_of text h T ds = settled text (with_items text h (record beginning { types = T }) ds) (items_in ds)

-- a package variable: its site, and the constant that it begins with
abbrev pub global_view : PackageVariable → ℕ × Option Value
global_view g = (g.site.0, option_map value_of g.value)

abbrev pub AreAt : List Pos → Option (List FuncData) → Type 0
AreAt places None = ⊤
AreAt places (Some fs) = map (λ f. f.pos) fs ≡ places

-- ---- what a package has one after the other

abbrev pub member_of : MemberData → Member
member_of (member.Function f) = of_function (function_of f.now)
member_of (member.Variable k i) = of_variable k.0 (item_of i)

abbrev pub member_views : List MemberData → List Member
member_views ms = map member_of ms

-- what one declaration has
abbrev pub members_of_decl : List ℕ → Scope → ℕ → Declaration → List Member
members_of_decl text heads k (constants pos specs) = []
members_of_decl text heads k (variables pos specs) = numbered k (items_in_specs role.Variable specs)
members_of_decl text heads k (types pos specs) = []
members_of_decl text heads k (function f) = if is_external text heads f then [] else of_function f ∷ []

-- the fault of a rule, or else another one
abbrev pub rule_or_open : (rules others : Option Fault) → Option Fault
rule_or_open None others = others
rule_or_open (Some f) others = Some f

-- the fault of the declarations of a package, by that of the sizes of its structs
pub record IsOfPackage (text : List ℕ) (h s : Scope) (ds : List Declaration) (sizes found : Option Fault) : Type 0 where
  pub functions : Option Fault
  pub structs : Option Fault
  pub values : Option Fault
  pub in_functions : IsLeast (DeclarationsFail text h s ds) functions
  pub in_structs : IsLeast (StructDeclarationsFail text s ds) structs
  pub in_values : IsLeast (ItemsFail text s ds) values
  pub found_is : found ≡ lesser functions (lesser (lesser sizes structs) values)

-- what the pass over a tree finds
pub record IsPassed (t : Syntax) (main : Option ℕ) (funcs : Option (List FuncData)) (sites : List Site) (names : List ℕ) (table : Table)
    (strings : List (List ℕ)) (globals : List PackageVariable) (fault : Option Fault) : Type 0 where
  pub heads : Scope
  pub is_heads : IsHeads t heads
  pub formed : IsFormed heads.types
  pub main_is : main ≡ main_number t heads
  pub funcs_are : option_map (map (func_of (types_in heads))) funcs ≡ functions t.text heads (package_scope t heads) 0 (members t heads)
  pub places_are : AreAt (function_places t heads) funcs
  pub sites_are : sites ≡ sites_in t heads
  pub names_are : names ≡ site_names_in t heads
  pub table_is : table ≡ heads.types
  pub strings_are : strings ≡ strings_in t heads
  pub globals_are : map global_view globals ≡ globals_in t heads
  pub least : IsLeast (FailsWithHeads t heads) fault
