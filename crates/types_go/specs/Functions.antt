-- The functions of a program (Go specification, "Function declarations", "Function types", "Blocks", "Program initialization and
-- execution").
use Rattle.std.specs.Prelude.{◌≡◌, ℕ, ℤ, pos, length, ◌+◌, ◌-◌, ◌==◌, Bool, false, ◌||◌, List, [], ◌∷◌, ◌++◌, codes, get_or, map, Option, Some, None, option_and_then, if◌then◌else◌}
use Rattle.std.specs.Option.{option_map}
use Rattle.syntax.specs.Expressions.{Ex as TreeEx, spelled}
use Rattle.syntax.specs.Declarations.{named, Body, Function as TreeFunction, Declaration, constants, variables, types, Syntax}
use Rattle.syntax.specs.Declarations as tree
use Rattle.typed_syntax.specs.Syntax.{Sts, Func}
use Rattle.typed_syntax.specs.Types.{TypeTree, ints}
use Rattle.typed_syntax.specs.Value.{Value, int, bool, zero_of}
use Rattle.typed.specs.Tables.{Table}
use Rattle.constants.specs.declared.constant.Constant.{Constant}
use Rattle.constants.specs.declared.constant.Constant.TheVariants.{Number, Truth}
use Rattle.constants.specs.declared.constant.Fixed.{Fixed}
use Rattle.base.specs.declared.value_type.ValueType.{ValueType}
use Rattle.base.specs.declared.value_type.ValueType.TheVariants.{Int, Bool as Boolean}
use Rattle.constants.specs.Constants.{is_int}
use Rattle.type_faults.specs.Given.{allowed}
use Rattle.typed.specs.declared.program.SiteKind.{SiteKind}
use Rattle.typed.specs.declared.program.SiteKind.TheVariants as kind
use Rattle.names.specs.Universe.{is_blank, is_main}
use Rattle.names.specs.declared.scope.Known.{Known}
use Rattle.names.specs.Scope.{Scope, declaration, known, declaring, after_function, with_site, with_setting, opened, closed, beginning}
use Rattle.given_values.specs.Given.{known_type, wanted_by}
use Rattle.expression_types.specs.Typing.{gives}
use Rattle.struct_sizes.specs.Structs.{Fields}
use Rattle.declared_structs.specs.Forms.{structs_in}
use Rattle.declared_structs.specs.Tables.{IsTableOf}
use Rattle.entered_types.specs.Entered.{entered_all}
use Rattle.package_values.specs.declared.items.Role.TheVariants as role
use Rattle.package_values.specs.Values.{Item, items_in_specs, items_in, constant_in, settled}
use Rattle.signatures.specs.declared.entries.Role.TheVariants.{Parameter as parameter, Result as result}
use Rattle.signatures.specs.Entries.{sites_of, entries, behind_entries}
use Rattle.signatures.specs.Signatures.{params_of, is_named, is_small, with_heads}
use Rattle.function_heads.specs.HeadTypes.{slots_of, signature_in}
use Rattle.function_heads.specs.PackageBlock.{is_external, with_items}
use Rattle.simple_statements.specs.SimpleStatements.{Returns}
use Rattle.terminating.specs.Terminating.{ends_in_terminating}
use Rattle.function_heads.specs.Heads.{number_of, slot_tree, plain_number, function_head, functions_in, are_supported}
use Rattle.types_go.specs.Statements.{behind_all, statements}

-- ---- what the package has one after the other: functions, and package variables with their numbers

pub data Member : Type 0 where
  of_function : TreeFunction → Member
  of_variable : ℕ → Item → Member

abbrev pub numbered : ℕ → List Item → List Member
numbered k [] = []
numbered k (i ∷ is) = of_variable k i ∷ numbered (1 + k) is

-- the functions among them
abbrev pub functions_of : List Member → List TreeFunction
functions_of [] = []
functions_of (of_function f ∷ ms) = f ∷ functions_of ms
functions_of (of_variable k i ∷ ms) = functions_of ms

-- the type of a package variable of which this is known
abbrev pub type_or_int : Option Known → ValueType
type_or_int None = Int
type_or_int (Some k) = known_type k

-- what a variable begins with where a constant stands there: an int or a truth value
abbrev pub int_in : Constant → ℤ
int_in (Number z) = if is_int z then z else pos 0
int_in (Truth b) = pos 0

abbrev pub truth_in : Constant → Bool
truth_in (Number z) = false
truth_in (Truth b) = b

abbrev pub begins : ValueType → Option Fixed → Option Value
begins Int (Some f) = Some (int (int_in f.value))
begins Boolean (Some f) = Some (bool (truth_in f.value))
begins t c = None

-- and where none does, with the zero value of its type, where these are the types of the sites
abbrev pub or_zero : TypeTree → Option Value → Value
or_zero t None = zero_of t
or_zero t (Some v) = v

abbrev pub begun_at : List TypeTree → ℕ × Option Value → ℕ × Value
begun_at site_trees g = (g.0, or_zero (get_or site_trees g.0 ints) g.1)

-- where variables of a kind are declared
abbrev pub declares : SiteKind → Scope → Scope
declares k s = with_setting s (declaring k s.setting)

abbrev pub params_opened : Scope → Scope
params_opened s = opened (declares kind.Parameter s)

module _ (text : List ℕ) where
  -- with a name a variable has a site
  abbrev pub behind_variable : Scope → ℕ → Item → Scope
  behind_variable s k i = if is_blank (spelled text i.name) then s else with_site s s.setting (spelled text i.name) (type_or_int (known s k)) i.name.pos

  abbrev pub initial : Scope → Option TreeEx → Option Fixed
  initial s None = None
  initial s (Some e) = constant_in (gives text s e)

  -- the site of a variable with a name, and the constant that it begins with
  abbrev pub globals_of : Scope → ℕ → Item → List (ℕ × Option Value)
  globals_of s k i =
      if is_blank (spelled text i.name) then [] else (length s.sites, begins (type_or_int (known s k)) (initial s i.value)) ∷ []

-- in a text, among the names of its package
module _ (text : List ℕ) (heads : Scope) where
  -- with results that have no names, a `return` gives some values
  abbrev pub returns_of : TreeFunction → Returns
  returns_of f = record { wanted = map (λ slot. wanted_by slot.value_type) (slots_of text heads f.results); may_be_bare = (length (params_of f.results) == 0) || is_named f.results }

  abbrev pub may_end : Scope → TreeFunction → Body → Bool
  may_end s f b = (length (params_of f.results) == 0) || ends_in_terminating text s b.statements

  -- ---- declarations at the level of the package

  -- and with the variables between them, from the number of a constant or variable on
  abbrev pub members_in : ℕ → List Declaration → List Member
  members_in k [] = []
  members_in k (constants at specs ∷ ds) = members_in (k + length (items_in_specs role.Constant specs)) ds
  members_in k (variables at specs ∷ ds) = numbered k (items_in_specs role.Variable specs) ++ members_in (k + length (items_in_specs role.Variable specs)) ds
  members_in k (types at specs ∷ ds) = members_in k ds
  members_in k (tree.function f ∷ ds) = if is_external text heads f then members_in k ds else of_function f ∷ members_in k ds

  -- ---- a function, by its number, in the package block

  -- the scope after the parameters, where the results are declared, and where the body begins
  abbrev pub behind_params : Scope → TreeFunction → Scope
  behind_params s f = declares kind.Result (behind_entries text (params_opened s) (slots_of text heads f.params))

  abbrev pub body_scope : Scope → TreeFunction → Scope
  body_scope s f = declares kind.Variable (behind_entries text (behind_params s f) (slots_of text heads f.results))

  abbrev pub behind_body : Scope → TreeFunction → Option Body → Scope
  behind_body s f None = s
  behind_body s f (Some b) = with_setting (closed (behind_all text (body_scope s f) b.statements)) (after_function s.setting)

  abbrev pub behind_function : Scope → TreeFunction → Scope
  behind_function s f = behind_body s f f.body

  abbrev pub func : Scope → TreeFunction → Body → List (Option ℕ) → List (Option ℕ) → Sts → Func
  func s f b params results body = record {
    first = length s.sites;
    count = length (behind_body s f (Some b)).sites - length s.sites;
    params = params;
    param_types = map (slot_tree heads.types) (slots_of text heads f.params);
    results = map (slot_tree heads.types) (slots_of text heads f.results);
    named = sites_of results;
    body = body;
  }

  -- the parameters' and results' entries, and the body
  abbrev pub param_entries : Scope → TreeFunction → Option (List (Option ℕ))
  param_entries s f = entries text parameter (params_opened s) (slots_of text heads f.params)

  abbrev pub result_entries : Scope → TreeFunction → Option (List (Option ℕ))
  result_entries s f = entries text result (behind_params s f) (slots_of text heads f.results)

  abbrev pub body_of : Scope → TreeFunction → Body → Option Sts
  body_of s f b = statements text (returns_of f) false (body_scope s f) b.statements

  abbrev pub parts : Scope → TreeFunction → Body → Option Func
  parts s f b = option_and_then (λ ps. option_and_then (λ rs. option_map (func s f b ps rs) (body_of s f b)) (result_entries s f)) (param_entries s f)

  -- its head, its types and their words, its parts, and the end of its body; without a body it has no typed form
  abbrev pub function_with : Scope → ℕ → TreeFunction → Option Body → Option Func
  function_with s i f None = None
  function_with s i f (Some b) = allowed (function_head text s i f) (allowed (is_small heads.types (signature_in text heads f)) (allowed (may_end s f b) (parts s f b)))

  abbrev pub function : Scope → ℕ → TreeFunction → Option Func
  function s i f = function_with s i f f.body

  -- ---- the functions, and the package variables between them

  abbrev pub functions : Scope → ℕ → List Member → Option (List Func)
  functions s i [] = Some []
  functions s i (of_function f ∷ ms) = option_and_then (λ g. option_map (λ gs. g ∷ gs) (functions (behind_function s f) (1 + i) ms)) (function s i f)
  functions s i (of_variable k v ∷ ms) = functions (behind_variable text s k v) i ms

  abbrev pub behind_members : Scope → List Member → Scope
  behind_members s [] = s
  behind_members s (of_function f ∷ ms) = behind_members (behind_function s f) ms
  behind_members s (of_variable k v ∷ ms) = behind_members (behind_variable text s k v) ms

  -- the package variables with a name: their sites, and the constants that they begin with
  abbrev pub globals : Scope → List Member → List (ℕ × Option Value)
  globals s [] = []
  globals s (of_function f ∷ ms) = globals (behind_function s f) ms
  globals s (of_variable k v ∷ ms) = globals_of text s k v ++ globals (behind_variable text s k v) ms

-- ---- a tree

abbrev pub declarations_in : Syntax → List Declaration
declarations_in t = t.file.declarations

-- what its package declares but for its functions, where all is known of its constants that can be: these need no types of the program's own
abbrev pub constants_scope : Syntax → Scope
constants_scope t = settled t.text (with_heads t.text beginning (declarations_in t)) (items_in (declarations_in t))

-- its structs, by those constants
abbrev pub structs_of : Syntax → List Fields
structs_of t = structs_in t.text (constants_scope t) (declarations_in t)

-- the names of its package with a table of types, which all array types of the text have entered
abbrev pub heads_with : Syntax → Table → Scope
heads_with t T = entered_all t.text (record (constants_scope t) { types = T }) (declarations_in t)

-- the names of its package, with the types of the program: there is one such scope at most, since the verdicts on structs are one answer
pub record IsHeads (t : Syntax) (h : Scope) : Type 0 where
  pub table : Table
  pub is_table : IsTableOf (structs_of t) table
  pub is : h ≡ heads_with t table

-- a block in which nothing is declared, with the types of such a scope
abbrev pub block_with : Scope → Scope
block_with h = record beginning { types = h.types }

-- ---- with these names of its package

-- its functions that have numbers, and its package block
abbrev pub numbered_functions : Syntax → Scope → List TreeFunction
numbered_functions t h = functions_in t.text h (declarations_in t)

abbrev pub members : Syntax → Scope → List Member
members t h = members_in t.text h 0 (declarations_in t)

abbrev pub declared_scope : Syntax → Scope → Scope
declared_scope t h = with_items t.text h (block_with h) (declarations_in t)

-- where all is known of the constants and variables that can be
abbrev pub package_scope : Syntax → Scope → Scope
package_scope t h = settled t.text (declared_scope t h) (items_in (declarations_in t))

-- in the package `main`
abbrev pub main_number : Syntax → Scope → Option ℕ
main_number t h =
    if is_main (spelled t.text t.file.package_name)
    then plain_number (numbered_functions t h) (number_of (declaration (package_scope t h) (codes "main"))) else None

-- the functions, where all declarations are of forms that are not left out
abbrev pub program_functions : Syntax → Scope → Option (List Func)
program_functions t h =
    allowed (are_supported t.text h (package_scope t h) (declarations_in t)) (functions t.text h (package_scope t h) 0 (members t h))
