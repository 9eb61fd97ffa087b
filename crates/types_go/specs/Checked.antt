-- What the checker of types answers.
use Rattle.std.specs.Prelude.{◌≡◌, ℕ, List, map, slice_get, Option, Some, Result, Ok, Err}
use Rattle.base.specs.declared.pos.Pos.{Pos}
use Rattle.syntax.specs.Declarations.{Syntax}
use Rattle.typed_syntax.specs.Syntax.{Func, Program}
use Rattle.typed.specs.Trees.{trees}
use Rattle.typed.specs.View.{site_types, addresses_taken, made_by_expressions, program_of}
use Rattle.typed_syntax.specs.Types.{TypeTree}
use Rattle.typed.specs.declared.program.Site.{Site}
use Rattle.typed.specs.declared.program.Program.{Program as ProgramData}
use Rattle.typed_syntax.specs.Value.{Value}
use Rattle.type_faults.specs.declared.fault.TypeFault.{TypeFault}
use Rattle.type_faults.specs.declared.fault.TypeFault.TheVariants as type_fault
use Rattle.type_faults.specs.declared.fault.Fault.{Fault}
use Rattle.type_faults.specs.Least.{IsLeast}
use Rattle.names.specs.Scope.{Scope}
use Rattle.declared_structs.specs.Faults.{type_specs_in, AreTypes}
use Rattle.package_values.specs.Values.{Item, items_in}
use Rattle.package_values.specs.Needs.{Reaches}
use Rattle.package_values.specs.Accepted.{DeclarationsAre}
use Rattle.types_go.specs.Functions.{begun_at, behind_members, globals, members, declarations_in, IsHeads, numbered_functions, package_scope, main_number, program_functions}
use Rattle.types_go.specs.FunctionFaults.{StructsFail, FailsIn}

-- with these names of its package, the variables of a tree, in the order of the text
abbrev pub sites_in : Syntax → Scope → List Site
sites_in t h = (behind_members t.text h (package_scope t h) (members t h)).sites

-- the places of the functions' names
abbrev pub function_places : Syntax → Scope → List Pos
function_places t h = map (λ f. f.name.pos) (numbered_functions t h)

-- the bytes of their names
abbrev pub site_names_in : Syntax → Scope → List ℕ
site_names_in t h = (behind_members t.text h (package_scope t h) (members t h)).site_names

-- these are its sites, by the bytes of their names, and its functions stand at these places
abbrev pub AreSites : Syntax → List Site → (names : List ℕ) → Type 0
AreSites t sites names = (h : Scope) × IsHeads t h × (sites ≡ sites_in t h) × (names ≡ site_names_in t h)

abbrev pub AreAtNames : Syntax → List Pos → Type 0
AreAtNames t places = (h : Scope) × IsHeads t h × (places ≡ function_places t h)

-- the strings of its statements
abbrev pub strings_in : Syntax → Scope → List (List ℕ)
strings_in t h = (behind_members t.text h (package_scope t h) (members t h)).strings

-- its types, by their numbers
abbrev pub types_in : Scope → List TypeTree
types_in h = trees h.types

abbrev pub sites_types : Syntax → Scope → List TypeTree
sites_types t h = site_types (types_in h) (sites_in t h)

-- its package variables with a name, in the order of the text, by the constants that they begin with
abbrev pub globals_in : Syntax → Scope → List (ℕ × Option Value)
globals_in t h = globals t.text h (package_scope t h) (members t h)

-- the program of these functions with this one as `main`
abbrev pub program_with : Syntax → Scope → List Func → ℕ → Program
program_with t h funcs main = record {
  funcs = funcs;
  types = types_in h;
  sites = sites_types t h;
  taken = addresses_taken (sites_in t h);
  made = made_by_expressions (sites_in t h);
  strings = strings_in t h;
  globals = map (begun_at (sites_types t h)) (globals_in t h);
  main = main;
}

-- the rules give a tree this typed program
pub record Types (t : Syntax) (p : Program) : Type 0 where
  pub heads : Scope
  pub is_heads : IsHeads t heads
  pub funcs : List Func
  pub main : ℕ
  pub functions : program_functions t heads ≡ Some funcs
  pub main_is : main_number t heads ≡ Some main
  -- each struct is a type, and no rule fails in its declaration
  pub structs : AreTypes heads.types 0 (type_specs_in (declarations_in t))
  pub structs_sound : (f : Fault) → StructsFail t heads f → ⊥
  -- the declarations of constants and variables are those of an accepted package, and none of these needs itself
  pub declarations : DeclarationsAre t.text (package_scope t heads) (declarations_in t)
  pub no_circle : (k : ℕ) (i : Item) → slice_get (items_in (declarations_in t)) k ≡ Some i
      → Reaches t.text (package_scope t heads) (items_in (declarations_in t)) k k → ⊥
  pub is : p ≡ program_with t heads funcs main

-- the fault that is reported: of the rules that fail, the one with the least offset, then with the least number
abbrev pub Reports : Syntax → TypeFault → Type 0
Reports t type_fault.NoMemory = Unit {0}
Reports t (type_fault.Fault f) = IsLeast (FailsIn t) (Some f)

-- no rule of the language fails
abbrev pub NoneFails : Syntax → Type 0
NoneFails t = (f : Fault) → FailsIn t f → ⊥

-- the program and no other, unless memory ran out
abbrev pub OnlyProgram : Result ProgramData TypeFault → Program → Type 0
OnlyProgram (Ok q) p = program_of q ≡ p
OnlyProgram (Err type_fault.NoMemory) p = Unit {0}
OnlyProgram (Err (type_fault.Fault f)) p = ⊥
