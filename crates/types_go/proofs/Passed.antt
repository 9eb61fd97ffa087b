-- What the pass over a package finds is what the definitions say of its tree.
use Rattle.std.proofs.Common.{◌≡◌, ℕ, inl, inr, Bool, true, false, cond, List, map, Option, Some, None, refl, sym, ap, ◌∙◌, subst}
use Rattle.std.specs.Prelude.{is_some, not, codes}
use Rattle.std.specs.Option.{option_map}
use Rattle.std.specs.Global.{Vec}
use Rattle.base.specs.declared.ids.FuncId.{FuncId}
use Rattle.syntax.specs.Expressions.{spelled}
use Rattle.syntax.specs.Declarations.{Function as TreeFunction, Syntax}
use Rattle.typed.specs.Formed.{IsFormed}
use Rattle.typed.specs.Trees.{trees}
use Rattle.typed.specs.View.{func_of}
use Rattle.typed.specs.declared.program.Func.{Func as FuncData}
use Rattle.typed.specs.declared.program.PackageVariable.{PackageVariable}
use Rattle.typed_syntax.specs.Types.{TypeTree}
use Rattle.type_faults.specs.declared.fault.Fault.{Fault}
use Rattle.type_faults.specs.declared.fault.FaultKind.TheVariants.{NoMain}
use Rattle.type_faults.specs.Faults.{fault, IsFault}
use Rattle.type_faults.specs.Least.{IsLeast, lesser}
use Rattle.type_faults.proofs.Leasts.{least_join}
use Rattle.names.specs.Universe.{is_main}
use Rattle.names.specs.Scope.{Scope, declaration}
use Rattle.signatures.specs.Failing.{fault_where}
use Rattle.function_heads.specs.Heads.{number_of, plain_number}
use Rattle.function_heads.specs.HeadFaults.{first_byte}
use Rattle.types_go.specs.Functions.{Member, functions_of, functions, behind_members, globals, declarations_in, IsHeads, numbered_functions, members, package_scope, main_number}
use Rattle.types_go.specs.FunctionFaults.{FailsInFunctions, SizesFail, PackageFails, RulesFail, IsOpen, FailsWithHeads}
use Rattle.types_go.specs.Passing.{AreAt, global_view, rule_or_open, IsOfPackage, IsPassed}
use Rattle.types_go.proofs.SettledPackage.{members_functions}

-- the rule of `main`, by whether there is none
none_test : (o : Option FuncId) (absent : Bool) → is_some o ≡ not absent → absent ≡ not (is_some (option_map (λ (f : FuncId). f.0) o))
none_test None true is = refl
none_test None false is = cc is
none_test (Some f) true is = cc is
none_test (Some f) false is = refl

abbrev MainFails : Bool → Fault → Type 0
MainFails absent f = IsFault (fault_where absent (fault NoMain first_byte)) f

-- of a block and its members
pub record Found (t : Syntax) (h r : Scope) (ms : List Member) (main : Option FuncId) (funcs : Option (Vec FuncData)) (behind : Scope)
    (gs : List PackageVariable) (declared in_functions : Option Fault) : Type 0 where
  pub main_is : option_map (λ (f : FuncId). f.0) main
      ≡ cond (is_main (spelled t.text t.file.package_name)) (plain_number (numbered_functions t h) (number_of (declaration r (codes "main")))) None
  pub funcs_are : option_map (λ (v : Vec FuncData). map (func_of (trees h.types)) v.items) funcs ≡ functions t.text h r 0 ms
  pub places : AreAt (map (λ f. f.name.pos) (functions_of ms)) (option_map (λ (v : Vec FuncData). v.items) funcs)
  pub behind_is : behind ≡ behind_members t.text h r ms
  pub globals_are : map global_view gs ≡ globals t.text h r ms
  pub sizes : Option Fault
  pub in_sizes : IsLeast (SizesFail t) sizes
  pub in_package : IsOfPackage t.text h r (declarations_in t) sizes declared
  pub functions_fail : IsLeast (FailsInFunctions t.text h r 0 ms) in_functions

views_are : (types : List TypeTree) (funcs : Option (Vec FuncData))
    → option_map (map (func_of types)) (option_map (λ (v : Vec FuncData). v.items) funcs) ≡ option_map (λ (v : Vec FuncData). map (func_of types) v.items) funcs
views_are types None = refl
views_are types (Some v) = refl

module _ (t : Syntax) (h : Scope) (is_heads : IsHeads t h) (formed : IsFormed h.types) (main : Option FuncId) (funcs : Option (Vec FuncData)) (behind : Scope)
    (gs : List PackageVariable) (declared in_functions : Option Fault) where
  package_least : Found t h (package_scope t h) (members t h) main funcs behind gs declared in_functions → IsLeast (PackageFails t h) declared
  package_least found =
      let p = found.in_package in
      subst (IsLeast (PackageFails t h)) (sym p.found_is)
      (least_join _ _ p.functions (lesser (lesser found.sizes p.structs) p.values) p.in_functions
      (least_join _ _ (lesser found.sizes p.structs) p.values (least_join _ _ found.sizes p.structs found.in_sizes p.in_structs) p.in_values))

  -- a rule, or what is open
  rule_first : (rules others : Option Fault) → IsLeast (RulesFail t h) rules → IsLeast (IsOpen t h) others → IsLeast (FailsWithHeads t h) (rule_or_open rules others)
  rule_first (Some f) others least open_least = (inl least.0, λ g k. elim k [ inl x ↦ least.1 g x | inr x ↦ absurd (x.0 f least.0) ])
  rule_first None (Some f) least open_least = (inr (least, open_least.0), λ g k. elim k [ inl x ↦ absurd (least g x) | inr x ↦ open_least.1 g x.1 ])
  rule_first None None least open_least = λ g k. elim k [ inl x ↦ least g x | inr x ↦ open_least g x.1 ]

  least_of : (absent : Bool) (no_main : Option Fault) → is_some main ≡ not absent → IsLeast (MainFails absent) no_main
      → Found t h (package_scope t h) (members t h) main funcs behind gs declared in_functions
      → IsLeast (RulesFail t h) (lesser no_main (lesser declared in_functions))
  least_of absent no_main absent_is main_least found =
      let there : IsLeast (MainFails (not (is_some (main_number t h)))) no_main =
      subst (λ (o : Option ℕ). IsLeast (MainFails (not (is_some o))) no_main) found.main_is
      (subst (λ (b : Bool). IsLeast (MainFails b) no_main) (none_test main absent absent_is) main_least) in
      least_join _ _ no_main (lesser declared in_functions) there (least_join _ _ declared in_functions (package_least found) found.functions_fail)

  pub passed : (r : Scope) (ms : List Member) → r ≡ package_scope t h → ms ≡ members t h → Found t h r ms main funcs behind gs declared in_functions
      → (absent : Bool) (no_main : Option Fault) → is_some main ≡ not absent → IsLeast (MainFails absent) no_main
      → (others : Option Fault) → IsLeast (IsOpen t h) others
      → IsPassed t (option_map (λ (f : FuncId). f.0) main) (option_map (λ (v : Vec FuncData). v.items) funcs) behind.sites behind.site_names h.types behind.strings gs
      (rule_or_open (lesser no_main (lesser declared in_functions)) others)
  passed r ms r_is ms_is found0 absent no_main absent_is main_least others open_least =
      let found : Found t h (package_scope t h) (members t h) main funcs behind gs declared in_functions =
      subst (λ (v : Scope). Found t h v (members t h) main funcs behind gs declared in_functions) r_is
      (subst (λ (l : List Member). Found t h r l main funcs behind gs declared in_functions) ms_is found0) in
      record {
        heads = h;
        is_heads = is_heads;
        formed = formed;
        main_is = found.main_is;
        funcs_are = views_are (trees h.types) funcs ∙ found.funcs_are;
        places_are = subst (λ (l : List TreeFunction). AreAt (map (λ f. f.name.pos) l) (option_map (λ (v : Vec FuncData). v.items) funcs))
            (members_functions t.text h 0 (declarations_in t)) found.places;
        sites_are = ap (λ (v : Scope). v.sites) found.behind_is;
        names_are = ap (λ (v : Scope). v.site_names) found.behind_is;
        table_is = refl;
        strings_are = ap (λ (v : Scope). v.strings) found.behind_is;
        globals_are = found.globals_are;
        least = rule_first (lesser no_main (lesser declared in_functions)) others (least_of absent no_main absent_is main_least found) open_least;
      }
