-- What the checker answers of a tree that has a typed program, or in which a rule fails.
use Rattle.std.proofs.Common.{◌≡◌, ℕ, Bool, true, false, cond, List, [], ◌∷◌, inl, inr, Option, Some, None, refl, sym, ap, ◌∙◌, subst, length, map, get_or}
use Rattle.std.specs.Prelude.{is_some, not}
use Rattle.std.specs.List.{AllByRecursion}
use Rattle.std.specs.Option.{option_map}
use Rattle.base.specs.declared.ids.FuncId.{FuncId}
use Rattle.type_faults.specs.declared.fault.Fault.{Fault}
use Rattle.syntax.specs.declared.expression.Name.{Name}
use Rattle.syntax.specs.declared.declaration.Decl.{Decl}
use Rattle.syntax.specs.declared.declaration.Tree.{Tree}
use Rattle.syntax.specs.Expressions.{spelled}
use Rattle.syntax.specs.Statements.{ValueSpec}
use Rattle.syntax.specs.Declarations.{TypeSpec, Function as TreeFunction, Declaration, constants, variables, types, Syntax, declarations_of, syntax_of}
use Rattle.syntax.specs.Declarations as tree
use Rattle.typed_syntax.specs.Syntax.{Func, Program}
use Rattle.typed.specs.Formed.{IsFormed}
use Rattle.typed.specs.Tables.{Table}
use Rattle.typed.specs.Trees.{trees}
use Rattle.typed.specs.View.{func_of, first_value, value_of, global_of, site_types, addresses_taken, made_by_expressions, program_in, program_of}
use Rattle.typed.specs.declared.program.Func.{Func as FuncData}
use Rattle.typed.specs.declared.expr.Const.{Const}
use Rattle.typed.specs.declared.program.PackageVariable.{PackageVariable}
use Rattle.typed.specs.declared.program.Program.{Program as ProgramData}
use Rattle.typed.specs.declared.program.Site.{Site}
use Rattle.typed_syntax.specs.Types.{TypeTree, ints}
use Rattle.typed_syntax.specs.Value.{Value}
use Rattle.std.specs.Global.{Vec}
use Rattle.type_faults.specs.declared.fault.FaultKind.TheVariants.{NoMain}
use Rattle.type_faults.specs.Faults.{fault, IsFault}
use Rattle.type_faults.specs.Least.{IsLeast}
use Rattle.type_faults.proofs.Decided.{Decided}
use Rattle.type_faults.proofs.Options.{none_some, same_some}
use Rattle.names.specs.Blocks.{Blocks, insert}
use Rattle.names.specs.declared.scope.Declared.{Declared}
use Rattle.base.specs.declared.value_type.ValueType.TheVariants.{Struct}
use Rattle.names.specs.declared.scope.Declared.TheVariants.{Constant, Global, Function, External, «Type»}
use Rattle.names.specs.Universe.{is_blank}
use Rattle.names.specs.Scope.{Scope, Signature, with_declaration, with_signature, with_value}
use Rattle.names.proofs.Settled.{HasSignature, IsSettled}
use Rattle.declared_structs.specs.Faults.{type_specs_in, AreTypes}
use Rattle.declared_structs.proofs.Open.{all_types, none_open as no_struct_open}
use Rattle.package_values.specs.Values.{Item, settled}
use Rattle.package_values.specs.Accepted.{DeclarationsAre}
use Rattle.signatures.specs.Signatures.{declares_name, with_name, with_type, with_types, with_constant_name, with_constant_names, with_constants, with_numbered_name, with_variable_name, with_variable_names, with_package_variables}
use Rattle.signatures.specs.Failing.{fault_where}
use Rattle.function_heads.specs.HeadTypes.{signature_in}
use Rattle.function_heads.specs.PackageBlock.{external_named, is_external, with_item, with_items}
use Rattle.function_heads.specs.Heads.{functions_in, are_supported}
use Rattle.function_heads.specs.HeadFaults.{first_byte}
use Rattle.function_heads.proofs.Open.{all_signed, none_open as no_head_open}
use Rattle.types_go.specs.Functions.{or_zero, begun_at, functions, declarations_in, IsHeads, members, package_scope, main_number, program_functions}
use Rattle.types_go.specs.FunctionFaults.{FailsInFunctions, RulesFail, IsOpen, FailsWithHeads, FailsIn}
use Rattle.types_go.specs.Checked.{sites_in, Types, types_in, sites_types, globals_in, program_with}
use Rattle.types_go.specs.Passing.{syntax_with, global_view, IsPassed}
use Rattle.types_go.proofs.Package.{settled_kept}
use Rattle.types_go.proofs.OneHeads.{one_heads}
use Rattle.types_go.proofs.SettledFunctions.{AllSigned, functions_decided}
use Rattle.types_go.proofs.SettledPackage.{members_functions}
use Rattle.types_go.proofs.Declared.{tree_settled, all_declared, circle_free, items_sound, supported_or, declarations_sound, functions_there}

insert_length : (bs : Blocks) (name : List ℕ) (k : ℕ) → length (insert bs name k) ≡ length bs
insert_length [] name k = refl
insert_length (b ∷ bs) name k = refl

-- as many blocks are open as before
name_depth : (text : List ℕ) (d : Declared) (s : Scope) (n : Name) → length (with_name text d s n).blocks ≡ length s.blocks
name_depth text d s n = by (declares_name s (spelled text n))
  where
    by : (b : Bool) → length (cond b (with_declaration s (spelled text n) d) s).blocks ≡ length s.blocks
    by true = insert_length s.blocks (spelled text n) (length s.declared)
    by false = refl

types_depth : (text : List ℕ) (s : Scope) (ts : List TypeSpec) → length (with_types text s ts).blocks ≡ length s.blocks
types_depth text s [] = refl
types_depth text s (t ∷ ts) = types_depth text (with_type text s t) ts ∙ name_depth text («Type» (Struct (record { 0 = length s.fields }))) s t.name

constant_names_depth : (text : List ℕ) (s : Scope) (ns : List Name) → length (with_constant_names text s ns).blocks ≡ length s.blocks
constant_names_depth text s [] = refl
constant_names_depth text s (n ∷ ns) = constant_names_depth text (with_constant_name text s n) ns ∙ name_depth text (Constant (record { 0 = length s.values })) s n

constants_depth : (text : List ℕ) (s : Scope) (vs : List ValueSpec) → length (with_constants text s vs).blocks ≡ length s.blocks
constants_depth text s [] = refl
constants_depth text s (v ∷ vs) = constants_depth text (with_constant_names text s v.names) vs ∙ constant_names_depth text s v.names

variable_name_depth : (text : List ℕ) (s : Scope) (n : Name) → length (with_variable_name text s n).blocks ≡ length s.blocks
variable_name_depth text s n = by (is_blank (spelled text n))
  where
    by : (b : Bool) → length (with_value (cond b s (with_numbered_name text s n)) None).blocks ≡ length s.blocks
    by true = refl
    by false = name_depth text (Global (record { 0 = length s.values }) (record { 0 = length s.globals })) s n

variable_names_depth : (text : List ℕ) (s : Scope) (ns : List Name) → length (with_variable_names text s ns).blocks ≡ length s.blocks
variable_names_depth text s [] = refl
variable_names_depth text s (n ∷ ns) = variable_names_depth text (with_variable_name text s n) ns ∙ variable_name_depth text s n

variables_depth : (text : List ℕ) (s : Scope) (vs : List ValueSpec) → length (with_package_variables text s vs).blocks ≡ length s.blocks
variables_depth text s [] = refl
variables_depth text s (v ∷ vs) = variables_depth text (with_variable_names text s v.names) vs ∙ variable_names_depth text s v.names

module _ (text : List ℕ) (heads : Scope) where
  item_depth : (s : Scope) (d : Declaration) → length (with_item text heads s d).blocks ≡ length s.blocks
  item_depth s (constants at specs) = constants_depth text s specs
  item_depth s (variables at specs) = variables_depth text s specs
  item_depth s (types at specs) = types_depth text s specs
  item_depth s (tree.function g) = by (is_external text heads g)
    where
      by : (b : Bool) → length (cond b (with_name text (External (external_named (spelled text g.name)) g.name.pos) s g.name) (with_signature (with_name text (Function (record { 0 = length s.signatures })) s g.name) (signature_in text heads g))).blocks ≡ length s.blocks
      by true = name_depth text (External (external_named (spelled text g.name)) g.name.pos) s g.name
      by false = name_depth text (Function (record { 0 = length s.signatures })) s g.name

  pub items_depth : (s : Scope) (ds : List Declaration) → length (with_items text heads s ds).blocks ≡ length s.blocks
  items_depth s [] = refl
  items_depth s (d ∷ ds) = items_depth (with_item text heads s d) ds ∙ item_depth s d

-- working out the constants and variables leaves the blocks
pub settled_depth : (text : List ℕ) (s : Scope) (is : List Item) → length (settled text s is).blocks ≡ length s.blocks
settled_depth text s is = settled_kept text (λ (r : Scope). length r.blocks ≡ length s.blocks) (λ r k i h. h) s is refl

-- a tree has one typed program
pub one_program : (t : Syntax) (p q : Program) → Types t p → Types t q → p ≡ q
one_program t p q a b =
    let e : a.heads ≡ b.heads = one_heads t a.heads b.heads a.is_heads b.is_heads in
    let funcs : program_functions t b.heads ≡ Some a.funcs = subst (λ (r : Scope). program_functions t r ≡ Some a.funcs) e a.functions in
    let main : main_number t b.heads ≡ Some a.main = subst (λ (r : Scope). main_number t r ≡ Some a.main) e a.main_is in
    a.is ∙ ap (λ (r : Scope). program_with t r a.funcs a.main) e ∙ ap (λ fs. program_with t b.heads fs a.main) (same_some (sym funcs ∙ b.functions))
    ∙ ap (program_with t b.heads b.funcs) (same_some (sym main ∙ b.main_is)) ∙ sym b.is

decided_some : {A : Type 0} (o : Option A) (x : A) (P : Fault → Type 0) → o ≡ Some x → Decided o P → (f : Fault) → P f → ⊥
decided_some None x P is d f h = absurd (none_some is)
decided_some (Some y) x P is d f h = d f h

decided_given : {A : Type 0} (o : Option A) (P : Fault → Type 0) → ((f : Fault) → P f → ⊥) → Decided o P → (x : A) × (o ≡ Some x)
decided_given None P never d = absurd (never d.0 d.1)
decided_given (Some x) P never d = (x, refl)

main_sound : (o : Option ℕ) (m : ℕ) (f : Fault) → o ≡ Some m → IsFault (fault_where (not (is_some o)) (fault NoMain first_byte)) f → ⊥
main_sound None m f is h = absurd (none_some is)
main_sound (Some k) m f is h = h

as_signed : (text : List ℕ) (h : Scope) (gs : List TreeFunction) → AllByRecursion (λ g. is_some (signature_in text h g) ≡ true) gs → AllSigned text h gs
as_signed text h [] all = tt
as_signed text h (g ∷ gs) all = (by (signature_in text h g) all.0, as_signed text h gs all.1)
  where
    by : (o : Option Signature) → is_some o ≡ true → HasSignature o
    by None is = cc is
    by (Some sig) is = tt

of_signed : (text : List ℕ) (h : Scope) (gs : List TreeFunction) → AllSigned text h gs → AllByRecursion (λ g. is_some (signature_in text h g) ≡ true) gs
of_signed text h [] all = tt
of_signed text h (g ∷ gs) all = (by (signature_in text h g) all.0, of_signed text h gs all.1)
  where
    by : (o : Option Signature) → HasSignature o → is_some o ≡ true
    by None has = absurd has
    by (Some sig) has = refl

-- ---- a tree with a typed program has no failing rule

module _ (t : Syntax) (p : Program) (a : Types t p) (formed : IsFormed a.heads.types) where
  abbrev h : Scope
  h = a.heads

  signed : AllSigned t.text h (functions_in t.text h (declarations_in t))
  signed = (functions_there t h a.is_heads formed a.funcs a.functions).2

  block_settled : IsSettled (package_scope t h)
  block_settled = tree_settled t h a.is_heads formed a.structs signed a.declarations

  rules_never : (f : Fault) → RulesFail t h f → ⊥
  rules_never f (inl k) = main_sound (main_number t h) a.main f a.main_is k
  rules_never f (inr (inl (inl k))) = declarations_sound t h a.is_heads formed block_settled signed (functions_there t h a.is_heads formed a.funcs a.functions).0 f k
  rules_never f (inr (inl (inr (inl k)))) = a.structs_sound f k
  rules_never f (inr (inl (inr (inr k)))) = items_sound t h a.is_heads formed block_settled a.declarations a.no_circle f k
  rules_never f (inr (inr k)) =
      let s = package_scope t h in
      let all = subst (AllSigned t.text h) (sym (members_functions t.text h 0 (declarations_in t))) signed in
      decided_some (functions t.text h s 0 (members t h)) a.funcs (FailsInFunctions t.text h s 0 (members t h))
      (functions_there t h a.is_heads formed a.funcs a.functions).1 (functions_decided t.text h s 0 (members t h) all block_settled) f k

  open_never : (f : Fault) → IsOpen t h f → ⊥
  open_never f (inl k) = no_head_open t.text h (functions_in t.text h (declarations_in t)) (of_signed t.text h (functions_in t.text h (declarations_in t)) signed) f k
  open_never f (inr k) = no_struct_open h.types 0 (type_specs_in (declarations_in t)) a.structs f k

  with_heads_never : (f : Fault) → FailsWithHeads t h f → ⊥
  with_heads_never f (inl k) = rules_never f k
  with_heads_never f (inr k) = open_never f k.1

-- where these are the names of its package
pub formed_of : (t : Syntax) (r : Scope) → IsHeads t r → IsFormed r.types → (p : Program) (a : Types t p) → IsFormed a.heads.types
formed_of t r is formed p a = subst (λ (v : Scope). IsFormed v.types) (one_heads t r a.heads is a.is_heads) formed

pub typed_or_fails : (t : Syntax) (r : Scope) → IsHeads t r → IsFormed r.types → (p : Program) (f : Fault) → Types t p → FailsIn t f → ⊥
typed_or_fails t r is formed p f a k =
    with_heads_never t p a (formed_of t r is formed p a) f (subst (λ (v : Scope). FailsWithHeads t v f) (one_heads t k.heads a.heads k.is_heads a.is_heads) k.fails)

-- ---- where no rule fails, and nothing is open, there is a typed program

module _ (t : Syntax) (r : Scope) (is : IsHeads t r) (formed : IsFormed r.types) (never : (f : Fault) → FailsWithHeads t r f → ⊥) where
  no_rule : (f : Fault) → RulesFail t r f → ⊥
  no_rule f k = never f (inl k)

  none_open : (f : Fault) → IsOpen t r f → ⊥
  none_open f k = never f (inr (no_rule, k))

  told : AreTypes r.types 0 (type_specs_in (declarations_in t))
  told = all_types r.types 0 (type_specs_in (declarations_in t)) (λ f k. none_open f (inr k))

  all_heads : AllSigned t.text r (functions_in t.text r (declarations_in t))
  all_heads =
      as_signed t.text r (functions_in t.text r (declarations_in t)) (all_signed t.text r (functions_in t.text r (declarations_in t)) (λ f k. none_open f (inl k)))

  declared : DeclarationsAre t.text (package_scope t r) (declarations_in t)
  declared = all_declared t r is formed told all_heads (λ f k. no_rule f (inr (inl (inr (inr k)))))

  supported : are_supported t.text r (package_scope t r) (declarations_in t) ≡ true
  supported = elim (supported_or t.text r (package_scope t r) (declarations_in t)) [ inl k ↦ k | inr k ↦ absurd (no_rule k.0 (inr (inl (inl k.1)))) ]

  functions_given : (fs : List Func) × (functions t.text r (package_scope t r) 0 (members t r) ≡ Some fs)
  functions_given =
      let s = package_scope t r in
      let all = subst (AllSigned t.text r) (sym (members_functions t.text r 0 (declarations_in t))) all_heads in
      decided_given (functions t.text r s 0 (members t r)) (FailsInFunctions t.text r s 0 (members t r)) (λ f k. no_rule f (inr (inr k)))
      (functions_decided t.text r s 0 (members t r) all (tree_settled t r is formed told all_heads declared))

  main_given : (m : ℕ) × (main_number t r ≡ Some m)
  main_given = by (main_number t r) refl
    where
      by : (o : Option ℕ) → main_number t r ≡ o → (m : ℕ) × (main_number t r ≡ Some m)
      by (Some m) m_is = (m, m_is)
      by None m_is =
          absurd (no_rule (fault NoMain first_byte) (inl (subst (λ o. IsFault (fault_where (not (is_some o)) (fault NoMain first_byte)) (fault NoMain first_byte)) (sym m_is) refl)))

  all_functions : (fs : List Func) → functions t.text r (package_scope t r) 0 (members t r) ≡ Some fs → program_functions t r ≡ Some fs
  all_functions fs found = by (are_supported t.text r (package_scope t r) (declarations_in t)) supported
    where
      by : (b : Bool) → b ≡ true → cond b (functions t.text r (package_scope t r) 0 (members t r)) None ≡ Some fs
      by true b_is = found
      by false b_is = cc b_is

-- ---- what the pass has found

-- it has gone over this tree
tree_is : (x : Tree) (text : List ℕ) (ds : List Decl) → text ≡ x.text.items → ds ≡ x.decls.items → syntax_with text x.package (declarations_of ds) ≡ syntax_of x
tree_is x text ds text_is ds_is =
    ap (λ l. syntax_with l x.package (declarations_of ds)) text_is ∙ ap (λ (l : List Decl). syntax_with x.text.items x.package (declarations_of l)) ds_is

pub passed_tree : (x : Tree) (text : List ℕ) (ds : List Decl) → text ≡ x.text.items → ds ≡ x.decls.items → (main : Option ℕ) (fs : Option (List FuncData))
    (sites : List Site) (ns : List ℕ) (T : Table) (strings : List (List ℕ)) (gs : List PackageVariable) (whole : Option Fault)
    → IsPassed (syntax_with text x.package (declarations_of ds)) main fs sites ns T strings gs whole → IsPassed (syntax_of x) main fs sites ns T strings gs whole
passed_tree x text ds text_is ds_is main fs sites ns T strings gs whole found =
    subst (λ (t : Syntax). IsPassed t main fs sites ns T strings gs whole) (tree_is x text ds text_is ds_is) found

value_begun : (t : TypeTree) (o : Option Const) → first_value t o ≡ or_zero t (option_map value_of o)
value_begun t None = refl
value_begun t (Some c) = refl

globals_begun : (site_trees : List TypeTree) (gs : List PackageVariable) → map (global_of site_trees) gs ≡ map (begun_at site_trees) (map global_view gs)
globals_begun site_trees [] = refl
globals_begun site_trees (g ∷ gs) =
    ap (λ (v : Value). (g.site.0, v) ∷ map (global_of site_trees) gs) (value_begun (get_or site_trees g.site.0 ints) g.value)
    ∙ ap (λ l. begun_at site_trees (global_view g) ∷ l) (globals_begun site_trees gs)

module _ (t : Syntax) (p : ProgramData)
    (found : IsPassed t (Some p.main.0) (Some p.funcs.items) p.sites.items p.names.items p.types (map (λ (bytes : Vec ℕ). bytes.items) p.strings.items) p.globals.items None) where
  abbrev names : Scope
  names = found.heads

  abbrev funcs : List Func
  funcs = map (func_of (types_in names)) p.funcs.items

  program_is : program_of p ≡ program_with t names funcs p.main.0
  program_is =
      ap (λ (T : Table). program_in (trees T) p) found.table_is
      ∙ ap (λ (l : List (ℕ × Value)). record {
        funcs = funcs;
        types = types_in names;
        sites = site_types (types_in names) p.sites.items;
        taken = addresses_taken p.sites.items;
        made = made_by_expressions p.sites.items;
        strings = map (λ (bytes : Vec ℕ). bytes.items) p.strings.items;
        globals = l;
        main = p.main.0;
      }) (globals_begun (site_types (types_in names) p.sites.items) p.globals.items ∙ ap (map (begun_at (site_types (types_in names) p.sites.items))) found.globals_are)
      ∙ ap (λ (l : List Site). record {
        funcs = funcs;
        types = types_in names;
        sites = site_types (types_in names) l;
        taken = addresses_taken l;
        made = made_by_expressions l;
        strings = map (λ (bytes : Vec ℕ). bytes.items) p.strings.items;
        globals = map (begun_at (site_types (types_in names) l)) (globals_in t names);
        main = p.main.0;
      }) found.sites_are
      ∙ ap (λ (l : List (List ℕ)). record {
        funcs = funcs;
        types = types_in names;
        sites = sites_types t names;
        taken = addresses_taken (sites_in t names);
        made = made_by_expressions (sites_in t names);
        strings = l;
        globals = map (begun_at (sites_types t names)) (globals_in t names);
        main = p.main.0;
      }) found.strings_are

  pub typed : Types t (program_of p)
  typed = record {
    heads = names;
    is_heads = found.is_heads;
    funcs = funcs;
    main = p.main.0;
    functions = all_functions t names found.is_heads found.formed found.least funcs (sym found.funcs_are);
    main_is = sym found.main_is;
    structs = told t names found.is_heads found.formed found.least;
    structs_sound = λ f k. found.least f (inl (inr (inl (inr (inl k)))));
    declarations = declared t names found.is_heads found.formed found.least;
    no_circle = circle_free t names found.is_heads found.formed (λ f k. found.least f (inl (inr (inl (inr (inr k))))));
    is = program_is;
  }

-- where it has found no fault, it has found all functions and `main`
module _ (t : Syntax) (main : Option ℕ) (fs : Option (List FuncData)) (sites : List Site) (ns : List ℕ) (T : Table) (strings : List (List ℕ)) (gs : List PackageVariable)
    (whole : Option Fault) (found : IsPassed t main fs sites ns T strings gs whole) (whole_is : whole ≡ None) where
  none_least : IsLeast (FailsWithHeads t found.heads) None
  none_least = subst (IsLeast (FailsWithHeads t found.heads)) whole_is found.least

  pub main_there : main ≡ None → ⊥
  main_there none1 =
      let m = main_given t found.heads found.is_heads found.formed none_least in none_some (sym (sym m.1 ∙ sym found.main_is ∙ none1))

  pub functions_found : fs ≡ None → ⊥
  functions_found none1 =
      let found1 = functions_given t found.heads found.is_heads found.formed none_least in
      none_some (sym (sym found1.1 ∙ sym found.funcs_are ∙ ap (option_map (map (func_of (types_in found.heads)))) none1))

-- where it has found no fault, these are `main` and the functions
pub where_found : (t : Syntax) (p : ProgramData) (main : Option FuncId) (fs : Option (Vec FuncData)) (whole : Option Fault) → main ≡ Some p.main → fs ≡ Some p.funcs
    → whole ≡ None
    → IsPassed t (option_map (λ (f : FuncId). f.0) main) (option_map (λ (v : Vec FuncData). v.items) fs) p.sites.items p.names.items p.types
    (map (λ (bytes : Vec ℕ). bytes.items) p.strings.items) p.globals.items whole
    → IsPassed t (Some p.main.0) (Some p.funcs.items) p.sites.items p.names.items p.types (map (λ (bytes : Vec ℕ). bytes.items) p.strings.items) p.globals.items None
where_found t p main fs whole main_is fs_is whole_is found =
    let strings = map (λ (bytes : Vec ℕ). bytes.items) p.strings.items in
    let gs = p.globals.items in
    subst (λ (o : Option Fault). IsPassed t (Some p.main.0) (Some p.funcs.items) p.sites.items p.names.items p.types strings gs o) whole_is
    (subst (λ (o : Option (Vec FuncData)). IsPassed t (Some p.main.0) (option_map (λ (v : Vec FuncData). v.items) o) p.sites.items p.names.items p.types strings gs whole) fs_is
    (subst (λ (o : Option FuncId). IsPassed t (option_map (λ (f : FuncId). f.0) o) (option_map (λ (v : Vec FuncData). v.items) fs) p.sites.items p.names.items p.types strings gs whole)
    main_is found))
