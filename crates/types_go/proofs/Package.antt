-- The package block, where functions, constants and variables are declared.
use Rattle.std.proofs.Common.{◌≡◌, ℕ, zero, suc, ◌+◌, Bool, true, false, cond, List, [], ◌∷◌, ◌++◌, length, map, Option, Some, None, refl, sym, ap, ◌∙◌, subst, arith, append-nil, append_assoc, length-append}
use Rattle.std.specs.Prelude.{slice_get, option_and_then}
use Rattle.std.proofs.lemmas.List.{map-append, length-map}
use Rattle.syntax.specs.declared.expression.Name.{Name}
use Rattle.syntax.specs.Expressions.{Ex as TreeEx, Exs as TreeExs, none, some, spelled}
use Rattle.syntax.specs.Statements.{ValueSpec}
use Rattle.names.specs.declared.scope.Known.{Known}
use Rattle.syntax.specs.Declarations.{TypeSpec, Function as TreeFunction, Declaration, constants, variables, types}
use Rattle.syntax.specs.Declarations as tree
use Rattle.type_faults.proofs.Options.{map_some, none_some, same_some}
use Rattle.base.specs.declared.value_type.ValueType.TheVariants.{Struct}
use Rattle.names.specs.declared.scope.Declared.TheVariants.{Untyped, Constant, Global, Function, External, «Type»}
use Rattle.names.specs.Universe.{is_blank}
use Rattle.names.specs.Scope.{Scope, Signature, with_declaration, with_signature, with_struct, with_value, with_global, with_known}
use Rattle.package_values.specs.declared.items.Role.{Role}
use Rattle.package_values.specs.declared.items.Role.TheVariants as role
use Rattle.package_values.specs.Values.{Item, unvalued, paired, or_unvalued, items_of, items_in_specs, items_in, given, look, looks, settled}
use Rattle.names.specs.Blocks.{Blocks}
use Rattle.declared_structs.specs.Faults.{type_specs_in}
use Rattle.signatures.specs.Structs.{fields_of_struct}
use Rattle.signatures.specs.Signatures.{declares_name, with_heads, with_constant_name, with_constant_names, with_constants, with_variable_name, with_variable_names, with_package_variables, with_name, with_type, with_types}
use Rattle.function_heads.specs.HeadTypes.{signature_in}
use Rattle.function_heads.specs.PackageBlock.{external_named, is_external, with_function, with_items}
use Rattle.function_heads.specs.Heads.{functions_in}

-- ---- as many constants or variables as names

module _ (r : Role) (names : List Name) (t : Option TreeEx) (all : TreeExs) where
  unvalued_named : (k : ℕ) (ns : List Name) → map (λ (i : Item). i.name) (unvalued r names t all k ns) ≡ ns
  unvalued_named k [] = refl
  unvalued_named k (n ∷ ns) = ap (λ l. n ∷ l) (unvalued_named (1 + k) ns)

  paired_named : (k : ℕ) (ns : List Name) (es : TreeExs) (is : List Item) → paired r names t all k ns es ≡ Some is → map (λ (i : Item). i.name) is ≡ ns
  paired_named k [] none is e = ap (map (λ (i : Item). i.name)) (sym (same_some e))
  paired_named k [] (some x xs) is e = absurd (none_some e)
  paired_named k (n ∷ ns) none is e = absurd (none_some e)
  paired_named k (n ∷ ns) (some x xs) is e =
      let q = map_some (λ (l : List Item). record { role = r; name = n; names = names; place = k; type_expr = t; value = Some x; values = all } ∷ l) (paired r names t all (1 + k) ns xs) is e in
      ap (map (λ (i : Item). i.name)) (sym q.2) ∙ ap (λ l. n ∷ l) (paired_named (1 + k) ns xs q.0 q.1)

-- they have the names of their declaration
items_named : (r : Role) (v : ValueSpec) → map (λ (i : Item). i.name) (items_of r v) ≡ v.names
items_named r v = by (paired r v.names v.type_expr v.values 0 v.names v.values) refl
  where
    by : (o : Option (List Item)) → paired r v.names v.type_expr v.values 0 v.names v.values ≡ o → map (λ (i : Item). i.name) (or_unvalued o (unvalued r v.names v.type_expr v.values 0 v.names)) ≡ v.names
    by None e = unvalued_named r v.names v.type_expr v.values 0 v.names
    by (Some is) e = paired_named r v.names v.type_expr v.values 0 v.names v.values is e

items_long : (r : Role) (v : ValueSpec) → length (items_of r v) ≡ length v.names
items_long r v = sym (length-map (items_of r v) (λ (i : Item). i.name)) ∙ ap length (items_named r v)

-- one more constant, whether its name is declared
abbrev pub constant_one : List ℕ → Scope → Name → (declares : Bool) → Scope
constant_one text s n declares = with_value (cond declares (with_declaration s (spelled text n) (Constant (record { 0 = length s.values }))) s) None

-- one more package variable, whether its name is blank, and whether it is declared
abbrev pub numbered_one : List ℕ → Scope → Name → (declares : Bool) → Scope
numbered_one text s n declares = with_global (cond declares (with_declaration s (spelled text n) (Global (record { 0 = length s.values }) (record { 0 = length s.globals }))) s)

abbrev pub variable_one : List ℕ → Scope → Name → (blank declares : Bool) → Scope
variable_one text s n blank declares = with_value (cond blank s (numbered_one text s n declares)) None

module _ (text : List ℕ) where
  one_signatures : (s : Scope) (n : Name) → (with_constant_name text s n).signatures ≡ s.signatures
  one_signatures s n = by (declares_name s (spelled text n))
    where
      by : (b : Bool) → (constant_one text s n b).signatures ≡ s.signatures
      by true = refl
      by false = refl

  one_long : (s : Scope) (n : Name) → length (with_constant_name text s n).values ≡ length s.values + 1
  one_long s n = by (declares_name s (spelled text n))
    where
      by : (b : Bool) → length (constant_one text s n b).values ≡ length s.values + 1
      by true = length-append s.values (None ∷ [])
      by false = length-append s.values (None ∷ [])

  names_signatures : (s : Scope) (ns : List Name) → (with_constant_names text s ns).signatures ≡ s.signatures
  names_signatures s [] = refl
  names_signatures s (n ∷ ns) = names_signatures (with_constant_name text s n) ns ∙ one_signatures s n

  names_long : (s : Scope) (ns : List Name) → length (with_constant_names text s ns).values ≡ length s.values + length ns
  names_long s [] = omega arith
  names_long s (n ∷ ns) =
      let one = one_long s n in
      let rest = names_long (with_constant_name text s n) ns in
      omega (arith, one, rest)

  specs_signatures : (s : Scope) (vs : List ValueSpec) → (with_constants text s vs).signatures ≡ s.signatures
  specs_signatures s [] = refl
  specs_signatures s (v ∷ vs) = specs_signatures (with_constant_names text s v.names) vs ∙ names_signatures s v.names

  specs_long : (s : Scope) (vs : List ValueSpec) → length (with_constants text s vs).values ≡ length s.values + length (items_in_specs role.Constant vs)
  specs_long s [] = omega arith
  specs_long s (v ∷ vs) =
      let one = names_long s v.names in
      let many = items_long role.Constant v in
      let both1 = length-append (items_of role.Constant v) (items_in_specs role.Constant vs) in
      let rest = specs_long (with_constant_names text s v.names) vs in
      omega (arith, one, many, both1, rest)

  -- and the same of package variables
  variable_signatures : (s : Scope) (n : Name) → (with_variable_name text s n).signatures ≡ s.signatures
  variable_signatures s n = by (is_blank (spelled text n)) (declares_name s (spelled text n))
    where
      by : (b c : Bool) → (variable_one text s n b c).signatures ≡ s.signatures
      by true c = refl
      by false true = refl
      by false false = refl

  variable_long : (s : Scope) (n : Name) → length (with_variable_name text s n).values ≡ length s.values + 1
  variable_long s n = by (is_blank (spelled text n)) (declares_name s (spelled text n))
    where
      by : (b c : Bool) → length (variable_one text s n b c).values ≡ length s.values + 1
      by true c = length-append s.values (None ∷ [])
      by false true = length-append s.values (None ∷ [])
      by false false = length-append s.values (None ∷ [])

  variable_names_signatures : (s : Scope) (ns : List Name) → (with_variable_names text s ns).signatures ≡ s.signatures
  variable_names_signatures s [] = refl
  variable_names_signatures s (n ∷ ns) = variable_names_signatures (with_variable_name text s n) ns ∙ variable_signatures s n

  variable_names_long : (s : Scope) (ns : List Name) → length (with_variable_names text s ns).values ≡ length s.values + length ns
  variable_names_long s [] = omega arith
  variable_names_long s (n ∷ ns) =
      let one = variable_long s n in
      let rest = variable_names_long (with_variable_name text s n) ns in
      omega (arith, one, rest)

  variables_signatures : (s : Scope) (vs : List ValueSpec) → (with_package_variables text s vs).signatures ≡ s.signatures
  variables_signatures s [] = refl
  variables_signatures s (v ∷ vs) = variables_signatures (with_variable_names text s v.names) vs ∙ variable_names_signatures s v.names

  pub variables_long : (s : Scope) (vs : List ValueSpec) → length (with_package_variables text s vs).values ≡ length s.values + length (items_in_specs role.Variable vs)
  variables_long s [] = omega arith
  variables_long s (v ∷ vs) =
      let one = variable_names_long s v.names in
      let many = items_long role.Variable v in
      let both1 = length-append (items_of role.Variable v) (items_in_specs role.Variable vs) in
      let rest = variables_long (with_variable_names text s v.names) vs in
      omega (arith, one, many, both1, rest)

  -- ---- the numbers of the package variables with a name, from a number on

  abbrev pub names_numbers : ℕ → List Name → List ℕ
  names_numbers k [] = []
  names_numbers k (n ∷ ns) = cond (is_blank (spelled text n)) (names_numbers (1 + k) ns) (k ∷ names_numbers (1 + k) ns)

  names_apart : (k : ℕ) (ns ms : List Name) → names_numbers k (ns ++ ms) ≡ names_numbers k ns ++ names_numbers (k + length ns) ms
  names_apart k [] ms = let e : k ≡ k + 0 = omega arith in ap (λ j. names_numbers j ms) e
  names_apart k (n ∷ ns) ms = by (names_apart (1 + k) ns ms) (is_blank (spelled text n))
    where
      e : (1 + k) + length ns ≡ k + suc (length ns)
      e = omega arith

      by : names_numbers (1 + k) (ns ++ ms) ≡ names_numbers (1 + k) ns ++ names_numbers ((1 + k) + length ns) ms → (b : Bool)
          → cond b (names_numbers (1 + k) (ns ++ ms)) (k ∷ names_numbers (1 + k) (ns ++ ms)) ≡ cond b (names_numbers (1 + k) ns) (k ∷ names_numbers (1 + k) ns) ++ names_numbers (k + suc (length ns)) ms
      by later true = later ∙ ap (λ j. names_numbers (1 + k) ns ++ names_numbers j ms) e
      by later false = ap (λ l. k ∷ l) (later ∙ ap (λ j. names_numbers (1 + k) ns ++ names_numbers j ms) e)

  variable_globals : (s : Scope) (n : Name) → (with_variable_name text s n).globals ≡ s.globals ++ names_numbers (length s.values) (n ∷ [])
  variable_globals s n = by (is_blank (spelled text n)) (declares_name s (spelled text n))
    where
      by : (b c : Bool) → (variable_one text s n b c).globals ≡ s.globals ++ cond b [] (length s.values ∷ [])
      by true c = sym (append-nil s.globals)
      by false true = refl
      by false false = refl

  variable_names_globals : (s : Scope) (ns : List Name) → (with_variable_names text s ns).globals ≡ s.globals ++ names_numbers (length s.values) ns
  variable_names_globals s [] = sym (append-nil s.globals)
  variable_names_globals s (n ∷ ns) =
      let long : length (with_variable_name text s n).values ≡ length s.values + length (n ∷ []) = variable_long s n in
      variable_names_globals (with_variable_name text s n) ns ∙ ap (λ l. l ++ names_numbers (length (with_variable_name text s n).values) ns) (variable_globals s n)
      ∙ ap (λ j. (s.globals ++ names_numbers (length s.values) (n ∷ [])) ++ names_numbers j ns) long
      ∙ append_assoc s.globals (names_numbers (length s.values) (n ∷ [])) (names_numbers (length s.values + length (n ∷ [])) ns)
      ∙ ap (λ l. s.globals ++ l) (sym (names_apart (length s.values) (n ∷ []) ns))

  abbrev pub all_names : List ValueSpec → List Name
  all_names [] = []
  all_names (v ∷ vs) = v.names ++ all_names vs

  pub items_names : (r : Role) (vs : List ValueSpec) → map (λ (i : Item). i.name) (items_in_specs r vs) ≡ all_names vs
  items_names r [] = refl
  items_names r (v ∷ vs) = map-append (λ (i : Item). i.name) (items_of r v) (items_in_specs r vs) ∙ ap (λ l. l ++ map (λ (i : Item). i.name) (items_in_specs r vs)) (items_named r v) ∙ ap (λ l. v.names ++ l) (items_names r vs)

  pub variables_globals : (s : Scope) (vs : List ValueSpec) → (with_package_variables text s vs).globals ≡ s.globals ++ names_numbers (length s.values) (all_names vs)
  variables_globals s [] = sym (append-nil s.globals)
  variables_globals s (v ∷ vs) =
      let s1 = with_variable_names text s v.names in
      variables_globals s1 vs ∙ ap (λ l. l ++ names_numbers (length s1.values) (all_names vs)) (variable_names_globals s v.names)
      ∙ ap (λ j. (s.globals ++ names_numbers (length s.values) v.names) ++ names_numbers j (all_names vs)) (variable_names_long s v.names)
      ∙ append_assoc s.globals (names_numbers (length s.values) v.names) (names_numbers (length s.values + length v.names) (all_names vs))
      ∙ ap (λ l. s.globals ++ l) (sym (names_apart (length s.values) v.names (all_names vs)))

  one_globals : (s : Scope) (n : Name) → (with_constant_name text s n).globals ≡ s.globals
  one_globals s n = by (declares_name s (spelled text n))
    where
      by : (b : Bool) → (constant_one text s n b).globals ≡ s.globals
      by true = refl
      by false = refl

  names_globals : (s : Scope) (ns : List Name) → (with_constant_names text s ns).globals ≡ s.globals
  names_globals s [] = refl
  names_globals s (n ∷ ns) = names_globals (with_constant_name text s n) ns ∙ one_globals s n

  constants_globals : (s : Scope) (vs : List ValueSpec) → (with_constants text s vs).globals ≡ s.globals
  constants_globals s [] = refl
  constants_globals s (v ∷ vs) = constants_globals (with_constant_names text s v.names) vs ∙ names_globals s v.names

-- one more struct, whether its name is declared
abbrev pub type_one : List ℕ → Scope → TypeSpec → (declares : Bool) → Scope
type_one text s t declares =
    with_struct (cond declares (with_declaration s (spelled text t.name) («Type» (Struct (record { 0 = length s.fields })))) s)
    (fields_of_struct text t.fields)

module _ (text : List ℕ) where
  -- structs leave what is known of constants and variables, the signatures, and the numbers of package variables
  type_values : (s : Scope) (t : TypeSpec) → (with_type text s t).values ≡ s.values
  type_values s t = by (declares_name s (spelled text t.name))
    where
      by : (b : Bool) → (type_one text s t b).values ≡ s.values
      by true = refl
      by false = refl

  pub types_values : (s : Scope) (ts : List TypeSpec) → (with_types text s ts).values ≡ s.values
  types_values s [] = refl
  types_values s (t ∷ ts) = types_values (with_type text s t) ts ∙ type_values s t

  type_signatures : (s : Scope) (t : TypeSpec) → (with_type text s t).signatures ≡ s.signatures
  type_signatures s t = by (declares_name s (spelled text t.name))
    where
      by : (b : Bool) → (type_one text s t b).signatures ≡ s.signatures
      by true = refl
      by false = refl

  pub types_signatures : (s : Scope) (ts : List TypeSpec) → (with_types text s ts).signatures ≡ s.signatures
  types_signatures s [] = refl
  types_signatures s (t ∷ ts) = types_signatures (with_type text s t) ts ∙ type_signatures s t

  type_globals : (s : Scope) (t : TypeSpec) → (with_type text s t).globals ≡ s.globals
  type_globals s t = by (declares_name s (spelled text t.name))
    where
      by : (b : Bool) → (type_one text s t b).globals ≡ s.globals
      by true = refl
      by false = refl

  pub types_globals : (s : Scope) (ts : List TypeSpec) → (with_types text s ts).globals ≡ s.globals
  types_globals s [] = refl
  types_globals s (t ∷ ts) = types_globals (with_type text s t) ts ∙ type_globals s t

  -- and are one more each
  type_fields : (s : Scope) (t : TypeSpec) → length (with_type text s t).fields ≡ length s.fields + 1
  type_fields s t = by (declares_name s (spelled text t.name))
    where
      by : (b : Bool) → length (type_one text s t b).fields ≡ length s.fields + 1
      by true = length-append s.fields (fields_of_struct text t.fields ∷ [])
      by false = length-append s.fields (fields_of_struct text t.fields ∷ [])

  pub types_fields : (s : Scope) (ts : List TypeSpec) → length (with_types text s ts).fields ≡ length s.fields + length ts
  types_fields s [] = omega arith
  types_fields s (t ∷ ts) =
      let one = type_fields s t in
      let rest = types_fields (with_type text s t) ts in
      omega (arith, one, rest)

-- ---- what the declarations keep

module _ (text : List ℕ) (heads : Scope) where
  -- one more function, whether it is one without a body, and whether it is declared
  abbrev pub declared_one : Scope → TreeFunction → (external declares : Bool) → Scope
  declared_one s g external declares =
      cond external (cond declares (with_declaration s (spelled text g.name) (External (external_named (spelled text g.name)) g.name.pos)) s)
      (with_signature (cond declares (with_declaration s (spelled text g.name) (Function (record { 0 = length s.signatures }))) s) (signature_in text heads g))

  function_long : (s : Scope) (g : TreeFunction) → length (with_function text heads s g).values ≡ length s.values
  function_long s g = by (is_external text heads g) (declares_name s (spelled text g.name))
    where
      by : (b c : Bool) → length (declared_one s g b c).values ≡ length s.values
      by true true = refl
      by true false = refl
      by false true = refl
      by false false = refl

  -- there are as many constants and variables as are declared
  pub values_long : (s : Scope) (ds : List Declaration) → length (with_items text heads s ds).values ≡ length s.values + length (items_in ds)
  values_long s [] = omega arith
  values_long s (constants at specs ∷ ds) =
      let one = specs_long text s specs in
      let both1 = length-append (items_in_specs role.Constant specs) (items_in ds) in
      let rest = values_long (with_constants text s specs) ds in
      omega (arith, one, both1, rest)
  values_long s (variables at specs ∷ ds) =
      let one = variables_long text s specs in
      let both1 = length-append (items_in_specs role.Variable specs) (items_in ds) in
      let rest = values_long (with_package_variables text s specs) ds in
      omega (arith, one, both1, rest)
  values_long s (types at specs ∷ ds) =
      let one = ap (λ (l : List (Option Known)). length l) (types_values text s specs) in
      let rest = values_long (with_types text s specs) ds in
      omega (arith, one, rest)
  values_long s (tree.function g ∷ ds) =
      let one = function_long s g in
      let rest = values_long (with_function text heads s g) ds in
      omega (arith, one, rest)

  -- ---- nothing is known of them before they are worked out

  abbrev pub AreUnknown : List (Option Known) → Type 0
  AreUnknown vs = (k : ℕ) → option_and_then (λ o. o) (slice_get vs k) ≡ None

  unknown_more : (vs : List (Option Known)) → AreUnknown vs → AreUnknown (vs ++ None ∷ [])
  unknown_more [] h zero = refl
  unknown_more [] h (suc k) = refl
  unknown_more (v ∷ vs) h zero = h zero
  unknown_more (v ∷ vs) h (suc k) = unknown_more vs (λ j. h (suc j)) k

  constants_unknown : (s : Scope) (ns : List Name) → AreUnknown s.values → AreUnknown (with_constant_names text s ns).values
  constants_unknown s [] h = h
  constants_unknown s (n ∷ ns) h = constants_unknown (with_constant_name text s n) ns (by (declares_name s (spelled text n)))
    where
      by : (b : Bool) → AreUnknown (constant_one text s n b).values
      by true = unknown_more s.values h
      by false = unknown_more s.values h

  constant_specs_unknown : (s : Scope) (vs : List ValueSpec) → AreUnknown s.values → AreUnknown (with_constants text s vs).values
  constant_specs_unknown s [] h = h
  constant_specs_unknown s (v ∷ vs) h = constant_specs_unknown (with_constant_names text s v.names) vs (constants_unknown s v.names h)

  variables_unknown : (s : Scope) (ns : List Name) → AreUnknown s.values → AreUnknown (with_variable_names text s ns).values
  variables_unknown s [] h = h
  variables_unknown s (n ∷ ns) h = variables_unknown (with_variable_name text s n) ns (by (is_blank (spelled text n)) (declares_name s (spelled text n)))
    where
      by : (b c : Bool) → AreUnknown (variable_one text s n b c).values
      by true c = unknown_more s.values h
      by false true = unknown_more s.values h
      by false false = unknown_more s.values h

  variable_specs_unknown : (s : Scope) (vs : List ValueSpec) → AreUnknown s.values → AreUnknown (with_package_variables text s vs).values
  variable_specs_unknown s [] h = h
  variable_specs_unknown s (v ∷ vs) h = variable_specs_unknown (with_variable_names text s v.names) vs (variables_unknown s v.names h)

  function_unknown : (s : Scope) (g : TreeFunction) → AreUnknown s.values → AreUnknown (with_function text heads s g).values
  function_unknown s g h = by (is_external text heads g) (declares_name s (spelled text g.name))
    where
      by : (b c : Bool) → AreUnknown (declared_one s g b c).values
      by true true = h
      by true false = h
      by false true = h
      by false false = h

  pub values_unknown : (s : Scope) (ds : List Declaration) → AreUnknown s.values → AreUnknown (with_items text heads s ds).values
  values_unknown s [] h = h
  values_unknown s (constants at specs ∷ ds) h = values_unknown (with_constants text s specs) ds (constant_specs_unknown s specs h)
  values_unknown s (variables at specs ∷ ds) h = values_unknown (with_package_variables text s specs) ds (variable_specs_unknown s specs h)
  values_unknown s (types at specs ∷ ds) h = values_unknown (with_types text s specs) ds (subst AreUnknown (sym (types_values text s specs)) h)
  values_unknown s (tree.function g ∷ ds) h = values_unknown (with_function text heads s g) ds (function_unknown s g h)

  -- the signatures are those of the functions that have numbers
  pub signatures_are : (s : Scope) (ds : List Declaration)
      → (with_items text heads s ds).signatures ≡ s.signatures ++ map (signature_in text heads) (functions_in text heads ds)
  signatures_are s [] = sym (append-nil s.signatures)
  signatures_are s (constants at specs ∷ ds) =
      signatures_are (with_constants text s specs) ds ∙ ap (λ (l : List (Option Signature)). l ++ map (signature_in text heads) (functions_in text heads ds)) (specs_signatures text s specs)
  signatures_are s (variables at specs ∷ ds) =
      signatures_are (with_package_variables text s specs) ds ∙ ap (λ (l : List (Option Signature)). l ++ map (signature_in text heads) (functions_in text heads ds)) (variables_signatures text s specs)
  signatures_are s (types at specs ∷ ds) =
      signatures_are (with_types text s specs) ds ∙ ap (λ (l : List (Option Signature)). l ++ map (signature_in text heads) (functions_in text heads ds)) (types_signatures text s specs)
  signatures_are s (tree.function g ∷ ds) = by (λ v. signatures_are v ds) (is_external text heads g) (declares_name s (spelled text g.name))
    where
      by : ((v : Scope) → (with_items text heads v ds).signatures ≡ v.signatures ++ map (signature_in text heads) (functions_in text heads ds)) → (b c : Bool)
          → (with_items text heads (declared_one s g b c) ds).signatures ≡ s.signatures ++ map (signature_in text heads) (cond b (functions_in text heads ds) (g ∷ functions_in text heads ds))
      by later true true = later (declared_one s g true true)
      by later true false = later s
      by later false true = later (declared_one s g false true) ∙ append_assoc s.signatures (signature_in text heads g ∷ []) (map (signature_in text heads) (functions_in text heads ds))
      by later false false = later (declared_one s g false false) ∙ append_assoc s.signatures (signature_in text heads g ∷ []) (map (signature_in text heads) (functions_in text heads ds))

  -- the package variables with a name have the numbers of their names
  abbrev pub globals_numbers : ℕ → List Declaration → List ℕ
  globals_numbers k [] = []
  globals_numbers k (constants at specs ∷ ds) = globals_numbers (k + length (items_in_specs role.Constant specs)) ds
  globals_numbers k (variables at specs ∷ ds) = names_numbers text k (all_names text specs) ++ globals_numbers (k + length (items_in_specs role.Variable specs)) ds
  globals_numbers k (types at specs ∷ ds) = globals_numbers k ds
  globals_numbers k (tree.function g ∷ ds) = globals_numbers k ds

  function_globals : (s : Scope) (g : TreeFunction) → (with_function text heads s g).globals ≡ s.globals
  function_globals s g = by (is_external text heads g) (declares_name s (spelled text g.name))
    where
      by : (b c : Bool) → (declared_one s g b c).globals ≡ s.globals
      by true true = refl
      by true false = refl
      by false true = refl
      by false false = refl

  pub globals_are : (s : Scope) (ds : List Declaration) → (with_items text heads s ds).globals ≡ s.globals ++ globals_numbers (length s.values) ds
  globals_are s [] = sym (append-nil s.globals)
  globals_are s (constants at specs ∷ ds) =
      let s1 = with_constants text s specs in
      globals_are s1 ds ∙ ap (λ l. l ++ globals_numbers (length s1.values) ds) (constants_globals text s specs) ∙ ap (λ k. s.globals ++ globals_numbers k ds) (specs_long text s specs)
  globals_are s (variables at specs ∷ ds) =
      let s1 = with_package_variables text s specs in
      globals_are s1 ds ∙ ap (λ l. l ++ globals_numbers (length s1.values) ds) (variables_globals text s specs)
      ∙ ap (λ k. (s.globals ++ names_numbers text (length s.values) (all_names text specs)) ++ globals_numbers k ds) (variables_long text s specs)
      ∙ append_assoc s.globals (names_numbers text (length s.values) (all_names text specs)) (globals_numbers (length s.values + length (items_in_specs role.Variable specs)) ds)
  globals_are s (types at specs ∷ ds) =
      let s1 = with_types text s specs in
      globals_are s1 ds ∙ ap (λ l. l ++ globals_numbers (length s1.values) ds) (types_globals text s specs)
      ∙ ap (λ (os : List (Option Known)). s.globals ++ globals_numbers (length os) ds) (types_values text s specs)
  globals_are s (tree.function g ∷ ds) =
      let s1 = with_function text heads s g in
      globals_are s1 ds ∙ ap (λ l. l ++ globals_numbers (length s1.values) ds) (function_globals s g) ∙ ap (λ k. s.globals ++ globals_numbers k ds) (function_long s g)

  -- there are as many structs as are declared
  constant_fields : (s : Scope) (ns : List Name) → (with_constant_names text s ns).fields ≡ s.fields
  constant_fields s [] = refl
  constant_fields s (n ∷ ns) = constant_fields (with_constant_name text s n) ns ∙ by (declares_name s (spelled text n))
    where
      by : (b : Bool) → (constant_one text s n b).fields ≡ s.fields
      by true = refl
      by false = refl

  constants_fields : (s : Scope) (vs : List ValueSpec) → (with_constants text s vs).fields ≡ s.fields
  constants_fields s [] = refl
  constants_fields s (v ∷ vs) = constants_fields (with_constant_names text s v.names) vs ∙ constant_fields s v.names

  variable_fields : (s : Scope) (ns : List Name) → (with_variable_names text s ns).fields ≡ s.fields
  variable_fields s [] = refl
  variable_fields s (n ∷ ns) = variable_fields (with_variable_name text s n) ns ∙ by (is_blank (spelled text n)) (declares_name s (spelled text n))
    where
      by : (b c : Bool) → (variable_one text s n b c).fields ≡ s.fields
      by true c = refl
      by false true = refl
      by false false = refl

  variables_fields : (s : Scope) (vs : List ValueSpec) → (with_package_variables text s vs).fields ≡ s.fields
  variables_fields s [] = refl
  variables_fields s (v ∷ vs) = variables_fields (with_variable_names text s v.names) vs ∙ variable_fields s v.names

  function_fields : (s : Scope) (g : TreeFunction) → (with_function text heads s g).fields ≡ s.fields
  function_fields s g = by (is_external text heads g) (declares_name s (spelled text g.name))
    where
      by : (b c : Bool) → (declared_one s g b c).fields ≡ s.fields
      by true true = refl
      by true false = refl
      by false true = refl
      by false false = refl

  pub fields_long : (s : Scope) (ds : List Declaration) → length (with_items text heads s ds).fields ≡ length s.fields + length (type_specs_in ds)
  fields_long s [] = omega arith
  fields_long s (constants at specs ∷ ds) =
      let one = ap (λ (l : List Blocks). length l) (constants_fields s specs) in
      let rest = fields_long (with_constants text s specs) ds in
      omega (arith, one, rest)
  fields_long s (variables at specs ∷ ds) =
      let one = ap (λ (l : List Blocks). length l) (variables_fields s specs) in
      let rest = fields_long (with_package_variables text s specs) ds in
      omega (arith, one, rest)
  fields_long s (types at specs ∷ ds) =
      let one = types_fields text s specs in
      let both1 = length-append specs (type_specs_in ds) in
      let rest = fields_long (with_types text s specs) ds in
      omega (arith, one, both1, rest)
  fields_long s (tree.function g ∷ ds) =
      let one = ap (λ (l : List Blocks). length l) (function_fields s g) in
      let rest = fields_long (with_function text heads s g) ds in
      omega (arith, one, rest)

  -- what one more constant keeps, one more variable, one more struct, and one more function, all of them keep
  module _ (P : Scope → Type 0) (constant_kept : (s : Scope) (n : Name) (declares : Bool) → P s → P (constant_one text s n declares))
      (variable_kept : (s : Scope) (n : Name) (blank declares : Bool) → P s → P (variable_one text s n blank declares))
      (type_kept : (s : Scope) (t : TypeSpec) (declares : Bool) → P s → P (type_one text s t declares))
      (function_kept : (s : Scope) (g : TreeFunction) (external declares : Bool) → P s → P (declared_one s g external declares)) where
    names_kept : (s : Scope) (ns : List Name) → P s → P (with_constant_names text s ns)
    names_kept s [] p = p
    names_kept s (n ∷ ns) p = names_kept (with_constant_name text s n) ns (constant_kept s n (declares_name s (spelled text n)) p)

    specs_kept : (s : Scope) (vs : List ValueSpec) → P s → P (with_constants text s vs)
    specs_kept s [] p = p
    specs_kept s (v ∷ vs) p = specs_kept (with_constant_names text s v.names) vs (names_kept s v.names p)

    variable_names_kept : (s : Scope) (ns : List Name) → P s → P (with_variable_names text s ns)
    variable_names_kept s [] p = p
    variable_names_kept s (n ∷ ns) p = variable_names_kept (with_variable_name text s n) ns (variable_kept s n (is_blank (spelled text n)) (declares_name s (spelled text n)) p)

    variables_kept : (s : Scope) (vs : List ValueSpec) → P s → P (with_package_variables text s vs)
    variables_kept s [] p = p
    variables_kept s (v ∷ vs) p = variables_kept (with_variable_names text s v.names) vs (variable_names_kept s v.names p)

    types_kept : (s : Scope) (ts : List TypeSpec) → P s → P (with_types text s ts)
    types_kept s [] p = p
    types_kept s (t ∷ ts) p = types_kept (with_type text s t) ts (type_kept s t (declares_name s (spelled text t.name)) p)

    pub items_kept : (s : Scope) (ds : List Declaration) → P s → P (with_items text heads s ds)
    items_kept s [] p = p
    items_kept s (constants at specs ∷ ds) p = items_kept (with_constants text s specs) ds (specs_kept s specs p)
    items_kept s (variables at specs ∷ ds) p = items_kept (with_package_variables text s specs) ds (variables_kept s specs p)
    items_kept s (types at specs ∷ ds) p = items_kept (with_types text s specs) ds (types_kept s specs p)
    items_kept s (tree.function g ∷ ds) p = items_kept (with_function text heads s g) ds (function_kept s g (is_external text heads g) (declares_name s (spelled text g.name)) p)

-- ---- where functions have names alone

module _ (text : List ℕ) where
  name_values : (s : Scope) (n : Name) → (with_name text Untyped s n).values ≡ s.values
  name_values s n = by (declares_name s (spelled text n))
    where
      by : (b : Bool) → (cond b (with_declaration s (spelled text n) Untyped) s).values ≡ s.values
      by true = refl
      by false = refl

  pub heads_long : (s : Scope) (ds : List Declaration) → length (with_heads text s ds).values ≡ length s.values + length (items_in ds)
  heads_long s [] = omega arith
  heads_long s (constants at specs ∷ ds) =
      let one = specs_long text s specs in
      let both1 = length-append (items_in_specs role.Constant specs) (items_in ds) in
      let rest = heads_long (with_constants text s specs) ds in
      omega (arith, one, both1, rest)
  heads_long s (variables at specs ∷ ds) =
      let one = variables_long text s specs in
      let both1 = length-append (items_in_specs role.Variable specs) (items_in ds) in
      let rest = heads_long (with_package_variables text s specs) ds in
      omega (arith, one, both1, rest)
  heads_long s (types at specs ∷ ds) =
      let one = ap (λ (l : List (Option Known)). length l) (types_values text s specs) in
      let rest = heads_long (with_types text s specs) ds in
      omega (arith, one, rest)
  heads_long s (tree.function g ∷ ds) =
      let one = ap (λ (l : List (Option Known)). length l) (name_values s g.name) in
      let rest = heads_long (with_name text Untyped s g.name) ds in
      omega (arith, one, rest)

  pub heads_unknown : (s : Scope) (ds : List Declaration) → AreUnknown text s s.values → AreUnknown text s (with_heads text s ds).values
  heads_unknown s ds h = unknown s ds h
    where
      unknown : (r : Scope) (es : List Declaration) → AreUnknown text s r.values → AreUnknown text s (with_heads text r es).values
      unknown r [] k = k
      unknown r (constants at specs ∷ es) k = unknown (with_constants text r specs) es (constant_specs_unknown text s r specs k)
      unknown r (variables at specs ∷ es) k = unknown (with_package_variables text r specs) es (variable_specs_unknown text s r specs k)
      unknown r (types at specs ∷ es) k = unknown (with_types text r specs) es (subst (AreUnknown text s) (sym (types_values text r specs)) k)
      unknown r (tree.function g ∷ es) k = unknown (with_name text Untyped r g.name) es (subst (AreUnknown text s) (sym (name_values r g.name)) k)

-- what another value of a constant or variable keeps, working them out keeps
module _ (text : List ℕ) (P : Scope → Type 0) (kept : (s : Scope) (k : ℕ) (i : Item) → P s → P (with_known s k (given text s i))) where
  look_kept : (k : ℕ) (s : Scope) (is : List Item) → P s → P (look text k s is)
  look_kept k s [] p = p
  look_kept k s (i ∷ is) p = look_kept (1 + k) (with_known s k (given text s i)) is (kept s k i p)

  looks_kept : (n : ℕ) (s : Scope) (is : List Item) → P s → P (looks text n s is)
  looks_kept zero s is p = p
  looks_kept (suc n) s is p = looks_kept n (look text 0 s is) is (look_kept 0 s is p)

  pub settled_kept : (s : Scope) (is : List Item) → P s → P (settled text s is)
  settled_kept s is p = looks_kept (length is) s is p
