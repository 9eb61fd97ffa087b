-- Scopes that declare alike: the first as the names of a package, where functions have no types, and the second as the package's
-- block.
use Rattle.std.proofs.Common.{◌≡◌, ◌⊎◌, inl, inr, ℕ, zero, suc, Bool, true, false, not, ◌&&◌, ◌||◌, if◌then◌else◌, List, [], ◌∷◌, ◌++◌, length, Option, Some, None, refl, sym, ap, ap₂, ◌∙◌}
use Rattle.std.specs.Prelude.{slice_get, slice_set, option_and_then, is_some}
use Rattle.std.proofs.lemmas.Bool.{false≢true}
use Rattle.syntax.specs.declared.expression.Name.{Name}
use Rattle.syntax.specs.Expressions.{spelled}
use Rattle.syntax.specs.Statements.{ValueSpec}
use Rattle.syntax.specs.Declarations.{Function as TreeFunction, TypeSpec, Declaration, constants, variables, types}
use Rattle.syntax.specs.Declarations as tree
use Rattle.constants.specs.declared.constant.Fixed.{Fixed}
use Rattle.base.specs.declared.value_type.ValueType.TheVariants.{Struct}
use Rattle.typed.specs.Tables.{Table}
use Rattle.type_faults.proofs.Options.{none_some}
use Rattle.names.specs.declared.scope.Declared.{Declared}
use Rattle.names.specs.declared.scope.Declared.TheVariants.{Untyped, Constant, Global, Function, External, «Type»}
use Rattle.names.specs.declared.scope.Known.{Known}
use Rattle.names.specs.declared.scope.Known.TheVariants as known_as
use Rattle.names.specs.Universe.{is_blank}
use Rattle.names.specs.Blocks.{Blocks, lookup, innermost, insert}
use Rattle.names.specs.Scope.{Scope, Signature, numbered, declaration, known, with_declaration, with_signature, with_value, with_global, with_struct, with_known, beginning}
use Rattle.signatures.specs.Structs.{fields_of_struct}
use Rattle.signatures.specs.Signatures.{is_init, declares_name, with_name, with_type, with_types, with_constant_name, with_constant_names, with_constants, with_numbered_name, with_variable_name, with_variable_names, with_package_variables, with_head, with_heads}
use Rattle.function_heads.specs.HeadTypes.{signature_in}
use Rattle.function_heads.specs.PackageBlock.{external_named, is_external, with_function, with_item, with_items}

-- ---- lists that agree place by place

module _ {A : Type 0} (R : A → A → Type 0) where
  abbrev pub Pairwise : List A → List A → Type 0
  Pairwise [] [] = Unit {0}
  Pairwise (x ∷ xs) (y ∷ ys) = R x y × Pairwise xs ys
  Pairwise xs ys = ⊥

  pub as_many : (xs ys : List A) → Pairwise xs ys → length xs ≡ length ys
  as_many [] [] p = refl
  as_many [] (y ∷ ys) p = absurd p
  as_many (x ∷ xs) [] p = absurd p
  as_many (x ∷ xs) (y ∷ ys) p = ap suc (as_many xs ys p.1)

  pub with_both : (xs ys : List A) (x y : A) → Pairwise xs ys → R x y → Pairwise (xs ++ x ∷ []) (ys ++ y ∷ [])
  with_both [] [] x y p r = (r, tt)
  with_both [] (z ∷ ys) x y p r = absurd p
  with_both (w ∷ xs) [] x y p r = absurd p
  with_both (w ∷ xs) (z ∷ ys) x y p r = (p.0, with_both xs ys x y p.1 r)

  pub set_both : (xs ys : List A) (k : ℕ) (x y : A) → Pairwise xs ys → R x y → Pairwise (slice_set xs k x) (slice_set ys k y)
  set_both [] [] k x y p r = tt
  set_both [] (z ∷ ys) k x y p r = absurd p
  set_both (w ∷ xs) [] k x y p r = absurd p
  set_both (w ∷ xs) (z ∷ ys) zero x y p r = (r, p.1)
  set_both (w ∷ xs) (z ∷ ys) (suc k) x y p r = (p.0, set_both xs ys k x y p.1 r)

-- the same is declared, but for what has no type in the first
abbrev pub IsAlike : Declared → Declared → Type 0
IsAlike d e = (d ≡ e) ⊎ (d ≡ Untyped)

-- a constant whose value is known in the first has it in the second
abbrev pub SameConstant : Option Known → Option Known → Type 0
SameConstant o p = (f : Fixed) → o ≡ Some (known_as.Constant f) → p ≡ Some (known_as.Constant f)

-- two scopes, of which the second has this table of types
pub record Alike (T : Table) (r s : Scope) : Type 0 where
  pub blocks : r.blocks ≡ s.blocks
  pub declared : Pairwise IsAlike r.declared s.declared
  pub values : Pairwise SameConstant r.values s.values
  pub globals : r.globals ≡ s.globals
  pub fields : r.fields ≡ s.fields
  pub types : s.types ≡ T

-- ---- what names stand for

declared_at : (ds es : List Declared) → Pairwise IsAlike ds es → (k : ℕ)
    → (slice_get ds k ≡ slice_get es k) ⊎ (slice_get ds k ≡ Some Untyped)
declared_at [] [] p k = inl refl
declared_at [] (e ∷ es) p k = absurd p
declared_at (d ∷ ds) [] p k = absurd p
declared_at (d ∷ ds) (e ∷ es) p zero = elim p.0 [ inl same ↦ inl (ap Some same) | inr untyped ↦ inr (ap Some untyped) ]
declared_at (d ∷ ds) (e ∷ es) p (suc k) = declared_at ds es p.1 k

constant_at : (os ps : List (Option Known)) → Pairwise SameConstant os ps → (k : ℕ)
    → SameConstant (option_and_then (λ o. o) (slice_get os k)) (option_and_then (λ o. o) (slice_get ps k))
constant_at [] [] p k f h = absurd (none_some h)
constant_at [] (q ∷ ps) p k f h = absurd p
constant_at (o ∷ os) [] p k f h = absurd p
constant_at (o ∷ os) (q ∷ ps) p zero f h = p.0 f h
constant_at (o ∷ os) (q ∷ ps) p (suc k) f h = constant_at os ps p.1 k f h

module _ (T : Table) (r s : Scope) (a : Alike T r s) where
  numbered_alike : (name : List ℕ) (o : Option ℕ) → (numbered r name o ≡ numbered s name o) ⊎ (numbered r name o ≡ Some Untyped)
  numbered_alike name None = inl refl
  numbered_alike name (Some k) = declared_at r.declared s.declared a.declared k

  -- a name stands for the same in both, but for what has no type in the first
  pub declaration_alike : (name : List ℕ) → (declaration r name ≡ declaration s name) ⊎ (declaration r name ≡ Some Untyped)
  declaration_alike name =
      let same = ap (λ (bs : Blocks). numbered s name (lookup bs name)) a.blocks in
      elim (numbered_alike name (lookup r.blocks name)) [ inl one ↦ inl (one ∙ same) | inr untyped ↦ inr untyped ]

  pub known_alike : (k : ℕ) → SameConstant (known r k) (known s k)
  known_alike k = constant_at r.values s.values a.values k

  value_count : length r.values ≡ length s.values
  value_count = as_many SameConstant r.values s.values a.values

  -- ---- what stays alike

  declared_alike : (name : List ℕ) (d e : Declared) → IsAlike d e
      → Alike T (with_declaration r name d) (with_declaration s name e)
  declared_alike name d e one = record {
    blocks = ap₂ (λ (bs : Blocks) (k : ℕ). insert bs name k) a.blocks (as_many IsAlike r.declared s.declared a.declared);
    declared = with_both IsAlike r.declared s.declared d e a.declared one;
    values = a.values;
    globals = a.globals;
    fields = a.fields;
    types = a.types;
  }

  valued_alike : Alike T (with_value r None) (with_value s None)
  valued_alike = record {
    blocks = a.blocks;
    declared = a.declared;
    values = with_both SameConstant r.values s.values None None a.values (λ f h. h);
    globals = a.globals;
    fields = a.fields;
    types = a.types;
  }

  global_alike : Alike T (with_global r) (with_global s)
  global_alike = record {
    blocks = a.blocks;
    declared = a.declared;
    values = a.values;
    globals = ap₂ (λ (gs : List ℕ) (k : ℕ). gs ++ k ∷ []) a.globals value_count;
    fields = a.fields;
    types = a.types;
  }

  struct_alike : (names : Blocks) → Alike T (with_struct r names) (with_struct s names)
  struct_alike names = record {
    blocks = a.blocks;
    declared = a.declared;
    values = a.values;
    globals = a.globals;
    fields = ap (λ (fs : List Blocks). fs ++ names ∷ []) a.fields;
    types = a.types;
  }

  signed_alike : (o : Option Signature) → Alike T r (with_signature s o)
  signed_alike o = record {
    blocks = a.blocks;
    declared = a.declared;
    values = a.values;
    globals = a.globals;
    fields = a.fields;
    types = a.types;
  }

  pub set_alike : (k : ℕ) (o p : Option Known) → SameConstant o p → Alike T (with_known r k o) (with_known s k p)
  set_alike k o p one = record {
    blocks = a.blocks;
    declared = a.declared;
    values = set_both SameConstant r.values s.values k o p a.values one;
    globals = a.globals;
    fields = a.fields;
    types = a.types;
  }

  -- whatever types the first has
  pub retyped : (U : Table) → Alike T (record r { types = U }) s
  retyped U = record {
    blocks = a.blocks;
    declared = a.declared;
    values = a.values;
    globals = a.globals;
    fields = a.fields;
    types = a.types;
  }

  either_alike : (name : List ℕ) (d e : Declared) → IsAlike d e → (b c : Bool) → b ≡ c
      → Alike T (if b then with_declaration r name d else r) (if c then with_declaration s name e else s)
  either_alike name d e one true true same = declared_alike name d e one
  either_alike name d e one true false same = absurd (false≢true (sym same))
  either_alike name d e one false true same = absurd (false≢true same)
  either_alike name d e one false false same = a

  module _ (text : List ℕ) where
    named_alike : (d e : Declared) (n : Name) → IsAlike d e → Alike T (with_name text d r n) (with_name text e s n)
    named_alike d e n one =
        let name = spelled text n in
        either_alike name d e one (declares_name r name) (declares_name s name)
        (ap (λ (bs : Blocks). not (is_blank name || is_init name) && not (is_some (innermost bs name))) a.blocks)

-- ---- what a package declares

module _ (T : Table) (text : List ℕ) where
  type_alike : (r s : Scope) (t : TypeSpec) → Alike T r s → Alike T (with_type text r t) (with_type text s t)
  type_alike r s t a =
      let d = λ (k : ℕ). «Type» (Struct (record { 0 = k })) in
      let same : d (length r.fields) ≡ d (length s.fields) = ap (λ (fs : List Blocks). d (length fs)) a.fields in
      struct_alike T (with_name text (d (length r.fields)) r t.name) (with_name text (d (length s.fields)) s t.name)
      (named_alike T r s a text (d (length r.fields)) (d (length s.fields)) t.name (inl same)) (fields_of_struct text t.fields)

  types_alike : (r s : Scope) (ts : List TypeSpec) → Alike T r s → Alike T (with_types text r ts) (with_types text s ts)
  types_alike r s [] a = a
  types_alike r s (t ∷ ts) a = types_alike (with_type text r t) (with_type text s t) ts (type_alike r s t a)

  constant_name_alike : (r s : Scope) (n : Name) → Alike T r s
      → Alike T (with_constant_name text r n) (with_constant_name text s n)
  constant_name_alike r s n a =
      let d = λ (k : ℕ). Constant (record { 0 = k }) in
      let same : d (length r.values) ≡ d (length s.values) = ap d (value_count T r s a) in
      valued_alike T (with_name text (d (length r.values)) r n) (with_name text (d (length s.values)) s n)
      (named_alike T r s a text (d (length r.values)) (d (length s.values)) n (inl same))

  constant_names_alike : (r s : Scope) (ns : List Name) → Alike T r s
      → Alike T (with_constant_names text r ns) (with_constant_names text s ns)
  constant_names_alike r s [] a = a
  constant_names_alike r s (n ∷ ns) a =
      constant_names_alike (with_constant_name text r n) (with_constant_name text s n) ns (constant_name_alike r s n a)

  constants_alike : (r s : Scope) (vs : List ValueSpec) → Alike T r s
      → Alike T (with_constants text r vs) (with_constants text s vs)
  constants_alike r s [] a = a
  constants_alike r s (v ∷ vs) a =
      constants_alike (with_constant_names text r v.names) (with_constant_names text s v.names) vs
      (constant_names_alike r s v.names a)

  numbered_name_alike : (r s : Scope) (n : Name) → Alike T r s
      → Alike T (with_numbered_name text r n) (with_numbered_name text s n)
  numbered_name_alike r s n a =
      let d = λ (k g : ℕ). Global (record { 0 = k }) (record { 0 = g }) in
      let same : d (length r.values) (length r.globals) ≡ d (length s.values) (length s.globals)
      = ap₂ d (value_count T r s a) (ap (λ (gs : List ℕ). length gs) a.globals) in
      global_alike T (with_name text (d (length r.values) (length r.globals)) r n)
      (with_name text (d (length s.values) (length s.globals)) s n)
      (named_alike T r s a text (d (length r.values) (length r.globals)) (d (length s.values) (length s.globals)) n (inl same))

  variable_name_alike : (r s : Scope) (n : Name) → Alike T r s
      → Alike T (with_variable_name text r n) (with_variable_name text s n)
  variable_name_alike r s n a = by (is_blank (spelled text n))
    where
      by : (b : Bool) → Alike T (with_value (if b then r else with_numbered_name text r n) None)
          (with_value (if b then s else with_numbered_name text s n) None)
      by true = valued_alike T r s a
      by false = valued_alike T (with_numbered_name text r n) (with_numbered_name text s n) (numbered_name_alike r s n a)

  variable_names_alike : (r s : Scope) (ns : List Name) → Alike T r s
      → Alike T (with_variable_names text r ns) (with_variable_names text s ns)
  variable_names_alike r s [] a = a
  variable_names_alike r s (n ∷ ns) a =
      variable_names_alike (with_variable_name text r n) (with_variable_name text s n) ns (variable_name_alike r s n a)

  variables_alike : (r s : Scope) (vs : List ValueSpec) → Alike T r s
      → Alike T (with_package_variables text r vs) (with_package_variables text s vs)
  variables_alike r s [] a = a
  variables_alike r s (v ∷ vs) a =
      variables_alike (with_variable_names text r v.names) (with_variable_names text s v.names) vs
      (variable_names_alike r s v.names a)

  module _ (heads : Scope) where
    function_alike : (r s : Scope) (f : TreeFunction) → Alike T r s
        → Alike T (with_name text Untyped r f.name) (with_function text heads s f)
    function_alike r s f a = by (is_external text heads f)
      where
        with_number : Scope
        with_number = with_name text (Function (record { 0 = length s.signatures })) s f.name

        by : (b : Bool) → Alike T (with_name text Untyped r f.name)
            (if b then with_name text (External (external_named (spelled text f.name)) f.name.pos) s f.name
            else with_signature with_number (signature_in text heads f))
        by true = named_alike T r s a text Untyped (External (external_named (spelled text f.name)) f.name.pos) f.name (inr refl)
        by false =
            signed_alike T (with_name text Untyped r f.name) with_number
            (named_alike T r s a text Untyped (Function (record { 0 = length s.signatures })) f.name (inr refl))
            (signature_in text heads f)

    item_alike : (r s : Scope) (d : Declaration) → Alike T r s → Alike T (with_head text r d) (with_item text heads s d)
    item_alike r s (constants at vs) a = constants_alike r s vs a
    item_alike r s (variables at vs) a = variables_alike r s vs a
    item_alike r s (types at ts) a = types_alike r s ts a
    item_alike r s (tree.function f) a = function_alike r s f a

    items_alike : (r s : Scope) (ds : List Declaration) → Alike T r s
        → Alike T (with_heads text r ds) (with_items text heads s ds)
    items_alike r s [] a = a
    items_alike r s (d ∷ ds) a = items_alike (with_head text r d) (with_item text heads s d) ds (item_alike r s d a)

    -- from where nothing is declared
    pub package_alike : (ds : List Declaration)
        → Alike T (with_heads text beginning ds) (with_items text heads (record beginning { types = T }) ds)
    package_alike ds =
        items_alike beginning (record beginning { types = T }) ds
        (record { blocks = refl; declared = tt; values = tt; globals = refl; fields = refl; types = refl })
