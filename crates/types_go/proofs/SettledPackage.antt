-- Where each function of a package has a signature, each struct is a type, and no rule of its constants and variables fails, its block is settled.
use Rattle.std.proofs.Common.{◌≡◌, ℕ, zero, suc, ◌+◌, ◌<◌, ◌≤◌, Bool, true, false, cond, List, [], ◌∷◌, ◌++◌, length, map, Option, Some, None, refl, sym, ap, ◌∙◌, subst, arith, length-append}
use Rattle.std.specs.Prelude.{⊤, option_and_then, slice_get, IsNone}
use Rattle.std.specs.List.{AllByRecursion}
use Rattle.type_faults.specs.declared.fault.Fault.{Fault}
use Rattle.syntax.specs.declared.expression.Name.{Name}
use Rattle.syntax.specs.Expressions.{spelled}
use Rattle.syntax.specs.Declarations.{TypeSpec, Function as TreeFunction, Declaration, constants, variables, types}
use Rattle.syntax.specs.Declarations as tree
use Rattle.base.specs.declared.value_type.ValueType.TheVariants.{Struct}
use Rattle.typed.specs.Tables.{Table}
use Rattle.typed.specs.Formed.{IsFormed}
use Rattle.names.specs.declared.scope.Declared.{Declared}
use Rattle.names.specs.declared.scope.Declared.TheVariants.{Constant, Global, Function, External, «Type»}
use Rattle.names.specs.declared.scope.Known.{Known}
use Rattle.names.specs.Scope.{Scope, Signature}
use Rattle.names.specs.Types.{is_known}
use Rattle.names.proofs.Settled.{HasSignature, IsSettled}
use Rattle.declared_structs.specs.Faults.{type_specs_in, AreTypes}
use Rattle.package_values.specs.declared.items.Role.TheVariants as role
use Rattle.package_values.specs.Values.{Item, items_in_specs, items_in, settled}
use Rattle.package_values.specs.ValueFaults.{ItemsFail}
use Rattle.package_values.specs.Accepted.{DeclarationsAre}
use Rattle.package_values.proofs.AllKnown.{IsTypedOnceKnown, NothingFails, is_settled, all_map}
use Rattle.package_values.proofs.Accepted.{declarations_are}
use Rattle.signatures.proofs.SettledEntries.{one_more_declared}
use Rattle.function_heads.specs.HeadTypes.{signature_in}
use Rattle.function_heads.specs.PackageBlock.{external_named, is_external, with_items}
use Rattle.function_heads.specs.Heads.{functions_in}
use Rattle.types_go.specs.Functions.{Member, of_function, numbered, functions_of, members_in, block_with}
use Rattle.types_go.proofs.Package.{constant_one, variable_one, type_one, declared_one, values_long, fields_long, signatures_are, items_kept}
use Rattle.types_go.proofs.Types.{items_types}
use Rattle.types_go.proofs.SettledFunctions.{AllSigned}

-- the declarations of a package are functions, constants and variables, and structs, with numbers below these, or functions without a body
abbrev AreNumbered : (functions values structs : ℕ) → Declared → Type 0
AreNumbered n m c (Function g) = g.0 < n
AreNumbered n m c (Constant k) = k.0 < m
AreNumbered n m c (Global k g) = k.0 < m
AreNumbered n m c («Type» (Struct k)) = k.0 < c
AreNumbered n m c (External e at) = ⊤
AreNumbered n m c other = ⊥

more_numbered : (n m c i j d : ℕ) → n ≤ i → m ≤ j → c ≤ d → (x : Declared) → AreNumbered n m c x → AreNumbered i j d x
more_numbered n m c i j d a b e (Function g) h = omega (arith, h, a)
more_numbered n m c i j d a b e (Constant k) h = omega (arith, h, b)
more_numbered n m c i j d a b e (Global k g) h = omega (arith, h, b)
more_numbered n m c i j d a b e («Type» (Struct k)) h = omega (arith, h, e)
more_numbered n m c i j d a b e (External x at) h = tt
more_numbered n m c i j d a b e x h = absurd h

abbrev Numbered : Scope → Type 0
Numbered s = AllByRecursion (AreNumbered (length s.signatures) (length s.values) (length s.fields)) s.declared

-- where there are as many or more of each
wider : (s : Scope) (i j d : ℕ) → length s.signatures ≤ i → length s.values ≤ j → length s.fields ≤ d → Numbered s
    → AllByRecursion (AreNumbered i j d) s.declared
wider s i j d a b e all =
    let n = length s.signatures in
    let m = length s.values in
    let c = length s.fields in
    all_map (AreNumbered n m c) (AreNumbered i j d) s.declared (more_numbered n m c i j d a b e) all

-- a constant or variable of which nothing is known yet
abbrev IsUnknown : Option Known → Type 0
IsUnknown o = IsNone o

one_more_unknown : (os : List (Option Known)) → AllByRecursion IsUnknown os → AllByRecursion IsUnknown (os ++ None ∷ [])
one_more_unknown [] all = (refl, tt)
one_more_unknown (o ∷ os) all = (all.0, one_more_unknown os all.1)

abbrev AllGiven : List (Option Signature) → Type 0
AllGiven [] = Unit {0}
AllGiven (sig ∷ sigs) = HasSignature sig × AllGiven sigs

signed_at : (sigs : List (Option Signature)) (k : ℕ) → AllGiven sigs → k < length sigs → HasSignature (option_and_then (λ o. o) (slice_get sigs k))
signed_at [] k all lt = absurd (omega (arith, lt))
signed_at (None ∷ sigs) zero all lt = absurd all.0
signed_at (Some sig ∷ sigs) zero all lt = tt
signed_at (sig ∷ sigs) (suc k) all lt = signed_at sigs k all.1 (omega (arith, lt))

-- the struct of a number
type_at : (T : Table) (from : ℕ) (ts : List TypeSpec) (k : ℕ) → AreTypes T from ts → k < length ts → is_known T (Struct (record { 0 = from + k })) ≡ true
type_at T from [] k all lt = absurd (omega (arith, lt))
type_at T from (t ∷ ts) zero all lt =
    let e : from ≡ from + 0 = omega arith in
    subst (λ (j : ℕ). is_known T (Struct (record { 0 = j })) ≡ true) e all.0
type_at T from (t ∷ ts) (suc k) all lt =
    let e : suc from + k ≡ from + suc k = omega arith in
    subst (λ (j : ℕ). is_known T (Struct (record { 0 = j })) ≡ true) e (type_at T (suc from) ts k all.1 (omega (arith, lt)))

-- each is typed once the constants and variables are known
waits : (T : Table) (sigs : List (Option Signature)) (m c : ℕ) → AllGiven sigs → ((k : ℕ) → k < c → is_known T (Struct (record { 0 = k })) ≡ true)
    → (x : Declared) → AreNumbered (length sigs) m c x → IsTypedOnceKnown T sigs m x
waits T sigs m c given told (Function g) h = signed_at sigs g.0 given h
waits T sigs m c given told (Constant k) h = h
waits T sigs m c given told (Global k g) h = h
waits T sigs m c given told («Type» (Struct k)) h = told k.0 h
waits T sigs m c given told (External e at) h = tt
waits T sigs m c given told x h = absurd h

module _ (text : List ℕ) (heads : Scope) where
  numbered_function : (s : Scope) (g : TreeFunction) (external declares : Bool) → Numbered s → Numbered (declared_one text heads s g external declares)
  numbered_function s g external declares all = by external declares
    where
      n : ℕ
      n = length (s.signatures ++ signature_in text heads g ∷ [])

      long : n ≡ length s.signatures + 1
      long = length-append s.signatures (signature_in text heads g ∷ [])

      more : AllByRecursion (AreNumbered n (length s.values) (length s.fields)) s.declared
      more = wider s n (length s.values) (length s.fields) (omega (arith, long)) (omega arith) (omega arith) all

      by : (b c : Bool) → Numbered (declared_one text heads s g b c)
      by true false = all
      by true true =
          one_more_declared (AreNumbered (length s.signatures) (length s.values) (length s.fields)) s.declared
          (External (external_named (spelled text g.name)) g.name.pos) all tt
      by false false = more
      by false true =
          one_more_declared (AreNumbered n (length s.values) (length s.fields)) s.declared (Function (record { 0 = length s.signatures })) more
          (omega (arith, long))

  numbered_constant : (s : Scope) (n : Name) (declares : Bool) → Numbered s → Numbered (constant_one text s n declares)
  numbered_constant s n declares all = by declares
    where
      m : ℕ
      m = length (s.values ++ None ∷ [])

      long : m ≡ length s.values + 1
      long = length-append s.values (None ∷ [])

      more : AllByRecursion (AreNumbered (length s.signatures) m (length s.fields)) s.declared
      more = wider s (length s.signatures) m (length s.fields) (omega arith) (omega (arith, long)) (omega arith) all

      by : (b : Bool) → Numbered (constant_one text s n b)
      by false = more
      by true =
          one_more_declared (AreNumbered (length s.signatures) m (length s.fields)) s.declared (Constant (record { 0 = length s.values })) more
          (omega (arith, long))

  numbered_variable : (s : Scope) (n : Name) (blank declares : Bool) → Numbered s → Numbered (variable_one text s n blank declares)
  numbered_variable s n blank declares all = by blank declares
    where
      m : ℕ
      m = length (s.values ++ None ∷ [])

      long : m ≡ length s.values + 1
      long = length-append s.values (None ∷ [])

      more : AllByRecursion (AreNumbered (length s.signatures) m (length s.fields)) s.declared
      more = wider s (length s.signatures) m (length s.fields) (omega arith) (omega (arith, long)) (omega arith) all

      by : (b c : Bool) → Numbered (variable_one text s n b c)
      by true c = more
      by false false = more
      by false true =
          one_more_declared (AreNumbered (length s.signatures) m (length s.fields)) s.declared
          (Global (record { 0 = length s.values }) (record { 0 = length s.globals })) more (omega (arith, long))

  numbered_type : (s : Scope) (t : TypeSpec) (declares : Bool) → Numbered s → Numbered (type_one text s t declares)
  numbered_type s t declares all = by declares
    where
      c : ℕ
      c = length (type_one text s t false).fields

      long : c ≡ length s.fields + 1
      long = length-append s.fields ((type_one text (record s { fields = [] }) t false).fields)

      more : AllByRecursion (AreNumbered (length s.signatures) (length s.values) c) s.declared
      more = wider s (length s.signatures) (length s.values) c (omega arith) (omega arith) (omega (arith, long)) all

      by : (b : Bool) → Numbered (type_one text s t b)
      by false = more
      by true =
          one_more_declared (AreNumbered (length s.signatures) (length s.values) c) s.declared («Type» (Struct (record { 0 = length s.fields }))) more
          (omega (arith, long))

  unknown_constant : (s : Scope) (n : Name) (declares : Bool) → AllByRecursion IsUnknown s.values → AllByRecursion IsUnknown (constant_one text s n declares).values
  unknown_constant s n true all = one_more_unknown s.values all
  unknown_constant s n false all = one_more_unknown s.values all

  unknown_variable : (s : Scope) (n : Name) (blank declares : Bool) → AllByRecursion IsUnknown s.values
      → AllByRecursion IsUnknown (variable_one text s n blank declares).values
  unknown_variable s n true declares all = one_more_unknown s.values all
  unknown_variable s n false true all = one_more_unknown s.values all
  unknown_variable s n false false all = one_more_unknown s.values all

  unknown_type : (s : Scope) (t : TypeSpec) (declares : Bool) → AllByRecursion IsUnknown s.values → AllByRecursion IsUnknown (type_one text s t declares).values
  unknown_type s t true all = all
  unknown_type s t false all = all

  unknown_function : (s : Scope) (g : TreeFunction) (external declares : Bool) → AllByRecursion IsUnknown s.values
      → AllByRecursion IsUnknown (declared_one text heads s g external declares).values
  unknown_function s g true true all = all
  unknown_function s g true false all = all
  unknown_function s g false true all = all
  unknown_function s g false false all = all

  given_all : (gs : List TreeFunction) → AllSigned text heads gs → AllGiven (map (signature_in text heads) gs)
  given_all [] all = tt
  given_all (g ∷ gs) all = (all.0, given_all gs all.1)

  functions_apart : (k : ℕ) (is : List Item) (ms : List Member) → functions_of (numbered k is ++ ms) ≡ functions_of ms
  functions_apart k [] ms = refl
  functions_apart k (i ∷ is) ms = functions_apart (1 + k) is ms

  -- the functions among the members are those of the declarations
  pub members_functions : (k : ℕ) (ds : List Declaration) → functions_of (members_in text heads k ds) ≡ functions_in text heads ds
  members_functions k [] = refl
  members_functions k (constants at specs ∷ ds) = members_functions (k + length (items_in_specs role.Constant specs)) ds
  members_functions k (variables at specs ∷ ds) =
      functions_apart k (items_in_specs role.Variable specs) (members_in text heads (k + length (items_in_specs role.Variable specs)) ds) ∙ members_functions (k + length (items_in_specs role.Variable specs)) ds
  members_functions k (types at specs ∷ ds) = members_functions k ds
  members_functions k (tree.function g ∷ ds) = by (members_functions k ds) (is_external text heads g)
    where
      by : functions_of (members_in text heads k ds) ≡ functions_in text heads ds → (b : Bool)
          → functions_of (cond b (members_in text heads k ds) (of_function g ∷ members_in text heads k ds)) ≡ cond b (functions_in text heads ds) (g ∷ functions_in text heads ds)
      by later true = later
      by later false = ap (λ l. g ∷ l) later

  module _ (ds : List Declaration) where
    abbrev pub block : Scope
    block = with_items text heads (block_with heads) ds

    pub formed_block : IsFormed heads.types → IsFormed block.types
    formed_block formed = subst IsFormed (sym (items_types text heads heads.types (block_with heads) ds refl)) formed

    module _ (formed : IsFormed heads.types) (told : AreTypes heads.types 0 (type_specs_in ds)) (signed : AllSigned text heads (functions_in text heads ds)) where
      told_at : (k : ℕ) → k < length block.fields → is_known block.types (Struct (record { 0 = k })) ≡ true
      told_at k lt =
          let long = fields_long text heads (block_with heads) ds in
          let from_zero : 0 + k ≡ k = omega arith in
          subst (λ (T : Table). is_known T (Struct (record { 0 = k })) ≡ true) (sym (items_types text heads heads.types (block_with heads) ds refl))
          (subst (λ (j : ℕ). is_known heads.types (Struct (record { 0 = j })) ≡ true) from_zero
          (type_at heads.types 0 (type_specs_in ds) k told (omega (arith, lt, long))))

      -- the declarations have types as soon as the constants and variables do
      pub waiting : AllByRecursion (IsTypedOnceKnown block.types block.signatures (length block.values)) block.declared
      waiting =
          let given = subst AllGiven (sym (signatures_are text heads (block_with heads) ds)) (given_all (functions_in text heads ds) signed) in
          all_map (AreNumbered (length block.signatures) (length block.values) (length block.fields))
          (IsTypedOnceKnown block.types block.signatures (length block.values)) block.declared
          (waits block.types block.signatures (length block.values) (length block.fields) given told_at)
          (items_kept text heads Numbered numbered_constant numbered_variable numbered_type numbered_function (block_with heads) ds tt)

      module _ (sound : (f : Fault) → ItemsFail text (settled text block (items_in ds)) ds f → ⊥) where
        nothing_fails : NothingFails text block ds
        nothing_fails =
            let unknown =
            items_kept text heads (λ (v : Scope). AllByRecursion IsUnknown v.values) unknown_constant unknown_variable unknown_type unknown_function (block_with heads) ds tt in
            let many = values_long text heads (block_with heads) ds in
            record { as_many = omega (arith, many); unknown = unknown; typed = waiting; formed = formed_block formed; never = sound }

        -- then the block is settled
        pub package_settled : IsSettled (settled text block (items_in ds))
        package_settled = is_settled text block ds nothing_fails

        -- and its declarations of constants and variables are those of an accepted package
        pub package_declared : DeclarationsAre text (settled text block (items_in ds)) ds
        package_declared = declarations_are text block ds nothing_fails
