-- The package block names no variables of functions, its variables have their numbers, and its constants are held by their types.
use Rattle.std.proofs.Common.{◌≡◌, ℕ, zero, suc, Bool, true, false, List, [], ◌∷◌, ◌++◌, length, Option, Some, None, refl}
use Rattle.std.specs.Prelude.{slice_get, slice_set, option_and_then}
use Rattle.typed.specs.declared.program.Site.{Site}
use Rattle.syntax.specs.declared.expression.Name.{Name}
use Rattle.syntax.specs.Expressions.{spelled}
use Rattle.syntax.specs.Declarations.{TypeSpec, Function as TreeFunction, Declaration}
use Rattle.type_faults.proofs.Options.{none_some}
use Rattle.names.specs.declared.scope.Declared.TheVariants.{Variable, Constant, Global, Function, External, «Type»}
use Rattle.names.specs.declared.scope.Declared.{Declared}
use Rattle.base.specs.declared.value_type.ValueType.TheVariants.{Struct}
use Rattle.typed.specs.Tables.{Table}
use Rattle.names.specs.declared.scope.Known.{Known}
use Rattle.names.specs.Scope.{Scope, with_global, with_known}
use Rattle.names.proofs.Settled.{IsSound}
use Rattle.package_values.specs.Values.{Item, items_in, given, settled}
use Rattle.package_values.proofs.Giving.{given_sound}
use Rattle.function_heads.specs.PackageBlock.{external_named, with_items}
use Rattle.signatures.proofs.Growth.{extends_none}
use Rattle.signatures.proofs.Visible.{IsShown, Visible, visible_more}
use Rattle.types_go.proofs.Package.{constant_one, numbered_one, variable_one, type_one, declared_one, items_kept, settled_kept}

module _ (P : Known → Type 0) where
  -- what is known of constants and variables is such
  abbrev AllKnown : List (Option Known) → Type 0
  AllKnown os = (k : ℕ) (x : Known) → option_and_then (λ o. o) (slice_get os k) ≡ Some x → P x

  -- and of one more, of which nothing is known yet
  more_known : (os : List (Option Known)) → AllKnown os → AllKnown (os ++ None ∷ [])
  more_known [] all zero x is = absurd (none_some is)
  more_known [] all (suc k) x is = absurd (none_some is)
  more_known (o ∷ os) all zero x is = all zero x is
  more_known (o ∷ os) all (suc k) x is = more_known os (λ j. all (suc j)) k x is

  -- where something else is known of one
  set_known : (os : List (Option Known)) (k : ℕ) (o : Option Known) → ((x : Known) → o ≡ Some x → P x) → AllKnown os → AllKnown (slice_set os k o)
  set_known [] k o one all j x is = absurd (none_some is)
  set_known (p ∷ os) zero o one all zero x is = one x is
  set_known (p ∷ os) zero o one all (suc j) x is = all (suc j) x is
  set_known (p ∷ os) (suc k) o one all zero x is = all zero x is
  set_known (p ∷ os) (suc k) o one all (suc j) x is = set_known os k o one (λ i. all (suc i)) j x is

-- the package block names no variables of functions, its variables have their numbers, and its constants are held by their types
module _ (text : List ℕ) where
  visible_constant : (s : Scope) (n : Name) (declares : Bool) → Visible s [] → Visible (constant_one text s n declares) []
  visible_constant s n false v = record { bounded = v.bounded; shown = v.shown; held = more_known IsSound s.values v.held; kinds = v.kinds }
  visible_constant s n true v =
      let w = visible_more s s.sites [] [] (spelled text n) (Constant (record { 0 = length s.values })) v (extends_none s.sites) (λ u h. h) tt in
      record { bounded = w.0; shown = w.1; held = more_known IsSound s.values v.held; kinds = v.kinds }

  -- one more package variable with a name keeps the numbers of the others
  get_more : (ks : List ℕ) (k g j : ℕ) → slice_get ks g ≡ Some j → slice_get (ks ++ k ∷ []) g ≡ Some j
  get_more [] k g j is = absurd (none_some is)
  get_more (x ∷ ks) k zero j is = is
  get_more (x ∷ ks) k (suc g) j is = get_more ks k g j is

  get_last : (ks : List ℕ) (k : ℕ) → slice_get (ks ++ k ∷ []) (length ks) ≡ Some k
  get_last [] k = refl
  get_last (x ∷ ks) k = get_last ks k

  shown_more : (T : Table) (sites : List Site) (ks : List ℕ) (k : ℕ) (d : Declared) → IsShown T [] sites ks d → IsShown T [] sites (ks ++ k ∷ []) d
  shown_more T sites ks k (Variable site t) h = h
  shown_more T sites ks k (Global j g) h = get_more ks k g.0 j.0 h
  shown_more T sites ks k d h = tt

  visible_numbered : (s : Scope) → Visible s [] → Visible (with_global s) []
  visible_numbered s v = record { bounded = v.bounded; shown = λ name d is. shown_more s.types s.sites s.globals (length s.values) d (v.shown name d is); held = v.held; kinds = v.kinds }

  visible_named : (s : Scope) (n : Name) (declares : Bool) → Visible s [] → Visible (numbered_one text s n declares) []
  visible_named s n false v = visible_numbered s v
  visible_named s n true v =
      let d : Declared = Global (record { 0 = length s.values }) (record { 0 = length s.globals }) in
      let s1 = with_global s in
      let w = visible_more s1 s.sites [] [] (spelled text n) d (visible_numbered s v) (extends_none s.sites) (λ u h. h) (get_last s.globals (length s.values)) in
      record { bounded = w.0; shown = w.1; held = v.held; kinds = v.kinds }

  visible_variable : (s : Scope) (n : Name) (blank declares : Bool) → Visible s [] → Visible (variable_one text s n blank declares) []
  visible_variable s n true declares v = record { bounded = v.bounded; shown = v.shown; held = more_known IsSound s.values v.held; kinds = v.kinds }
  visible_variable s n false true v = let w = visible_named s n true v in record { bounded = w.bounded; shown = w.shown; held = more_known IsSound s.values v.held; kinds = v.kinds }
  visible_variable s n false false v = let w = visible_named s n false v in record { bounded = w.bounded; shown = w.shown; held = more_known IsSound s.values v.held; kinds = v.kinds }

  visible_type : (s : Scope) (t : TypeSpec) (declares : Bool) → Visible s [] → Visible (type_one text s t declares) []
  visible_type s t false v = record { bounded = v.bounded; shown = v.shown; held = v.held; kinds = v.kinds }
  visible_type s t true v =
      let w = visible_more s s.sites [] [] (spelled text t.name) («Type» (Struct (record { 0 = length s.fields }))) v (extends_none s.sites) (λ u h. h) tt in
      record { bounded = w.0; shown = w.1; held = v.held; kinds = v.kinds }

  visible_known : (s : Scope) (k : ℕ) (i : Item) → Visible s [] → Visible (with_known s k (given text s i)) []
  visible_known s k i v = record { bounded = v.bounded; shown = v.shown; held = set_known IsSound s.values k (given text s i) (λ x is. given_sound text s s.values v.held i x is) v.held; kinds = v.kinds }

module _ (text : List ℕ) (heads : Scope) where
  visible_function : (s : Scope) (g : TreeFunction) (external declares : Bool) → Visible s [] → Visible (declared_one text heads s g external declares) []
  visible_function s g external declares v = by external declares
    where
      by : (b c : Bool) → Visible (declared_one text heads s g b c) []
      by true false = v
      by true true =
          let w = visible_more s s.sites [] [] (spelled text g.name) (External (external_named (spelled text g.name)) g.name.pos) v (extends_none s.sites) (λ u h. h) tt in
          record { bounded = w.0; shown = w.1; held = v.held; kinds = v.kinds }
      by false false = record { bounded = v.bounded; shown = v.shown; held = v.held; kinds = v.kinds }
      by false true =
          let w = visible_more s s.sites [] [] (spelled text g.name) (Function (record { 0 = length s.signatures })) v (extends_none s.sites) (λ u h. h) tt in
          record { bounded = w.0; shown = w.1; held = v.held; kinds = v.kinds }

  pub visible_package : (s : Scope) (ds : List Declaration) → Visible s [] → Visible (settled text (with_items text heads s ds) (items_in ds)) []
  visible_package s ds v =
      settled_kept text (λ (r : Scope). Visible r []) (visible_known text) (with_items text heads s ds) (items_in ds)
      (items_kept text heads (λ (r : Scope). Visible r []) (visible_constant text) (visible_variable text) (visible_type text) visible_function s ds v)
