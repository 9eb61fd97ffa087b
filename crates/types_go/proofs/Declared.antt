-- What holds of a tree with a typed program, and of one in which no rule fails: its declarations, its functions, and the types in their heads.
use Rattle.std.proofs.Common.{◌≡◌, ℕ, ◌<◌, ◌⊎◌, inl, inr, Bool, true, false, cond, List, [], ◌∷◌, length, map, Option, Some, None, refl, subst, arith}
use Rattle.std.specs.Prelude.{◌&&◌, ◌||◌, not, is_some, slice_get, codes}
use Rattle.std.specs.Str.{bytes_eq}
use Rattle.std.specs.Option.{option_map}
use Rattle.base.specs.declared.pos.Pos.{Pos}
use Rattle.base.specs.declared.value_type.ValueType.{ValueType}
use Rattle.type_faults.specs.declared.fault.Fault.{Fault}
use Rattle.type_faults.specs.declared.fault.FaultKind.TheVariants.{Redeclared, SelfReference, OutOfProfile}
use Rattle.type_faults.specs.Faults.{fault, IsFault}
use Rattle.type_faults.proofs.Decided.{Decided, Tested, both_tested}
use Rattle.type_faults.proofs.Options.{and_then_some, map_some, none_some}
use Rattle.syntax.specs.Expressions.{spelled}
use Rattle.syntax.specs.Declarations.{Parameters, Function as TreeFunction, Declaration, constants, variables, types, Syntax}
use Rattle.syntax.specs.Declarations as tree
use Rattle.typed_syntax.specs.Syntax.{Func}
use Rattle.typed.specs.Formed.{IsFormed}
use Rattle.names.specs.declared.scope.Declared.{Declared}
use Rattle.names.specs.declared.scope.Known.{Known}
use Rattle.names.specs.Scope.{Scope, Signature, declaration, known}
use Rattle.names.proofs.Settled.{HasSignature, IsSettled}
use Rattle.expression_types.specs.Typing.{stated_type}
use Rattle.expression_types.specs.Faults.{StatedFails}
use Rattle.expression_types.proofs.Settled.{stated_decided}
use Rattle.declared_structs.specs.Faults.{type_specs_in, AreTypes}
use Rattle.package_values.specs.Values.{Item, items_in}
use Rattle.package_values.specs.Needs.{Reaches}
use Rattle.package_values.specs.ValueFaults.{cycle_place, ItemsFail}
use Rattle.package_values.specs.Accepted.{DeclarationsAre}
use Rattle.package_values.proofs.AllKnown.{there}
use Rattle.package_values.proofs.NoneFails.{none_fails, known_settled}
use Rattle.signatures.specs.Signatures.{Param, params_of, types_of, is_named, is_init}
use Rattle.signatures.proofs.SettledEntries.{where_not}
use Rattle.function_heads.specs.HeadTypes.{slot_of, signature_in}
use Rattle.function_heads.specs.PackageBlock.{is_of_exit, is_of_read_int, is_external_at, is_external}
use Rattle.function_heads.specs.Heads.{functions_in, is_supported, are_supported}
use Rattle.function_heads.specs.HeadFaults.{TypesFail, HeadFails, init_fault, external_name_fault, DeclarationsFail}
use Rattle.types_go.specs.Functions.{functions, declarations_in, IsHeads, block_with, members, package_scope, program_functions}
use Rattle.types_go.proofs.Package.{values_long}
use Rattle.types_go.proofs.Visible.{visible_package}
use Rattle.signatures.proofs.Visible.{visible_block}
use Rattle.types_go.proofs.SettledFunctions.{allowed_some, AllSigned, signature_parts, functions_signed}
use Rattle.types_go.proofs.SettledPackage.{block, formed_block, waiting, package_declared, members_functions}
use Rattle.types_go.proofs.HeadsHold.{heads_hold}

-- ---- declarations at the level of the package

init_tested : (b : Bool) (at : Pos) → Tested (not b) (IsFault (init_fault b at))
init_tested true at = (fault OutOfProfile at, refl)
init_tested false at = λ f h. h

external_tested : (b : Bool) (d : Option Declared) (at : Pos) → Tested (not b || is_external_at at d) (IsFault (external_name_fault b d at))
external_tested true d at = where_not (is_external_at at d) (fault Redeclared at)
external_tested false d at = λ f h. h

both_true : (a b : Bool) → (a && b) ≡ true → (a ≡ true) × (b ≡ true)
both_true true b is = (refl, is)
both_true false b is = cc is

-- where something is given no rule fails
given_never : {A : Type 0} (o : Option A) (x : A) (P : Fault → Type 0) → o ≡ Some x → Decided o P → (f : Fault) → P f → ⊥
given_never None x P is d = absurd (none_some is)
given_never (Some y) x P is d = d

module _ (text : List ℕ) (h : Scope) where
  -- `readInt` and `exit` have signatures
  external_signed : (g : TreeFunction) → is_external text h g ≡ true → HasSignature (signature_in text h g)
  external_signed g is = by (is_some g.body) (bytes_eq (spelled text g.name) (codes "exit")) (bytes_eq (spelled text g.name) (codes "readInt")) (not (is_named g.results)) (signature_in text h g) is
    where
      by : (b e r n : Bool) (sig : Option Signature) → (not b && ((e && is_of_exit sig) || (r && (is_of_read_int sig && n)))) ≡ true → HasSignature sig
      by b e r n (Some sig) is1 = tt
      by true e r n None is1 = cc is1
      by false true true n None is1 = cc is1
      by false true false n None is1 = cc is1
      by false false true n None is1 = cc is1
      by false false false n None is1 = cc is1

  signed_first : (g : TreeFunction) (es : List Declaration) → AllSigned text h (functions_in text h (tree.function g ∷ es))
      → HasSignature (signature_in text h g) × AllSigned text h (functions_in text h es)
  signed_first g es all = by (is_external text h g) refl all
    where
      by : (b : Bool) → is_external text h g ≡ b → AllSigned text h (cond b (functions_in text h es) (g ∷ functions_in text h es))
          → HasSignature (signature_in text h g) × AllSigned text h (functions_in text h es)
      by true is all1 = (external_signed g is, all1)
      by false is all1 = all1

  module _ (s : Scope) where
    abbrev FormFails : TreeFunction → Fault → Type 0
    FormFails g f =
        IsFault (init_fault (is_init (spelled text g.name)) g.pos) f
        ⊎ IsFault (external_name_fault (is_external text h g) (declaration s (spelled text g.name)) g.name.pos) f

    form_tested : (g : TreeFunction) → Tested (is_supported text h s (tree.function g)) (FormFails g)
    form_tested g =
        both_tested _ _ (not (is_init (spelled text g.name))) (not (is_external text h g) || is_external_at g.name.pos (declaration s (spelled text g.name)))
        (init_tested (is_init (spelled text g.name)) g.pos) (external_tested (is_external text h g) (declaration s (spelled text g.name)) g.name.pos)

    -- each declaration is of a form that is taken, or a rule fails in one
    pub supported_or : (es : List Declaration) → (are_supported text h s es ≡ true) ⊎ ((f : Fault) × DeclarationsFail text h s es f)
    supported_or [] = inl refl
    supported_or (constants at specs ∷ es) = later es (supported_or es)
      where
        later : (es1 : List Declaration) → (are_supported text h s es1 ≡ true) ⊎ ((f : Fault) × DeclarationsFail text h s es1 f)
            → (are_supported text h s es1 ≡ true) ⊎ ((f : Fault) × (⊥ ⊎ DeclarationsFail text h s es1 f))
        later es1 (inl is) = inl is
        later es1 (inr f) = inr (f.0, inr f.1)
    supported_or (variables at specs ∷ es) = later es (supported_or es)
      where
        later : (es1 : List Declaration) → (are_supported text h s es1 ≡ true) ⊎ ((f : Fault) × DeclarationsFail text h s es1 f)
            → (are_supported text h s es1 ≡ true) ⊎ ((f : Fault) × (⊥ ⊎ DeclarationsFail text h s es1 f))
        later es1 (inl is) = inl is
        later es1 (inr f) = inr (f.0, inr f.1)
    supported_or (types at specs ∷ es) = later es (supported_or es)
      where
        later : (es1 : List Declaration) → (are_supported text h s es1 ≡ true) ⊎ ((f : Fault) × DeclarationsFail text h s es1 f)
            → (are_supported text h s es1 ≡ true) ⊎ ((f : Fault) × (⊥ ⊎ DeclarationsFail text h s es1 f))
        later es1 (inl is) = inl is
        later es1 (inr f) = inr (f.0, inr f.1)
    supported_or (tree.function g ∷ es) = by (is_supported text h s (tree.function g)) (form_tested g) (supported_or es)
      where
        by : (b : Bool) → Tested b (FormFails g) → (are_supported text h s es ≡ true) ⊎ ((f : Fault) × DeclarationsFail text h s es f)
            → ((b && are_supported text h s es) ≡ true) ⊎ ((f : Fault) × DeclarationsFail text h s (tree.function g ∷ es) f)
        by true tested1 (inl is) = inl is
        by true tested1 (inr f) = inr (f.0, inr f.1)
        by false tested1 rest = inr (tested1.0, inl (inl tested1.1))

-- ---- with these names of a package

module _ (t : Syntax) (h : Scope) (is_heads : IsHeads t h) (formed : IsFormed h.types) where
  abbrev ds : List Declaration
  ds = declarations_in t

  abbrev s : Scope
  s = package_scope t h

  abbrev Told : Type 0
  Told = AreTypes h.types 0 (type_specs_in ds)

  abbrev Signed : Type 0
  Signed = AllSigned t.text h (functions_in t.text h ds)

  -- no rule of the constants and variables fails
  abbrev pub Sound : Type 0
  Sound = (f : Fault) → ItemsFail t.text s ds f → ⊥

  -- each of them has something that is known of it, so each declaration has a type
  pub tree_settled : Told → Signed → DeclarationsAre t.text s ds → IsSettled s
  tree_settled told signed are =
      known_settled t.text (block t.text h ds) ds (waiting t.text h ds formed told signed) (formed_block t.text h ds formed)
      (visible_package t.text h (block_with h) ds (visible_block h.types)).held each_known
    where
      each_known : (k : ℕ) → k < length (block t.text h ds).values → (x : Known) × (known s k ≡ Some x)
      each_known k l =
          let many = values_long t.text h (block_with h) ds in
          let i = there (items_in ds) k (omega (arith, l, many)) in
          let x = are.values k i.0 i.1 in (x.0, x.1)

  -- where no rule of them fails they are those of an accepted package
  pub all_declared : Told → Signed → Sound → DeclarationsAre t.text s ds
  all_declared told signed sound = package_declared t.text h ds formed told signed sound

  -- none needs itself where no rule fails
  pub circle_free : Sound → (k : ℕ) (i : Item) → slice_get (items_in ds) k ≡ Some i → Reaches t.text s (items_in ds) k k → ⊥
  circle_free sound k i is way =
      sound (fault SelfReference (cycle_place i.role i.name i.names)) (inr (inr (record { number = k; item = i; has = is; reaches = way; at = refl })))

  -- where they are those of an accepted package no rule of them fails
  pub items_sound : IsSettled s → DeclarationsAre t.text s ds
      → ((k : ℕ) (i : Item) → slice_get (items_in ds) k ≡ Some i → Reaches t.text s (items_in ds) k k → ⊥) → Sound
  items_sound settled are no_circle f (inl k) = none_fails t.text s settled ds are f (inl k)
  items_sound settled are no_circle f (inr (inl k)) = none_fails t.text s settled ds are f (inr k)
  items_sound settled are no_circle f (inr (inr k)) = no_circle k.number k.item k.has k.reaches

  -- ---- the types in the heads of functions

  types_never : IsSettled s → (ps : List Param) (us : List ValueType) → types_of (map (slot_of t.text h) ps) ≡ Some us → (f : Fault) → TypesFail t.text s ps f → ⊥
  types_never settled [] us is f k = k
  types_never settled (p ∷ ps) us is f k =
      let r = and_then_some (λ u. option_map (λ vs. u ∷ vs) (types_of (map (slot_of t.text h) ps))) (stated_type t.text h p.type_expr) us is in
      let q = map_some (λ vs. r.0 ∷ vs) (types_of (map (slot_of t.text h) ps)) us r.2 in
      elim k [
        | inl x ↦ given_never (stated_type t.text s p.type_expr) r.0 (StatedFails t.text s p.type_expr) (heads_hold t h is_heads p.type_expr r.0 r.1)
            (stated_decided t.text s settled p.type_expr) f x
        | inr x ↦ types_never settled ps q.0 q.1 f x
      ]

  head_never : IsSettled s → (g : TreeFunction) → HasSignature (signature_in t.text h g) → (f : Fault) → HeadFails t.text s g f → ⊥
  head_never settled g has f (inl k) = let p = signature_parts t.text h g has in types_never settled (params_of g.params) p.0 p.2 f k
  head_never settled g has f (inr k) = let p = signature_parts t.text h g has in types_never settled (params_of g.results) p.1 p.3 f k

  -- so no rule fails in a declaration that is of a form that is taken
  declarations_never : IsSettled s → (es : List Declaration) → AllSigned t.text h (functions_in t.text h es) → are_supported t.text h s es ≡ true
      → (f : Fault) → DeclarationsFail t.text h s es f → ⊥
  declarations_never settled [] all is f k = k
  declarations_never settled (constants at specs ∷ es) all is f (inl k) = k
  declarations_never settled (constants at specs ∷ es) all is f (inr k) = declarations_never settled es all is f k
  declarations_never settled (variables at specs ∷ es) all is f (inl k) = k
  declarations_never settled (variables at specs ∷ es) all is f (inr k) = declarations_never settled es all is f k
  declarations_never settled (types at specs ∷ es) all is f (inl k) = k
  declarations_never settled (types at specs ∷ es) all is f (inr k) = declarations_never settled es all is f k
  declarations_never settled (tree.function g ∷ es) all is f k =
      let p = signed_first t.text h g es all in
      let q = both_true (is_supported t.text h s (tree.function g)) (are_supported t.text h s es) is in
      elim k [
        | inl x ↦ elim x [
          | inl y ↦ (subst (λ (b : Bool). Tested b (FormFails t.text h s g)) q.0 (form_tested t.text h s g)) f y
          | inr y ↦ head_never settled g p.0 f y
        ]
        | inr x ↦ declarations_never settled es p.1 q.1 f x
      ]

  pub declarations_sound : IsSettled s → Signed → are_supported t.text h s ds ≡ true → (f : Fault) → DeclarationsFail t.text h s ds f → ⊥
  declarations_sound settled signed is = declarations_never settled ds signed is

  -- a tree with typed functions has declarations of forms that are taken, and signatures
  pub functions_there : (fs : List Func) → program_functions t h ≡ Some fs
      → (are_supported t.text h s ds ≡ true) × (functions t.text h s 0 (members t h) ≡ Some fs) × Signed
  functions_there fs is =
      let p = allowed_some (are_supported t.text h s ds) (functions t.text h s 0 (members t h)) fs is in
      (p.0, p.1, subst (AllSigned t.text h) (members_functions t.text h 0 ds) (functions_signed t.text h s 0 (members t h) fs p.1))
