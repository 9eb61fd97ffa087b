-- Types that declarations state so far are arrays of what has a name.
use Rattle.std.proofs.Common.{◌≡◌, ℕ, zero, suc, List, [], ◌∷◌, ◌++◌, map, Some, sym, ap, ◌∙◌, subst}
use Rattle.std.specs.Prelude.{slice_get}
use Rattle.std.specs.Option.{option_map, option_and_then}
use Rattle.syntax.specs.declared.expression.Name.{Name}
use Rattle.syntax.specs.Expressions.{Ex as TreeEx, name, paren, array_type, spelled}
use Rattle.syntax.specs.Declarations.{Field, TypeSpec, Declaration}
use Rattle.type_faults.proofs.Options.{and_then_some, map_some}
use Rattle.struct_sizes.specs.Structs.{Prefixed, Fields}
use Rattle.names.specs.Scope.{Scope, declaration}
use Rattle.operand_parts.specs.ArrayTypes.{length_of}
use Rattle.expression_types.specs.Typing.{early_gives}
use Rattle.type_tables.specs.Types.{AreArrays, AllArrays}
use Rattle.declared_structs.specs.Forms.{base_in, plain, array_of, prefixed, field_types, struct_types, structs_in}
use Rattle.declared_structs.specs.Faults.{type_specs_in}
use Rattle.declared_structs.specs.Passing.{types_of}
use Rattle.declared_structs.proofs.Numbers.{structs_mapped}

-- each field that has a type has arrays alone
abbrev FieldsAre : Fields → Type 0
FieldsAre fs = (i : ℕ) (t : Prefixed) → slice_get fs i ≡ Some (Some t) → AreArrays t.prefixes

both_are : (fs gs : Fields) → FieldsAre fs → FieldsAre gs → FieldsAre (fs ++ gs)
both_are [] gs a b i t is = b i t is
both_are (f ∷ fs) gs a b zero t is = a zero t is
both_are (f ∷ fs) gs a b (suc i) t is = both_are fs gs (λ j. a (suc j)) b i t is

module _ (text : List ℕ) (s : Scope) where
  prefixed_are : (e : TreeEx) (t : Prefixed) → prefixed text s e ≡ Some t → AreArrays t.prefixes
  prefixed_are (name n) t is = let b = map_some plain (base_in (declaration s (spelled text n))) t is in subst (λ (u : Prefixed). AreArrays u.prefixes) b.2 tt
  prefixed_are (paren at e) t is = prefixed_are e t is
  prefixed_are (array_type at len e) t is =
      let a = and_then_some (λ n. option_map (array_of n) (prefixed text s e)) (option_and_then length_of (early_gives text s len)) t is in
      let b = map_some (array_of a.0) (prefixed text s e) t a.2 in
      subst (λ (u : Prefixed). AreArrays u.prefixes) b.2 (prefixed_are e b.0 b.1)
  prefixed_are e t is = absurd cc is

  names_are : (e : TreeEx) (ns : List Name) → FieldsAre (map (λ (n : Name). prefixed text s e) ns)
  names_are e [] i t is = absurd cc is
  names_are e (n ∷ ns) zero t is = prefixed_are e t (let same : prefixed text s e ≡ Some t = cc in same)
  names_are e (n ∷ ns) (suc i) t is = names_are e ns i t is

  struct_are : (xs : List Field) → FieldsAre (struct_types text s xs)
  struct_are [] i t is = absurd cc is
  struct_are (x ∷ xs) i t is = both_are (field_types text s x) (struct_types text s xs) (names_are x.type_expr x.names) (struct_are xs) i t is

  specs_are : (ts : List TypeSpec) (k i : ℕ) (fs : Fields) (t : Prefixed) → slice_get (map (types_of text s) ts) k ≡ Some fs → slice_get fs i ≡ Some (Some t) → AreArrays t.prefixes
  specs_are [] k i fs t is has = absurd cc is
  specs_are (x ∷ ts) zero i fs t is has = struct_are x.fields i t (let same : types_of text s x ≡ fs = cc in ap (λ l. slice_get l i) same ∙ has)
  specs_are (x ∷ ts) (suc k) i fs t is has = specs_are ts k i fs t is has

  pub structs_are : (ds : List Declaration) → AllArrays (structs_in text s ds)
  structs_are ds = subst AllArrays (sym (structs_mapped text s ds)) (specs_are (type_specs_in ds))
