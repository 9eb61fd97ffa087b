-- A type that an expression states among the names of a package is the one that it states in the package block.
use Rattle.std.proofs.Common.{◌≡◌, inl, inr, ℕ, List, length, Option, Some, refl, sym, ap, ap₂, ◌∙◌, subst}
use Rattle.std.specs.Prelude.{option_and_then}
use Rattle.base.specs.declared.value_type.ValueType.{ValueType}
use Rattle.base.specs.declared.value_type.ValueType.TheVariants.{Int, Bool as Boolean}
use Rattle.syntax.specs.Expressions.{Ex as TreeEx, name, paren, array_type, spelled}
use Rattle.syntax.specs.Declarations.{Syntax}
use Rattle.type_faults.proofs.Options.{and_then_some, none_some}
use Rattle.typed.specs.Tables.{Table}
use Rattle.names.specs.Scope.{Scope, beginning}
use Rattle.names.specs.Types.{declared_type, array_type as array_of}
use Rattle.operand_parts.specs.ArrayTypes.{length_of, array_with}
use Rattle.expression_types.specs.Typing.{stated_type, early_gives}
use Rattle.entered_types.specs.Entered.{OnlyEnters}
use Rattle.entered_types.proofs.Keeping.{keeps_all}
use Rattle.type_tables.specs.Told.{sized_structs}
use Rattle.package_values.specs.Values.{items_in}
use Rattle.signatures.specs.Signatures.{with_heads}
use Rattle.types_go.specs.Functions.{declarations_in, constants_scope, structs_of, heads_with, IsHeads, declared_scope, package_scope}
use Rattle.types_go.proofs.Alike.{Alike, declaration_alike, retyped, package_alike}
use Rattle.types_go.proofs.Constants.{length_kept}
use Rattle.types_go.proofs.Settling.{settled_alike}
use Rattle.types_go.proofs.BasicTypes.{HasBasic, int_known, bool_known, structs_have}

-- in scopes that declare alike, with the same types
module _ (text : List ℕ) (T : Table) (r s : Scope) (a : Alike T r s) (types : r.types ≡ T) where
  same_types : r.types ≡ s.types
  same_types = types ∙ sym a.types

  array_stays : (n m : Option ℕ) (t o : Option ValueType) (u : ValueType) → ((k : ℕ) → n ≡ Some k → m ≡ Some k)
      → ((x : ValueType) → t ≡ Some x → o ≡ Some x) → array_with r.types n t ≡ Some u → array_with s.types m o ≡ Some u
  array_stays n m t o u length_stays type_stays h =
      let p = and_then_some (λ k. option_and_then (array_of r.types k) t) n u h in
      let q = and_then_some (array_of r.types p.0) t u p.2 in
      ap₂ (array_with s.types) (length_stays p.0 p.1) (type_stays q.0 q.1)
      ∙ ap (λ (U : Table). array_of U p.0 q.0) (sym same_types) ∙ q.2

  pub stated_kept : (e : TreeEx) (u : ValueType) → stated_type text r e ≡ Some u → stated_type text s e ≡ Some u
  stated_kept (name n) u h = elim (declaration_alike T r s a (spelled text n)) [
    | inl same ↦ ap₂ declared_type (sym same_types) (sym same) ∙ h
    | inr untyped ↦ absurd (none_some (sym (ap (declared_type r.types) untyped) ∙ h))
  ]
  stated_kept (paren at e) u h = stated_kept e u h
  stated_kept (array_type at len e) u h =
      let length_in = λ (q : Scope). option_and_then length_of (early_gives text q len) in
      array_stays (length_in r) (length_in s) (stated_type text r e) (stated_type text s e) u (length_kept text T r s a len)
      (stated_kept e) h
  stated_kept e u h = absurd (none_some h)

module _ (t : Syntax) (h : Scope) (heads : IsHeads t h) where
  -- only types enter
  entering : OnlyEnters (record (constants_scope t) { types = heads.table }) (heads_with t heads.table)
  entering = keeps_all t.text (record (constants_scope t) { types = heads.table }) (declarations_in t)

  only_types : h ≡ record (constants_scope t) { types = h.types }
  only_types = heads.is ∙ entering.others ∙ ap (λ (q : Scope). record (constants_scope t) { types = q.types }) (sym heads.is)

  table_has : HasBasic heads.table
  table_has =
      let found = heads.is_table.0 in
      let structs = sized_structs (structs_of t) found.verdicts.items in
      subst HasBasic (sym heads.is_table.2) (structs_have structs (length (structs_of t)))

  -- the basic types are known there
  pub has_basic : HasBasic h.types
  has_basic =
      subst (λ (q : Scope). HasBasic q.types) (sym heads.is)
      (record { int = entering.numbers 0 Int table_has.int; bool = entering.numbers 1 Boolean table_has.bool })

  -- the names and the package block declare alike
  pub heads_alike : Alike h.types h (package_scope t h)
  heads_alike =
      let first = with_heads t.text beginning (declarations_in t) in
      let settled = settled_alike t.text h.types (int_known h.types has_basic) (bool_known h.types has_basic) first
      (declared_scope t h) (items_in (declarations_in t)) (package_alike h.types t.text h (declarations_in t)) in
      subst (λ (q : Scope). Alike h.types q (package_scope t h)) (sym only_types)
      (retyped h.types (constants_scope t) (package_scope t h) settled h.types)

pub heads_hold : (t : Syntax) (h : Scope) → IsHeads t h → (e : TreeEx) (u : ValueType) → stated_type t.text h e ≡ Some u
    → stated_type t.text (package_scope t h) e ≡ Some u
heads_hold t h heads e u stated = stated_kept t.text h.types h (package_scope t h) (heads_alike t h heads) refl e u stated
