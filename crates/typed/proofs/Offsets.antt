-- The words of fields, by those that are kept.
use Rattle.std.proofs.Common.{◌≡◌, ℕ, zero, suc, ◌+◌, ◌≤◌, List, [], ◌∷◌, length, min, take, sum_by, Option, None, Some, slice_get, refl, sym, ap, ap₂, subst, ◌∙◌, arith}
use Rattle.std.specs.Option.{unwrap_or, option_map, option_and_then}
use Rattle.std.proofs.lemmas.List.{take_min}
use Rattle.std.proofs.lemmas.List.Sums.{sum_by-cons, sum_by-take-le}
use Rattle.typed_syntax.specs.Types.{PartTypes, struct_of, no_types, width, widths, widths_before}
use Rattle.base.specs.declared.ids.TypeId.{TypeId}
use Rattle.typed.specs.declared.told.Told.{Told}
use Rattle.base.specs.declared.ids.StructId.{StructId}
use Rattle.base.specs.declared.value_type.ValueType.{ValueType}
use Rattle.base.specs.declared.value_type.ValueType.TheVariants.{Struct}
use Rattle.typed.specs.Tables.{Table, Holds, fields_of}
use Rattle.typed.specs.Words.{known}
use Rattle.typed.specs.Trees.{parts_by, tree_of, words_of, offset_in}
use Rattle.typed.specs.Formed.{IsFormed, tree_at, words_at, sum_of}
use Rattle.typed.specs.Memory.{table_of, IsCounted}
use Rattle.typed.proofs.Nested.{made, told_tree}
use Rattle.typed.proofs.Entered.{more_is}
use Rattle.typed.proofs.Counted.{kept_at}
use Rattle.typed.proofs.Telling.{sum_is}

offset_is : (T : Table) (es : List TypeId) (xs : PartTypes) (i : ℕ) → parts_by T (tree_of T) es ≡ Some xs → widths_before xs i ≡ sum_of T (take i es)
offset_is T [] xs zero p = let e : xs ≡ no_types = cc in ap (λ x. widths_before x 0) e
offset_is T [] xs (suc i) p = let e : xs ≡ no_types = cc in ap (λ x. widths_before x (suc i)) e
offset_is T (e ∷ es) xs zero p =
    let m = more_is (tree_at T e.0) (parts_by T (tree_of T) es) xs p in
    ap (λ x. widths_before x 0) (sym m.4)
offset_is T (e ∷ es) xs (suc i) p =
    let m = more_is (tree_at T e.0) (parts_by T (tree_of T) es) xs p in
    ap (λ x. widths_before x (suc i)) (sym m.4) ∙ ap₂ (λ a b. a + b) (sym (ap (λ o. unwrap_or (option_map width o) 0) m.2)) (offset_is T es m.1 i m.3)
    ∙ sym (sum_by-cons (λ e. unwrap_or (words_at T e.0) 0) e (take i es))

-- a struct that's told has the tree of its fields
pub struct_parts : (T : Table) → IsFormed T → (r : StructId) (fs : List TypeId) → fields_of T r.0 ≡ Some fs → (xs : PartTypes) × (parts_by T (tree_of T) fs ≡ Some xs) × (tree_of T (Struct r) ≡ Some (struct_of xs))
struct_parts T formed r fs p = by (parts_by T (tree_of T) fs) refl
  where
    tree : tree_of T (Struct r) ≡ option_map struct_of (parts_by T (tree_of T) fs)
    tree = made T formed (Struct r) ∙ ap (option_and_then (λ gs. option_map struct_of (parts_by T (tree_of T) gs))) p

    by : (o : Option PartTypes) → parts_by T (tree_of T) fs ≡ o → (xs : PartTypes) × (parts_by T (tree_of T) fs ≡ Some xs) × (tree_of T (Struct r) ≡ Some (struct_of xs))
    by None e = let x = told_tree T formed r fs p in absurd cc (tree ∙ ap (option_map struct_of) e, x.1)
    by (Some xs) e = (xs, e, tree ∙ ap (option_map struct_of) e)

module _ (types : List ValueType) (told : List (Option Told)) (words : List (Option ℕ)) (formed : IsFormed (table_of types told)) (counted : IsCounted (table_of types told) words told) where
  abbrev T : Table
  T = table_of types told

  known_is : (i : ℕ) → known words i ≡ unwrap_or (words_at T i) 0
  known_is i = ap (λ o. unwrap_or o 0) (kept_at types told words formed counted i)

  pub known_limit : (i : ℕ) → known words i ≤ 65535
  known_limit i = subst (λ n. n ≤ 65535) (sym (known_is i)) (by (slice_get types i) refl)
    where
      at : (u : ValueType) (o : Option ℕ) → Holds T i u → words_of T u ≡ o → unwrap_or o 0 ≤ 65535
      at u None h e = omega arith
      at u (Some w) h e = (formed.types i u w h e).1

      by : (o : Option ValueType) → slice_get types i ≡ o → unwrap_or (option_map width (option_and_then (tree_of T) o)) 0 ≤ 65535
      by None e = omega arith
      by (Some u) e = at u (words_of T u) e refl

  pub sum_known : (es : List TypeId) → sum_by (λ e. known words e.0) es ≡ sum_of T es
  sum_known es = λ j. sum_by (λ e. known_is e.0 j) es

  -- the words in front of a field
  pub offset_kept : (r : StructId) (fs : List TypeId) (i : ℕ) → fields_of T r.0 ≡ Some fs → sum_by (λ e. known words e.0) (take i fs) ≡ offset_in (tree_of T (Struct r)) i
  offset_kept r fs i p =
      let x = struct_parts T formed r fs p in
      sum_known (take i fs) ∙ sym (offset_is T fs x.0 i x.1) ∙ sym (ap (λ o. offset_in o i) x.2)

  -- are within the limit
  pub offset_limit : (r : StructId) (fs : List TypeId) (i : ℕ) → fields_of T r.0 ≡ Some fs → sum_by (λ e. known words e.0) (take i fs) ≤ 65535
  offset_limit r fs i p =
      let x = struct_parts T formed r fs p in
      let w : words_of T (Struct r) ≡ Some (widths x.0) = ap (option_map width) x.2 in
      let l = (formed.structs r (widths x.0) w).1 in
      let t = sum_by-take-le (λ e. known words e.0) fs i in
      let e : sum_by (λ e. known words e.0) fs ≡ widths x.0 = sum_known fs ∙ sym (sum_is T fs x.0 x.1) in
      omega arith

  -- the fields in front, by what contracts see
  pub front_is : (V : Table) → table_of types told ≡ V → (r : StructId) (fs : List TypeId) (i n : ℕ) (ws : List (Option ℕ)) → Some fs ≡ fields_of V r.0 → n ≡ min i (length fs) → ws ≡ words
      → (sum_by (λ e. known ws e.0) (take n fs) ≡ offset_in (tree_of V (Struct r)) i) × (sum_by (λ e. known ws e.0) (take n fs) ≤ 65535)
  front_is V v r fs i n ws some least kept =
      let p : fields_of T r.0 ≡ Some fs = ap (λ U. fields_of U r.0) v ∙ sym some in
      let e : sum_by (λ e. known ws e.0) (take n fs) ≡ sum_by (λ e. known words e.0) (take i fs) = ap₂ (λ ks es. sum_by (λ e. known ks e.0) es) kept (ap (λ k. take k fs) least ∙ take_min i fs) in
      (e ∙ offset_kept r fs i p ∙ ap (λ U. offset_in (tree_of U (Struct r)) i) v, subst (λ k. k ≤ 65535) (sym e) (offset_limit r fs i p))
