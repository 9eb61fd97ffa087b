-- Tables and scopes that more array types enter: what they have stays.
use Rattle.std.proofs.Common.{◌≡◌, ℕ, suc, ◌^◌, ◌≤◌, [], ◌∷◌, length, Option, Some, None, is_some, if◌then◌else◌, refl, sym, ap, ◌∙◌, arith, length-append}
use Rattle.std.specs.Option.{option_map}
use Rattle.std.proofs.lemmas.Option.{slice_get_within}
use Rattle.typed_syntax.specs.Types.{width}
use Rattle.base.specs.declared.value_type.ValueType.{ValueType}
use Rattle.base.specs.declared.value_type.ValueType.TheVariants.{Array}
use Rattle.typed.specs.declared.fault.TableFault.{TableFault}
use Rattle.typed.specs.Tables.{Table, Holds, number_of, with_type}
use Rattle.typed.specs.Trees.{tree_of}
use Rattle.typed.specs.Formed.{IsFormed, Stands, words_at, refusal}
use Rattle.typed.proofs.Numbers.{number_holds}
use Rattle.typed.proofs.Entered.{entered as longer, entered_grows, stands_placed, stays, words_there, formed_entered}
use Rattle.names.specs.Scope.{Scope}
use Rattle.entered_types.specs.Entered.{admitted, with_numbered, with_array, with_array_in}

-- ---- tables

-- a table has the types of another one, with their numbers and trees, and maybe more
pub record Grown (T U : Table) : Type 0 where
  pub numbers : (i : ℕ) (t : ValueType) → Holds T i t → Holds U i t
  pub longer : length T.types ≤ length U.types
  pub formed : IsFormed T → length U.types ≤ 2 ^ 32 → IsFormed U
  pub trees : IsFormed T → length U.types ≤ 2 ^ 32 → (i : ℕ) (t : ValueType) → Holds T i t → tree_of U t ≡ tree_of T t

same_table : (T : Table) → Grown T T
same_table T = record { numbers = λ i t h. h; longer = omega arith; formed = λ f l. f; trees = λ f l i t h. refl }

grown_on : (T U V : Table) → Grown T U → Grown U V → Grown T V
grown_on T U V a b = record {
  numbers = λ i t h. b.numbers i t (a.numbers i t h);
  longer = let x = a.longer in let y = b.longer in omega arith;
  formed = λ f l. b.formed (a.formed f (let y = b.longer in omega arith)) l;
  trees = λ f l i t h.
      let m : length U.types ≤ 2 ^ 32 = let y = b.longer in omega arith in
      b.trees (a.formed f m) l i t (a.numbers i t h) ∙ a.trees f m i t h;
}

longer_by_one : (T : Table) (t : ValueType) → length (longer T t).types ≡ suc (length T.types)
longer_by_one T t = omega (arith, length-append T.types (t ∷ []))

module _ (T : Table) (t : ValueType) (stands : Stands T t) where
  longer_grown : refusal T t ≡ None → number_of T t ≡ None → Grown T (longer T t)
  longer_grown fine none = record {
    numbers = (entered_grows T t).types;
    longer = let e = longer_by_one T t in omega arith;
    formed = λ f l. formed_entered T f t stands fine none (let e = longer_by_one T t in omega arith);
    trees = λ f l i u h. stays T f t u (stands_placed T f t i u h);
  }

  type_grown : refusal T t ≡ None → Grown T (with_type T t)
  type_grown fine = by (number_of T t) refl
    where
      by : (o : Option ℕ) → number_of T t ≡ o → Grown T (if is_some o then T else longer T t)
      by None is = longer_grown fine is
      by (Some i) is = same_table T

  admitted_grown : Grown T (admitted T t)
  admitted_grown = by (refusal T t) refl
    where
      by : (o : Option TableFault) → refusal T t ≡ o → Grown T (if is_some o then T else with_type T t)
      by None is = type_grown is
      by (Some e) is = same_table T

numbered_grown : (T : Table) (n : ℕ) (t : ValueType) (o : Option ℕ) → number_of T t ≡ o → Grown T (with_numbered T n o)
numbered_grown T n t None is = same_table T
numbered_grown T n t (Some e) is =
    admitted_grown T (Array n (record { 0 = e })) (slice_get_within T.types e t (number_holds T t e is))

array_grown : (T : Table) (n : Option ℕ) (t : Option ValueType) → Grown T (with_array T n t)
array_grown T None t = same_table T
array_grown T (Some n) None = same_table T
array_grown T (Some n) (Some t) = numbered_grown T n t (number_of T t) refl

-- a type keeps its words
pub words_stay : (T U : Table) → Grown T U → IsFormed T → length U.types ≤ 2 ^ 32 → (i : ℕ) (t : ValueType) → Holds T i t
    → words_at U i ≡ words_at T i
words_stay T U g f l i t h =
    words_there U i t (g.numbers i t h) ∙ ap (option_map width) (g.trees f l i t h) ∙ sym (words_there T i t h)

-- ---- scopes

-- a scope where array types have entered another one
pub record Leads (s t : Scope) : Type 0 where
  pub others : t ≡ record s { types = t.types }
  pub grown : Grown s.types t.types

pub same_scope : (s : Scope) → Leads s s
same_scope s = record { others = refl; grown = same_table s.types }

pub onwards : (r s t : Scope) → Leads r s → Leads s t → Leads r t
onwards r s t a b = record {
  others = b.others ∙ ap (λ (q : Scope). record q { types = t.types }) a.others;
  grown = grown_on r.types s.types t.types a.grown b.grown;
}

pub array_leads : (s : Scope) (n : Option ℕ) (t : Option ValueType) → Leads s (with_array_in s n t)
array_leads s n t = record { others = refl; grown = array_grown s.types n t }
