-- A type that a table knows has a number there, and a tree whose values have a word at least.
use Rattle.std.proofs.Common.{◌≡◌, ◌<◌, arith, ℕ, zero, suc, true, List, [], ◌∷◌, map, get_or, Option, Some, None, refl, sym, ap, ◌∙◌, subst}
use Rattle.std.specs.Prelude.{is_some, option_and_then, slice_get}
use Rattle.std.specs.Option.{option_map, unwrap_or}
use Rattle.typed.specs.Tables.{Table, Holds, number_of}
use Rattle.typed.specs.Trees.{tree_of, tree_named}
use Rattle.typed.specs.Formed.{IsFormed, tree_at, words_at}
use Rattle.typed.proofs.Numbers.{number_holds, lacks}
use Rattle.typed.proofs.Nested.{made}
use Rattle.typed.proofs.Beginning.{formed_basic}
use Rattle.typed_syntax.specs.Types.{TypeTree, ints, bools, width}
use Rattle.base.specs.declared.value_type.ValueType.{ValueType}
use Rattle.base.specs.declared.value_type.ValueType.TheVariants.{Int, Bool as Truth}
use Rattle.names.specs.Scope.{type_number, type_tree, basic_table}
use Rattle.names.specs.Types.{is_known}

pub formed_beginning : IsFormed basic_table
formed_beginning = formed_basic 0

-- the tree of a type stands at each number that the type has
mapped : (T : Table) (ts : List ValueType) (i : ℕ) (t : ValueType) → slice_get ts i ≡ Some t → get_or (map (λ u. unwrap_or (tree_of T u) ints) ts) i ints ≡ unwrap_or (tree_of T t) ints
mapped T [] i t is = cc is
mapped T (u ∷ us) zero t is = let e : u ≡ t = cc is in ap (λ v. unwrap_or (tree_of T v) ints) e
mapped T (u ∷ us) (suc i) t is = mapped T us i t is

pub tree_there : (T : Table) (i : ℕ) (t : ValueType) → Holds T i t → tree_named T i ≡ unwrap_or (tree_of T t) ints
tree_there T i t is = mapped T T.types i t is

-- each number of a table is that of a type whose values have a word at least; what has no tree counts as a whole number
solid_tree : (T : Table) → IsFormed T → (i : ℕ) (o : Option ValueType) → slice_get T.types i ≡ o → 0 < width (unwrap_or (option_and_then (tree_of T) o) ints)
solid_tree T formed i None is = omega arith
solid_tree T formed i (Some t) is = by (tree_of T t) refl
  where
    by : (o : Option TypeTree) → tree_of T t ≡ o → 0 < width (unwrap_or o ints)
    by None e = omega arith
    by (Some x) e = (formed.types i t (width x) is (ap (option_map width) e)).0

pub named_tree : (T : Table) (ts : List ValueType) (i : ℕ) → get_or (map (λ u. unwrap_or (tree_of T u) ints) ts) i ints ≡ unwrap_or (option_and_then (tree_of T) (slice_get ts i)) ints
named_tree T [] i = refl
named_tree T (u ∷ us) zero = refl
named_tree T (u ∷ us) (suc i) = named_tree T us i

pub solid : (T : Table) → IsFormed T → (i : ℕ) → 0 < width (tree_named T i)
solid T formed i = subst (λ x. 0 < width x) (sym (named_tree T T.types i)) (solid_tree T formed i (slice_get T.types i) refl)

pub tree_held : (T : Table) (t : ValueType) (i : ℕ) → Holds T i t → tree_at T i ≡ tree_of T t
tree_held T t i h = ap (option_and_then (tree_of T)) h

module _ (T : Table) (formed : IsFormed T) where
  -- a type's number is the one at which it stands
  number_is : (t : ValueType) (i : ℕ) → Holds T i t → type_number T t ≡ i
  number_is t i h = by (number_of T t) refl
    where
      by : (o : Option ℕ) → number_of T t ≡ o → unwrap_or o 0 ≡ i
      by None n = absurd (lacks T t i n h)
      by (Some j) n = formed.once j i t (number_holds T t j n) h

  pub tree_is : (t : ValueType) (i : ℕ) → Holds T i t → type_tree T t ≡ unwrap_or (tree_of T t) ints
  tree_is t i h = ap (tree_named T) (number_is t i h) ∙ tree_there T i t h

  known_by : (t : ValueType) (i : ℕ) (x : TypeTree) → Holds T i t → tree_of T t ≡ Some x → is_known T t ≡ true
  known_by t i x h tree = by (number_of T t) refl
    where
      by : (o : Option ℕ) → number_of T t ≡ o → is_some (option_and_then (words_at T) o) ≡ true
      by None n = absurd (lacks T t i n h)
      by (Some j) n = ap (λ o. is_some (option_map width o)) (tree_held T t j (number_holds T t j n) ∙ tree)

  int_of : tree_of T Int ≡ Some ints
  int_of = made T formed Int

  truth_of : tree_of T Truth ≡ Some bools
  truth_of = made T formed Truth

  pub int_known : is_known T Int ≡ true
  int_known = known_by Int 0 ints formed.int int_of

  pub bool_known : is_known T Truth ≡ true
  bool_known = known_by Truth 1 bools formed.bool truth_of

  pub int_tree : type_tree T Int ≡ ints
  int_tree = tree_is Int 0 formed.int ∙ ap (λ o. unwrap_or o ints) int_of

  pub bool_tree : type_tree T Truth ≡ bools
  bool_tree = tree_is Truth 1 formed.bool ∙ ap (λ o. unwrap_or o ints) truth_of
