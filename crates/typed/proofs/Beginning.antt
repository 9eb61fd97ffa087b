-- A table of the basic types.
use Rattle.std.proofs.Common.{◌≡◌, ℕ, zero, suc, List, [], ◌∷◌, replicate, None, Some, slice_get, refl, sym, ap, ap₂, subst, ◌∙◌, arith}
use Rattle.std.specs.Option.{option_map}
use Rattle.typed_syntax.specs.Types.{width}
use Rattle.typed.specs.declared.told.Told.{Told}
use Rattle.base.specs.declared.ids.StructId.{StructId}
use Rattle.base.specs.declared.value_type.ValueType.{ValueType}
use Rattle.base.specs.declared.value_type.ValueType.TheVariants.{Int, Bool as Truth, Struct}
use Rattle.typed.specs.Tables.{Table, fields_of}
use Rattle.typed.specs.Words.{IsInLimits}
use Rattle.typed.specs.Trees.{words_of}
use Rattle.typed.specs.Formed.{IsFormed, IsPlaced, TreesAreMade}
use Rattle.typed.specs.Memory.{table_of, IsCounted}
use Rattle.typed.proofs.Nested.{IsDeep, made_by}
use Rattle.typed.proofs.Counted.{untold_words_by}

abbrev pub basic : List ValueType
basic = Int ∷ Truth ∷ []

-- whatever holds of the basic types holds of each type with a number
basic_only : (P : ℕ → ValueType → Type 0) → P 0 Int → P 1 Truth → (i : ℕ) (t : ValueType) → slice_get basic i ≡ Some t → P i t
basic_only P a b zero t h = let e : Int ≡ t = cc in subst (P 0) e a
basic_only P a b (suc zero) t h = let e : Truth ≡ t = cc in subst (P 1) e b
basic_only P a b (suc (suc i)) t h = absurd cc h

basic_once : (i j : ℕ) (t : ValueType) → slice_get basic i ≡ Some t → slice_get basic j ≡ Some t → i ≡ j
basic_once zero zero t a b = refl
basic_once zero (suc zero) t a b = absurd cc (a, b)
basic_once zero (suc (suc j)) t a b = absurd cc b
basic_once (suc zero) zero t a b = absurd cc (a, b)
basic_once (suc zero) (suc zero) t a b = refl
basic_once (suc zero) (suc (suc j)) t a b = absurd cc b
basic_once (suc (suc i)) j t a b = absurd cc a

none_told : (n s : ℕ) → fields_of (table_of basic (replicate n None)) s ≡ None
none_told zero s = refl
none_told (suc n) zero = refl
none_told (suc n) (suc s) = none_told n s

none_at : (n s : ℕ) (t : Told) → slice_get (replicate n None) s ≡ Some (Some t) → ⊥
none_at zero s t p = absurd cc p
none_at (suc n) zero t p = absurd cc p
none_at (suc n) (suc s) t p = none_at n s t p

module _ (n : ℕ) where
  abbrev table : Table
  table = table_of basic (replicate n None)

  basic_deep : IsDeep table
  basic_deep = record { placed = basic_only IsPlaced tt tt; nested = λ s fields p. absurd cc (none_told n s.0, p) }

  basic_made : TreesAreMade table
  basic_made = made_by table basic_deep

  one_word : (t : ValueType) (w : ℕ) → words_of table t ≡ Some 1 → words_of table t ≡ Some w → IsInLimits w
  one_word t w a p = let e : 1 ≡ w = cc (sym a ∙ p) in (omega arith, omega arith)

  int_word : words_of table Int ≡ Some 1
  int_word = ap (option_map width) (basic_made Int)

  truth_word : words_of table Truth ≡ Some 1
  truth_word = ap (option_map width) (basic_made Truth)

  untold : (s : StructId) → words_of table (Struct s) ≡ None
  untold s = untold_words_by table basic_made s (none_told n s.0)

  pub formed_basic : IsFormed table
  formed_basic = record {
    int = refl;
    bool = refl;
    once = basic_once;
    placed = basic_deep.placed;
    nested = basic_deep.nested;
    numbers = omega arith;
    types = λ i t w h p. basic_only (λ i t. words_of table t ≡ Some w → IsInLimits w) (one_word Int w int_word) (one_word Truth w truth_word) i t h p;
    structs = λ s w p. absurd cc (untold s, p);
  }

  pub counted_basic : IsCounted table (Some 1 ∷ Some 1 ∷ []) (replicate n None)
  counted_basic = record { types = ap₂ (λ a b. a ∷ b ∷ []) (sym int_word) (sym truth_word); structs = λ s t p. absurd (none_at n s.0 t p) }
