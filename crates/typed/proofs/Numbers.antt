-- The numbers of types.
use Rattle.std.proofs.Common.{◌≡◌, ℕ, ◌+◌, ◌<◌, ◌≤◌, Bool, true, false, not, cond, List, [], ◌∷◌, ◌++◌, length, get_or, nat_lt, position, None, Some, refl, sym, ap, ap₂, ◌∙◌, arith, length-append}
use Rattle.std.specs.List.{position_or_len}
use Rattle.std.proofs.lemmas.Bool.{lt-ltb, ltb-false}
use Rattle.std.proofs.lemmas.Option.{slice_get-get_or, slice_get_within, get_or_from_slice_get}
use Rattle.std.proofs.lemmas.List.Sums.{prefix_len_passes, position_or_len_is}
use Rattle.std.proofs.lemmas.List.Quantifiers.{position-Some}
use Rattle.std.proofs.Math.ListN.{get_or-append}
use Rattle.std.proofs.Math.Seq.{get_or-append_seam}
use Rattle.base.specs.declared.value_type.ValueType.{ValueType}
use Rattle.base.specs.declared.value_type.ValueType.TheVariants.{Int, Bool as Truth, Struct, Array, Pointer, Slice}
use Rattle.base.specs.contracts.value_type.ValueTypePartialEq.TheImpl.{eq-value}
use Rattle.base.specs.Types.{same_type}
use Rattle.base.proofs.Types.{same_is, same_self}
use Rattle.typed.specs.Tables.{Table, Holds, number_of}

pub number_holds : (T : Table) (t : ValueType) (i : ℕ) → number_of T t ≡ Some i → Holds T i t
number_holds T t i p =
    let f = position-Some (same_type t) T.types i Int p in
    slice_get-get_or T.types i Int f.0 ∙ ap (λ u. Some u) (sym (same_is t (get_or T.types i Int) f.1))

-- where no type passes, the first place is after them all
first_behind : (t : ValueType) (ts : List ValueType) → position (same_type t) ts ≡ None → length ts ≤ position_or_len (same_type t) ts
first_behind t ts p = by (nat_lt (position_or_len (same_type t) ts) (length ts)) refl p
  where
    by : (b : Bool) → nat_lt (position_or_len (same_type t) ts) (length ts) ≡ b → cond b (Some (position_or_len (same_type t) ts)) None ≡ None → length ts ≤ position_or_len (same_type t) ts
    by true e q = absurd cc q
    by false e q = ltb-false (position_or_len (same_type t) ts) (length ts) e

differs : (t u : ValueType) → not (same_type t u) ≡ true → t ≡ u → ⊥
differs t u p e = cc (p, same_self t, e)

pub lacks : (T : Table) (t : ValueType) (i : ℕ) → number_of T t ≡ None → Holds T i t → ⊥
lacks T t i none h =
    let l : i < length T.types = slice_get_within T.types i t h in
    let b : length T.types ≤ position_or_len (same_type t) T.types = first_behind t T.types none in
    let f = prefix_len_passes (λ u. not (same_type t u)) T.types i Int (omega arith) in
    differs t (get_or T.types i Int) f (sym (get_or_from_slice_get T.types i t Int h))

not-true : (b : Bool) → not b ≡ true → b ≡ false
not-true true p = absurd cc p
not-true false p = refl

pub last_number : (T : Table) (t : ValueType) → number_of T t ≡ None → number_of (record T { types = T.types ++ t ∷ [] }) t ≡ Some (length T.types)
last_number T t none =
    let n = length T.types in
    let q = position_or_len (same_type t) (T.types ++ t ∷ []) in
    let b : n ≤ position_or_len (same_type t) T.types = first_behind t T.types none in
    let l : length (T.types ++ t ∷ []) ≡ n + 1 = length-append T.types (t ∷ []) in
    let e : q ≡ n = position_or_len_is (same_type t) (T.types ++ t ∷ []) n Int (omega arith)
    (λ k h. ap (same_type t) (get_or-append T.types (t ∷ []) Int k h) ∙ not-true (same_type t (get_or T.types k Int)) (prefix_len_passes (λ u. not (same_type t u)) T.types k Int (omega arith)))
    (λ h. ap (same_type t) (get_or-append_seam T.types t [] Int) ∙ same_self t) in
    ap₂ (λ (a : Bool) (i : ℕ). cond a (Some i) None) (lt-ltb q (length (T.types ++ t ∷ [])) (omega arith)) e

-- the test that is derived is this one
derived_same : (t u : ValueType) → eq-value.it t u ≡ same_type t u
derived_same Int Int = refl
derived_same Int Truth = refl
derived_same Int (Struct r) = refl
derived_same Int (Array m f) = refl
derived_same Int (Pointer f) = refl
derived_same Int (Slice f) = refl
derived_same Truth Int = refl
derived_same Truth Truth = refl
derived_same Truth (Struct r) = refl
derived_same Truth (Array m f) = refl
derived_same Truth (Pointer f) = refl
derived_same Truth (Slice f) = refl
derived_same (Struct s) Int = refl
derived_same (Struct s) Truth = refl
derived_same (Struct s) (Struct r) = refl
derived_same (Struct s) (Array m f) = refl
derived_same (Struct s) (Pointer f) = refl
derived_same (Struct s) (Slice f) = refl
derived_same (Array n e) Int = refl
derived_same (Array n e) Truth = refl
derived_same (Array n e) (Struct r) = refl
derived_same (Array n e) (Array m f) = refl
derived_same (Array n e) (Pointer f) = refl
derived_same (Array n e) (Slice f) = refl
derived_same (Pointer e) Int = refl
derived_same (Pointer e) Truth = refl
derived_same (Pointer e) (Struct r) = refl
derived_same (Pointer e) (Array m f) = refl
derived_same (Pointer e) (Pointer f) = refl
derived_same (Pointer e) (Slice f) = refl
derived_same (Slice e) Int = refl
derived_same (Slice e) Truth = refl
derived_same (Slice e) (Struct r) = refl
derived_same (Slice e) (Array m f) = refl
derived_same (Slice e) (Pointer f) = refl
derived_same (Slice e) (Slice f) = refl

pub equal_same : eq-value.it ≡ same_type
equal_same = λ j t u. derived_same t u j
