-- Types with pointers, by the table.
use Rattle.std.proofs.Common.{◌≡◌, ◌⊎◌, inl, inr, nat_lt, replicate, ℕ, zero, suc, ◌<◌, ◌≤◌, ◌||◌, Bool, true, false, List, [], ◌∷◌, length, get_or, map, Option, Some, None, IfSome, slice_get, slice_set, refl, ap, ap₂, sym, subst, ◌∙◌, arith}
use Rattle.std.specs.List.{list_any}
use Rattle.std.specs.Option.{unwrap_or, option_map, option_and_then}
use Rattle.typed_syntax.specs.Types.{TypeTree, PartTypes, ints, array_of, no_types}
use Rattle.base.specs.declared.ids.TypeId.{TypeId}
use Rattle.base.specs.declared.value_type.ValueType.{ValueType}
use Rattle.base.specs.declared.value_type.ValueType.TheVariants.{Int, Bool as Truth, Struct, Array, Pointer, Slice}
use Rattle.typed.specs.Tables.{Table, Holds, type_at, fields_of, number_of}
use Rattle.typed.specs.Trees.{parts_by, tree_of, tree_named}
use Rattle.typed.specs.Formed.{IsFormed, tree_at}
use Rattle.std.proofs.lemmas.Bool.{ltb-true, ltb-false}
use Rattle.std.proofs.lemmas.Option.{slice_get-get_or}
use Rattle.typed.proofs.Numbers.{lacks}
use Rattle.typed.proofs.Nested.{made, untold_tree}
use Rattle.typed.proofs.Entered.{more_is}
use Rattle.typed.proofs.Offsets.{struct_parts}
use Rattle.typed_flows.specs.Pointers.{has_pointers, have_pointers}
use Rattle.typed_flows.specs.Known.{AreKnown, AreAll, has_by}

named_in : (f : ValueType → Option TypeTree) (ts : List ValueType) (i : ℕ) → get_or (map (λ t. unwrap_or (f t) ints) ts) i ints ≡ unwrap_or (option_and_then f (slice_get ts i)) ints
named_in f [] i = refl
named_in f (t ∷ ts) zero = refl
named_in f (t ∷ ts) (suc i) = named_in f ts i

named : (T : Table) (i : ℕ) → tree_named T i ≡ unwrap_or (tree_at T i) ints
named T i = named_in (tree_of T) T.types i

get_map : (f : ValueType → TypeTree) (ts : List ValueType) (i : ℕ) (d : ValueType) (e : TypeTree) → f d ≡ e → get_or (map f ts) i e ≡ f (get_or ts i d)
get_map f [] i d e p = sym p
get_map f (t ∷ ts) zero d e p = refl
get_map f (t ∷ ts) (suc i) d e p = get_map f ts i d e p

fields_have : (T : Table) (es : List TypeId) (xs : PartTypes) → parts_by T (tree_of T) es ≡ Some xs → have_pointers xs ≡ list_any (λ e. has_pointers (tree_named T e.0)) es
fields_have T [] xs p = let e : no_types ≡ xs = cc in ap have_pointers (sym e)
fields_have T (e ∷ es) xs p =
    let m = more_is (tree_at T e.0) (parts_by T (tree_of T) es) xs p in
    let first : has_pointers m.0 ≡ has_pointers (tree_named T e.0) = ap has_pointers (sym (named T e.0 ∙ ap (λ o. unwrap_or o ints) m.2)) in
    ap have_pointers (sym m.4) ∙ ap₂ (λ a b. a || b) first (fields_have T es m.1 m.3)

module _ (T : Table) (formed : IsFormed T) where
  tree_has : (t : ValueType) → has_pointers (unwrap_or (tree_of T t) ints) ≡ has_by T t
  tree_has Int = ap (λ o. has_pointers (unwrap_or o ints)) (made T formed Int)
  tree_has Truth = ap (λ o. has_pointers (unwrap_or o ints)) (made T formed Truth)
  tree_has (Pointer e) = ap (λ o. has_pointers (unwrap_or o ints)) (made T formed (Pointer e))
  tree_has (Slice e) = ap (λ o. has_pointers (unwrap_or o ints)) (made T formed (Slice e))
  tree_has (Array n e) = ap (λ o. has_pointers (unwrap_or o ints)) (made T formed (Array n e)) ∙ by (tree_at T e.0) ∙ sym (ap has_pointers (named T e.0))
    where
      by : (o : Option TypeTree) → has_pointers (unwrap_or (option_map (array_of n) o) ints) ≡ has_pointers (unwrap_or o ints)
      by None = refl
      by (Some x) = refl
  tree_has (Struct s) = by (fields_of T s.0) refl
    where
      by : (o : Option (List TypeId)) → fields_of T s.0 ≡ o → has_pointers (unwrap_or (tree_of T (Struct s)) ints) ≡ list_any (λ e. has_pointers (tree_named T e.0)) (unwrap_or o [])
      by None p = ap (λ o. has_pointers (unwrap_or o ints)) (untold_tree T s p)
      by (Some fs) p =
          let x = struct_parts T formed s fs p in
          ap (λ o. has_pointers (unwrap_or o ints)) x.2 ∙ fields_have T fs x.0 x.1

  pub named_has : (i : ℕ) → has_pointers (tree_named T i) ≡ has_by T (type_at T i)
  named_has i =
      let int_tree : unwrap_or (tree_of T Int) ints ≡ ints = ap (λ o. unwrap_or o ints) (made T formed Int) in
      ap has_pointers (get_map (λ t. unwrap_or (tree_of T t) ints) T.types i Int ints int_tree) ∙ tree_has (type_at T i)

-- what is known after one more is known
set_get : (ks : List (Option Bool)) (m j : ℕ) (v : Option Bool) (b : Bool) → get_or (slice_set ks m v) j None ≡ Some b → (get_or ks j None ≡ Some b) ⊎ ((j ≡ m) × (v ≡ Some b))
set_get [] m j v b p = inl p
set_get (k ∷ ks) zero zero v b p = inr (refl, p)
set_get (k ∷ ks) zero (suc j) v b p = inl p
set_get (k ∷ ks) (suc m) zero v b p = inl p
set_get (k ∷ ks) (suc m) (suc j) v b p = by (set_get ks m j v b p)
  where
    by : (get_or ks j None ≡ Some b) ⊎ ((j ≡ m) × (v ≡ Some b)) → (get_or ks j None ≡ Some b) ⊎ ((suc j ≡ suc m) × (v ≡ Some b))
    by (inl q) = inl q
    by (inr q) = inr (ap suc q.0, q.1)

pub set_known : (T : Table) (known : List (Option Bool)) (n : ℕ) (v : Option Bool) → AreKnown T known → IfSome v (λ b. b ≡ has_pointers (tree_named T n)) → AreKnown T (slice_set known n v)
set_known T known n v are is i b p = by (set_get known n i v b p)
  where
    by : (get_or known i None ≡ Some b) ⊎ ((i ≡ n) × (v ≡ Some b)) → b ≡ has_pointers (tree_named T i)
    by (inl q) = are i b q
    by (inr q) = let at : b ≡ has_pointers (tree_named T n) = subst (λ o. IfSome o (λ b. b ≡ has_pointers (tree_named T n))) q.1 is in at ∙ ap (λ k. has_pointers (tree_named T k)) (sym q.0)

-- nothing is known at first
pub none_known : (T : Table) (n : ℕ) → AreKnown T (replicate n None)
none_known T zero i b p = absurd cc p
none_known T (suc n) zero b p = absurd cc p
none_known T (suc n) (suc i) b p = absurd (none_at n i b p)
  where
    none_at : (n i : ℕ) (b : Bool) → get_or (replicate n None) i None ≡ Some b → ⊥
    none_at zero i b p = cc p
    none_at (suc n) zero b p = cc p
    none_at (suc n) (suc i) b p = none_at n i b p

-- where all numbers of types are known, all are
some_at : (bs : List Bool) (i : ℕ) → i < length bs → get_or (map (λ b. Some b) bs) i None ≡ Some (get_or bs i false)
some_at [] i l = absurd (omega (arith, l))
some_at (b ∷ bs) zero l = refl
some_at (b ∷ bs) (suc i) l = some_at bs i (omega (arith, l))

past_end : (bs : List Bool) (i : ℕ) → length bs ≤ i → get_or bs i false ≡ false
past_end [] i l = refl
past_end (b ∷ bs) zero l = absurd (omega (arith, l))
past_end (b ∷ bs) (suc i) l = past_end bs i (omega (arith, l))

ints_past : (ts : List ValueType) (f : ValueType → TypeTree) (i : ℕ) → length ts ≤ i → get_or (map f ts) i ints ≡ ints
ints_past [] f i l = refl
ints_past (t ∷ ts) f zero l = absurd (omega (arith, l))
ints_past (t ∷ ts) f (suc i) l = ints_past ts f i (omega (arith, l))

pub all_are : (T : Table) (known : List (Option Bool)) (all : List Bool) → AreKnown T known → map (λ b. Some b) all ≡ known → length T.types ≤ length all → AreAll T all
all_are T known all are is long i = by (nat_lt i (length all)) refl
  where
    by : (b : Bool) → nat_lt i (length all) ≡ b → get_or all i false ≡ has_pointers (tree_named T i)
    by true l = are i (get_or all i false) (ap (λ ks. get_or ks i None) (sym is) ∙ some_at all i (ltb-true i (length all) l))
    by false l =
        let n : length all ≤ i = ltb-false i (length all) l in
        past_end all i n ∙ sym (ap has_pointers (ints_past T.types (λ t. unwrap_or (tree_of T t) ints) i (omega (arith, n, long))))

-- a number whose type has another number, or none, stands for no type
pub behind_all : (T : Table) → IsFormed T → (i : ℕ) (o : Option TypeId) → option_map (λ id. id.0) o ≡ number_of T (type_at T i) → IfSome o (λ id. Holds T id.0 (type_at T i)) → (o ≡ Some (record { 0 = i }) → ⊥) → length T.types ≤ i
behind_all T formed i o is held other = by (nat_lt i (length T.types)) refl
  where
    at : i < length T.types → Holds T i (type_at T i)
    at l = slice_get-get_or T.types i Int l

    by : (b : Bool) → nat_lt i (length T.types) ≡ b → length T.types ≤ i
    by false l = ltb-false i (length T.types) l
    by true l = absurd (stands o is held other (ltb-true i (length T.types) l))
      where
        stands : (o : Option TypeId) → option_map (λ id. id.0) o ≡ number_of T (type_at T i) → IfSome o (λ id. Holds T id.0 (type_at T i)) → (o ≡ Some (record { 0 = i }) → ⊥) → i < length T.types → ⊥
        stands None none held other l = lacks T (type_at T i) i (sym none) (at l)
        stands (Some id) none held other l = other (ap (λ k. Some (record { 0 = k })) (formed.once id.0 i (type_at T i) held (at l)))

pub behind_none : (T : Table) → IsFormed T → (i : ℕ) → None ≡ number_of T (type_at T i) → length T.types ≤ i
behind_none T formed i p = behind_all T formed i None p tt (λ e. cc e)

pub known_is : (T : Table) (known : List (Option Bool)) (i : ℕ) (o : Option Bool) → AreKnown T known → o ≡ get_or known i None → IfSome o (λ b. b ≡ has_pointers (tree_named T i))
known_is T known i None are p = tt
known_is T known i (Some b) are p = are i b (sym p)

length_all : (bs : List Bool) → length (map (λ b. Some b) bs) ≡ length bs
length_all [] = refl
length_all (b ∷ bs) = omega (arith, length_all bs)

pub all_numbered : (T : Table) (known : List (Option Bool)) (all : List Bool) (n : ℕ) → AreKnown T known → map (λ b. Some b) all ≡ known → length known ≡ n → length T.types ≤ n → AreAll T all
all_numbered T known all n are is long few = all_are T known all are is (let same : length (map (λ b. Some b) all) ≡ length known = ap length is in omega (arith, length_all all, same, long, few))
