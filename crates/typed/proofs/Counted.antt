-- What is kept of words is what the trees have.
use Rattle.std.proofs.Common.{◌≡◌, ℕ, zero, suc, ◌*◌, List, [], ◌∷◌, get_or, map, Option, None, Some, slice_get, refl, sym, ap, ◌∙◌}
use Rattle.std.specs.Option.{unwrap_or, option_map, option_and_then}
use Rattle.typed_syntax.specs.Types.{struct_of, array_of, width}
use Rattle.base.specs.declared.ids.TypeId.{TypeId}
use Rattle.typed.specs.declared.told.Told.{Told}
use Rattle.base.specs.declared.ids.StructId.{StructId}
use Rattle.base.specs.declared.value_type.ValueType.{ValueType}
use Rattle.base.specs.declared.value_type.ValueType.TheVariants.{Int, Bool as Truth, Struct, Array, Pointer, Slice}
use Rattle.typed.specs.Tables.{Table, fields_of}
use Rattle.typed.specs.Words.{allowed, within_limit}
use Rattle.typed.specs.Trees.{parts_by, tree_of, words_of}
use Rattle.typed.specs.Formed.{IsFormed, TreesAreMade, tree_at, words_at, least_words}
use Rattle.typed.specs.Memory.{fields_in, table_of, IsCounted, struct_words, words_by, least_by}
use Rattle.typed.proofs.Limits.{within_some}
use Rattle.typed.proofs.Nested.{made}

map_map : {A B C : Type 0} (f : A → B) (h : B → C) (k : A → C) (o : Option A) → ((a : A) → h (f a) ≡ k a) → option_map h (option_map f o) ≡ option_map k o
map_map f h k None same = refl
map_map f h k (Some a) same = ap (λ x. Some x) (same a)

map_then : {A B C : Type 0} (f : A → Option B) (h : B → C) (o : Option A) → option_map h (option_and_then f o) ≡ option_and_then (λ a. option_map h (f a)) o
map_then f h None = refl
map_then f h (Some a) = refl

-- the item of a map at an index, which is none past its end
get_map : (f : ValueType → Option ℕ) (ts : List ValueType) (i : ℕ) → get_or (map f ts) i None ≡ option_and_then f (slice_get ts i)
get_map f [] i = refl
get_map f (t ∷ ts) zero = refl
get_map f (t ∷ ts) (suc i) = get_map f ts i

-- words that are mapped over the types are those of the types by their numbers
pub words_mapped : (T : Table) (i : ℕ) → get_or (map (words_of T) T.types) i None ≡ words_at T i
words_mapped T i = get_map (words_of T) T.types i ∙ sym (map_then (tree_of T) width (slice_get T.types i))

-- the words of an array and of a struct
pub array_words_by : (T : Table) → TreesAreMade T → (n : ℕ) (e : TypeId) → words_of T (Array n e) ≡ option_map (λ w. n * w) (words_at T e.0)
array_words_by T trees n e =
    ap (option_map width) (trees (Array n e))
    ∙ map_map (array_of n) width (λ x. n * width x) (tree_at T e.0) (λ x. refl) ∙ sym (map_map width (λ w. n * w) (λ x. n * width x) (tree_at T e.0) (λ x. refl))

pub array_words : (T : Table) → IsFormed T → (n : ℕ) (e : TypeId) → words_of T (Array n e) ≡ option_map (λ w. n * w) (words_at T e.0)
array_words T formed n e = array_words_by T (made T formed) n e

pub untold_words_by : (T : Table) → TreesAreMade T → (s : StructId) → fields_of T s.0 ≡ None → words_of T (Struct s) ≡ None
untold_words_by T trees s none =
    ap (option_map width) (trees (Struct s) ∙ ap (option_and_then (λ fs. option_map struct_of (parts_by T (tree_of T) fs))) none)

pub untold_words : (T : Table) → IsFormed T → (s : StructId) → fields_of T s.0 ≡ None → words_of T (Struct s) ≡ None
untold_words T formed s none = untold_words_by T (made T formed) s none

module _ (types : List ValueType) (told : List (Option Told)) (words : List (Option ℕ)) (formed : IsFormed (table_of types told)) (counted : IsCounted (table_of types told) words told) where
  pub kept_at : (i : ℕ) → get_or words i None ≡ words_at (table_of types told) i
  kept_at i = ap (λ ws. get_or ws i None) counted.types ∙ words_mapped (table_of types told) i

  pub get_told : (ts : List (Option Told)) (i : ℕ) → get_or (map fields_in ts) i None ≡ fields_in (get_or ts i None)
  get_told [] i = refl
  get_told (t ∷ ts) zero = refl
  get_told (t ∷ ts) (suc i) = get_told ts i

  get_some : (ts : List (Option Told)) (i : ℕ) (t : Told) → get_or ts i None ≡ Some t → slice_get ts i ≡ Some (Some t)
  get_some [] i t p = absurd cc p
  get_some (u ∷ ts) zero t p = ap (λ x. Some x) p
  get_some (u ∷ ts) (suc i) t p = get_some ts i t p

  pub struct_kept : (s : StructId) → struct_words told s.0 ≡ words_of (table_of types told) (Struct s)
  struct_kept s = by (get_or told s.0 None) refl
    where
      by : (o : Option Told) → get_or told s.0 None ≡ o → option_map (λ t. t.words) o ≡ words_of (table_of types told) (Struct s)
      by None e = sym (untold_words (table_of types told) formed s (get_told told s.0 ∙ ap fields_in e))
      by (Some t) e = sym (counted.structs s t (get_some told s.0 t e))

  struct_allowed : (s : StructId) → words_of (table_of types told) (Struct s) ≡ allowed (words_of (table_of types told) (Struct s))
  struct_allowed s = by (words_of (table_of types told) (Struct s)) refl
    where
      by : (o : Option ℕ) → words_of (table_of types told) (Struct s) ≡ o → o ≡ allowed o
      by None e = refl
      by (Some w) e = sym (within_some w (formed.structs s w e).1)

  then_map : (n : ℕ) (o : Option ℕ) → option_and_then (λ w. within_limit (n * w)) o ≡ allowed (option_map (λ w. n * w) o)
  then_map n None = refl
  then_map n (Some w) = refl

  -- the words of any type, by those that are kept
  pub words_kept : (t : ValueType) → words_by words told t ≡ allowed (words_of (table_of types told) t)
  words_kept Int = sym (ap (λ o. allowed (option_map width o)) (made (table_of types told) formed Int))
  words_kept Truth = sym (ap (λ o. allowed (option_map width o)) (made (table_of types told) formed Truth))
  words_kept (Struct s) = struct_kept s ∙ struct_allowed s
  words_kept (Pointer e) = sym (ap (λ o. allowed (option_map width o)) (made (table_of types told) formed (Pointer e)))
  words_kept (Slice e) = sym (ap (λ o. allowed (option_map width o)) (made (table_of types told) formed (Slice e)))
  words_kept (Array n e) =
      ap (option_and_then (λ w. within_limit (n * w))) (kept_at e.0) ∙ then_map n (words_at (table_of types told) e.0) ∙ ap allowed (sym (array_words (table_of types told) formed n e))

  -- and those that it has at least
  pub least_kept : (t : ValueType) → least_by words told t ≡ least_words (table_of types told) t
  least_kept Int = sym (ap (λ o. unwrap_or (option_map width o) 1) (made (table_of types told) formed Int))
  least_kept Truth = sym (ap (λ o. unwrap_or (option_map width o) 1) (made (table_of types told) formed Truth))
  least_kept (Struct s) = ap (λ o. unwrap_or o 1) (struct_kept s)
  least_kept (Pointer e) = sym (ap (λ o. unwrap_or (option_map width o) 1) (made (table_of types told) formed (Pointer e)))
  least_kept (Slice e) = sym (ap (λ o. unwrap_or (option_map width o) 1) (made (table_of types told) formed (Slice e)))
  least_kept (Array n e) = ap (λ o. n * unwrap_or o 1) (kept_at e.0)
