-- A type enters a table in memory.
use Rattle.std.proofs.Common.{◌≡◌, ℕ, ◌*◌, ◌^◌, ◌<◌, Bool, true, false, if◌then◌else◌, List, [], ◌∷◌, ◌++◌, length, map, get_or, Option, None, Some, refl, sym, ap, ap₂, subst, ◌∙◌, arith}
use Rattle.std.specs.List.{list_any}
use Rattle.std.specs.Option.{unwrap_or, option_map}
use Rattle.std.proofs.lemmas.List.{map-append}
use Rattle.std.proofs.lemmas.List.Folds.{list_any_none}
use Rattle.std.proofs.lemmas.Option.{slice_get-get_or}
use Rattle.indexmap.specs.IndexSet.{insert_key}
use Rattle.typed.specs.declared.told.Told.{Told}
use Rattle.base.specs.declared.ids.StructId.{StructId}
use Rattle.base.specs.declared.value_type.ValueType.{ValueType}
use Rattle.base.specs.declared.value_type.ValueType.TheVariants.{Int, Bool as Truth, Struct, Array, Pointer, Slice}
use Rattle.base.specs.Types.{same_type}
use Rattle.base.proofs.Types.{same_is}
use Rattle.typed.specs.Tables.{Table, Holds, number_of, with_type}
use Rattle.typed.specs.Words.{IsInLimits, refusal_by}
use Rattle.typed.specs.Trees.{words_of}
use Rattle.typed.specs.Formed.{IsFormed, KeepsTrees, Stands, words_at, refusal}
use Rattle.typed.specs.Memory.{table_of, IsCounted, words_by, struct_words}
use Rattle.typed.proofs.Lists.{map_same}
use Rattle.typed.proofs.Limits.{not_refused, allowed_within}
use Rattle.typed.proofs.Numbers.{lacks, last_number}
use Rattle.typed.proofs.Growing.{keeps}
use Rattle.typed.proofs.Counted.{array_words, words_kept, struct_kept}
use Rattle.typed.proofs.Entered.{entered, entered_new, entered_grows, entered_deeper, stands_placed, words_stay, words_fine, formed_entered}

-- a type of the table isn't refused
least_fine : (o : Option ℕ) → ((w : ℕ) → o ≡ Some w → IsInLimits w) → refusal_by (unwrap_or o 1) ≡ None
least_fine None l = not_refused 1 (omega arith, omega arith)
least_fine (Some w) l = not_refused w (l w refl)

product_fine : (n : ℕ) (o : Option ℕ) → IsInLimits n → ((w : ℕ) → option_map (λ v. n * v) o ≡ Some w → IsInLimits w) → refusal_by (n * unwrap_or o 1) ≡ None
product_fine n None l k = not_refused (n * 1) (let a = l.0 in omega arith, let b = l.1 in omega arith)
product_fine n (Some v) l k = not_refused (n * v) (k (n * v) refl)

pub held_fine : (T : Table) → IsFormed T → (i : ℕ) (t : ValueType) → Holds T i t → refusal T t ≡ None
held_fine T formed i Int h = least_fine (words_of T Int) (λ w e. formed.types i Int w h e)
held_fine T formed i Truth h = least_fine (words_of T Truth) (λ w e. formed.types i Truth w h e)
held_fine T formed i (Struct s) h = least_fine (words_of T (Struct s)) (λ w e. formed.types i (Struct s) w h e)
held_fine T formed i (Pointer a) h = least_fine (words_of T (Pointer a)) (λ w e. formed.types i (Pointer a) w h e)
held_fine T formed i (Slice a) h = least_fine (words_of T (Slice a)) (λ w e. formed.types i (Slice a) w h e)
held_fine T formed i (Array n a) h =
    product_fine n (words_at T a.0) (formed.placed i (Array n a) h).1 (λ w e. formed.types i (Array n a) w h (array_words T formed n a ∙ e))

pub structs_fine : (types : List ValueType) (told : List (Option Told)) (words : List (Option ℕ)) → IsFormed (table_of types told) → IsCounted (table_of types told) words told → (s : ℕ) → refusal_by (unwrap_or (struct_words told s) 1) ≡ None
structs_fine types told words formed counted s =
    let id : StructId = record { 0 = s } in
    ap (λ o. refusal_by (unwrap_or o 1)) (struct_kept types told words formed counted id)
    ∙ least_fine (words_of (table_of types told) (Struct id)) (λ w e. formed.structs id w e)

-- an insert puts a type without a number last
none_same : (T : Table) (t : ValueType) → number_of T t ≡ None → list_any (same_type t) T.types ≡ false
none_same T t none = list_any_none (same_type t) T.types (λ k d l. by k (get_or T.types k d) (same_type t (get_or T.types k d)) refl (slice_get-get_or T.types k d l))
  where
    by : (k : ℕ) (u : ValueType) (b : Bool) → same_type t u ≡ b → Holds T k u → same_type t u ≡ false
    by k u true e h = absurd (lacks T t k none (h ∙ ap (λ v. Some v) (sym (same_is t u e))))
    by k u false e h = e

pub inserted_last : (T : Table) (t : ValueType) → number_of T t ≡ None → insert_key same_type T.types t ≡ T.types ++ t ∷ []
inserted_last T t none = ap (λ b. if b then T.types else T.types ++ t ∷ []) (none_same T t none)

-- what holds where a type has entered
pub record Entering (types keys : List ValueType) (told : List (Option Told)) (kept : List (Option ℕ)) (t : ValueType) : Type 0 where
  pub formed : IsFormed (table_of keys told)
  pub counted : IsCounted (table_of keys told) kept told
  pub trees : KeepsTrees (table_of types told) (table_of keys told)
  pub is : table_of keys told ≡ with_type (table_of types told) t
  pub number : number_of (table_of keys told) t ≡ Some (length types)

module _ (types : List ValueType) (told : List (Option Told)) (words : List (Option ℕ)) (t : ValueType) (formed : IsFormed (table_of types told)) (counted : IsCounted (table_of types told) words told)
    (stands : Stands (table_of types told) t) (fine : refusal (table_of types told) t ≡ None) (none : number_of (table_of types told) t ≡ None) (room : length types < 2 ^ 32) where
  new_words : words_by words told t ≡ words_of (table_of types told) t
  new_words =
      words_kept types told words formed counted t
      ∙ allowed_within (words_of (table_of types told) t) (λ w e. (words_fine (table_of types told) formed t stands fine t w refl e).1)

  all_words : map (words_of (table_of types told)) types ≡ map (words_of (entered (table_of types told) t)) types
  all_words =
      map_same (words_of (table_of types told)) (words_of (entered (table_of types told) t)) types
      (λ i u h. sym (words_stay (table_of types told) formed t u (stands_placed (table_of types told) formed t i u h)))

  counted_entered : IsCounted (entered (table_of types told) t) (words ++ words_by words told t ∷ []) told
  counted_entered = record {
    types = ap₂ (λ ws w. ws ++ w ∷ []) (counted.types ∙ all_words) (new_words ∙ sym (words_stay (table_of types told) formed t t stands)) ∙ sym (map-append (words_of (entered (table_of types told) t)) types (t ∷ []));
    structs = λ s x h. words_stay (table_of types told) formed t (Struct s) tt ∙ counted.structs s x h;
  }

  entering_last : Entering types (types ++ t ∷ []) told (words ++ words_by words told t ∷ []) t
  entering_last = record {
    formed = formed_entered (table_of types told) formed t stands fine none room;
    counted = counted_entered;
    trees = keeps (table_of types told) (entered (table_of types told) t) (entered_grows (table_of types told) t) (entered_deeper (table_of types told) t);
    is = sym (entered_new (table_of types told) t none);
    number = last_number (table_of types told) t none;
  }

  pub entering : (keys : List ValueType) (kept : List (Option ℕ)) (w : Option ℕ) → keys ≡ insert_key same_type types t → w ≡ words_by words told t → kept ≡ words ++ w ∷ [] → Entering types keys told kept t
  entering keys kept w at_keys at_w at_kept =
      let k : types ++ t ∷ [] ≡ keys = sym (at_keys ∙ inserted_last (table_of types told) t none) in
      let s : words ++ words_by words told t ∷ [] ≡ kept = ap (λ v. words ++ v ∷ []) (sym at_w) ∙ sym at_kept in
      subst (λ ks. Entering types ks told kept t) k (subst (λ ws. Entering types (types ++ t ∷ []) told ws t) s entering_last)
