-- The words of fields: of which structs they are made, and where they are none.
use Rattle.std.proofs.Common.{◌≡◌, ℕ, suc, ◌+◌, ◌*◌, ◌<◌, ◌≤◌, List, [], ◌∷◌, length, get_or, true, false, Option, Some, None, ◌⊎◌, inl, inr, refl, sym, ap, ap₂, ◌∙◌, subst, arith}
use Rattle.std.specs.Prelude.{Bool, if◌then◌else◌, slice_get}
use Rattle.std.specs.Option.{option_map, unwrap_or}
use Rattle.std.specs.List.{flat_map}
use Rattle.std.proofs.lemmas.Bool.{cases_eq, cases_lt}
use Rattle.std.proofs.lemmas.List.{length-map}
use Rattle.std.proofs.lemmas.Option.{same_Some, slice_get-map, slice_get_past, get_or_from_slice_get, unwrap_or-slice_get}
use Rattle.struct_sizes.specs.declared.forms.Prefix.{Prefix}
use Rattle.struct_sizes.specs.declared.forms.Prefix.TheVariants.{Pointer, Slice, Array}
use Rattle.struct_sizes.specs.declared.forms.Base.{Base}
use Rattle.struct_sizes.specs.declared.forms.Base.TheVariants.{Int, Bool as Truth, Struct}
use Rattle.struct_sizes.specs.Structs.{Prefixed, Fields, named, is_in_place, held_in, mentioned_in, holds, mentions}
use Rattle.struct_sizes.specs.Words.{prefix_words, prefixed_words, base_words, type_words, field_words, added, sum_words, IsTable, OneTable}
use Rattle.struct_sizes.specs.Faults.{FieldFails, FieldsFail}
use Rattle.components.specs.Graph.{Among, row_in, row, Leads}
use Rattle.components.proofs.Lists.{among_left, among_right, among_split, at_there}
use Rattle.struct_sizes.proofs.Ways.{holds_of_all}

-- ---- rows

pub held_row : (ss : List Fields) (k : ℕ) (s : Fields) → slice_get ss k ≡ Some s → row (holds ss) k ≡ flat_map held_in s
held_row ss k s at = ap row_in (slice_get-map (λ (x : Fields). flat_map held_in x) ss k ∙ ap (option_map (λ (x : Fields). flat_map held_in x)) at)

pub mentioned_row : (ss : List Fields) (k : ℕ) (s : Fields) → slice_get ss k ≡ Some s → row (mentions ss) k ≡ flat_map mentioned_in s
mentioned_row ss k s at = ap row_in (slice_get-map (λ (x : Fields). flat_map mentioned_in x) ss k ∙ ap (option_map (λ (x : Fields). flat_map mentioned_in x)) at)

pub holds_length : (ss : List Fields) → length (holds ss) ≡ length ss
holds_length ss = length-map ss _

pub mentions_length : (ss : List Fields) → length (mentions ss) ≡ length ss
mentions_length ss = length-map ss _

held_mentioned : (k : ℕ) (f : Option Prefixed) → Among k (held_in f) → Among k (mentioned_in f)
held_mentioned k None h = h
held_mentioned k (Some t) h = by (is_in_place t.prefixes) h
  where
    by : (b : Bool) → Among k (if b then named t.base else []) → Among k (named t.base)
    by true h = h
    by false h = absurd h

pub all_held_mentioned : (k : ℕ) (fs : Fields) → Among k (flat_map held_in fs) → Among k (flat_map mentioned_in fs)
all_held_mentioned k [] h = h
all_held_mentioned k (f ∷ fs) h = elim (among_split k (held_in f) (flat_map held_in fs) h) [
  | inl here ↦ among_left k (mentioned_in f) (flat_map mentioned_in fs) (held_mentioned k f here)
  | inr later ↦ among_right k (mentioned_in f) (flat_map mentioned_in fs) (all_held_mentioned k fs later)
]

-- ---- two tables that have the same words of all that is held

apart_words : (ps : List Prefix) (a b : Option ℕ) → is_in_place ps ≡ false → prefixed_words ps a ≡ prefixed_words ps b
apart_words [] a b e = let bad : true ≡ false = e in absurd cc
apart_words (Pointer ∷ ps) a b e = refl
apart_words (Slice ∷ ps) a b e = refl
apart_words (Array n ∷ ps) a b e = ap (prefix_words (Array n)) (apart_words ps a b e)

module _ (table other : List (Option ℕ)) where
  SameOf : List ℕ → Type 0
  SameOf ks = (k : ℕ) → Among k ks → get_or table k None ≡ get_or other k None

  same_base : (b : Base) → SameOf (named b) → base_words table b ≡ base_words other b
  unfolding SameOf
  same_base Int same = refl
  same_base Truth same = refl
  same_base (Struct id) same = same id.0 (inl refl)

  same_field : (f : Option Prefixed) → SameOf (held_in f) → field_words table f ≡ field_words other f
  unfolding SameOf
  same_field None same = refl
  same_field (Some t) same = by (is_in_place t.prefixes) refl
    where
      by : (b : Bool) → is_in_place t.prefixes ≡ b → type_words table t ≡ type_words other t
      by true e = ap (prefixed_words t.prefixes) (same_base t.base (λ k h. same k (subst (λ (b : Bool). Among k (if b then named t.base else [])) (sym e) h)))
      by false e = apart_words t.prefixes (base_words table t.base) (base_words other t.base) e

  pub same_sums : (fs : Fields) → ((k : ℕ) → Among k (flat_map held_in fs) → get_or table k None ≡ get_or other k None) → sum_words table fs ≡ sum_words other fs
  unfolding SameOf
  same_sums [] same = refl
  same_sums (f ∷ fs) same = ap₂ added (same_field f (λ k h. same k (among_left k (held_in f) (flat_map held_in fs) h))) (same_sums fs (λ k h. same k (among_right k (held_in f) (flat_map held_in fs) h)))

-- ---- one table

stable : (a b : Option ℕ) → ((a ≡ b → ⊥) → ⊥) → a ≡ b
stable None None h = refl
stable None (Some b) h = absurd (h (λ e. (let bad : None ≡ Some b = e in cc)))
stable (Some a) None h = absurd (h (λ e. (let bad : Some a ≡ None = e in cc)))
stable (Some a) (Some b) h = elim (cases_eq a b) [ inl e ↦ ap Some e | inr other ↦ absurd (h (λ e. other (same_Some a b e))) ]

pub past : (table : List (Option ℕ)) (k : ℕ) → length table ≤ k → get_or table k None ≡ None
past table k le = sym (unwrap_or-slice_get table k None) ∙ ap (λ (o : Option (Option ℕ)). unwrap_or o None) (slice_get_past table k le)

module _ (ss : List Fields) (table other : List (Option ℕ)) (a : IsTable ss table) (b : IsTable ss other) where
  Same : ℕ → Type 0
  Same k = get_or table k None ≡ get_or other k None

  same_step : (k : ℕ) → k < length (holds ss) → ((Leads (holds ss) k k → ⊥) → (j : ℕ) → Among j (row (holds ss) k) → j < length (holds ss) → Same j) → Same k
  unfolding Same
  same_step k small below = stable (get_or table k None) (get_or other k None) (λ differ. differ (sums (λ way. differ (endless way))))
    where
      here : k < length ss
      here = subst (λ (n : ℕ). k < n) (holds_length ss) small

      endless : Leads (holds ss) k k → get_or table k None ≡ get_or other k None
      endless way = get_or_from_slice_get table k None None (a.endless k here way) ∙ sym (get_or_from_slice_get other k None None (b.endless k here way))

      sums : (Leads (holds ss) k k → ⊥) → get_or table k None ≡ get_or other k None
      sums no_loop =
          let there = at_there ss k here in
          let s : Fields = there.0 in
          get_or_from_slice_get table k (sum_words table s) None (a.sums k s there.1 no_loop)
          ∙ same_sums table other s (λ j h. known j (subst (λ (l : List ℕ). Among j l) (sym (held_row ss k s there.1)) h) (cases_lt j (length ss)))
          ∙ sym (get_or_from_slice_get other k (sum_words other s) None (b.sums k s there.1 no_loop))
        where
          known : (j : ℕ) → Among j (row (holds ss) k) → (j < length ss) ⊎ (length ss ≤ j) → get_or table j None ≡ get_or other j None
          known j h (inl l) = below no_loop j h (subst (λ (n : ℕ). j < n) (sym (holds_length ss)) l)
          known j h (inr l) = past table j (omega (arith, l, a.size)) ∙ sym (past other j (omega (arith, l, b.size)))

  pub same_words : (k : ℕ) → k < length ss → get_or table k None ≡ get_or other k None
  unfolding Same
  same_words k small = holds_of_all (holds ss) Same same_step k (subst (λ (n : ℕ). k < n) (sym (holds_length ss)) small)

same_lists : (xs ys : List (Option ℕ)) → length xs ≡ length ys → ((k : ℕ) → k < length xs → get_or xs k None ≡ get_or ys k None) → xs ≡ ys
same_lists [] [] e same = refl
same_lists [] (y ∷ ys) e same = absurd (omega (arith, e))
same_lists (x ∷ xs) [] e same = absurd (omega (arith, e))
same_lists (x ∷ xs) (y ∷ ys) e same = ap₂ (λ (z : Option ℕ) (zs : List (Option ℕ)). z ∷ zs) (same 0 (omega arith)) (same_lists xs ys (omega (arith, e)) (λ k l. same (suc k) (omega (arith, l))))

pub one_table : OneTable
one_table ss table other a b = same_lists table other (a.size ∙ sym b.size) (λ k l. same_words ss table other a b k (omega (arith, l, a.size)))

-- ---- words that are none

added_none : (a b : Option ℕ) → added a b ≡ None → (a ≡ None) ⊎ (b ≡ None)
added_none None b e = inl refl
added_none (Some a) None e = inr refl
added_none (Some a) (Some b) e = let bad : Some (a + b) ≡ None = e in absurd cc

none_under : (ps : List Prefix) (words : Option ℕ) → prefixed_words ps words ≡ None → (is_in_place ps ≡ true) × (words ≡ None)
none_under [] words e = (refl, e)
none_under (Pointer ∷ ps) words e = let bad : ◌≡◌ {A = Option ℕ} (Some 1) None = e in absurd cc
none_under (Slice ∷ ps) words e = let bad : ◌≡◌ {A = Option ℕ} (Some 3) None = e in absurd cc
none_under (Array n ∷ ps) words e = none_under ps words (by (prefixed_words ps words) e)
  where
    by : (w : Option ℕ) → option_map (λ x. n * x) w ≡ None → w ≡ None
    by None e = refl
    by (Some w) e = let bad : Some (n * w) ≡ None = e in absurd cc

module _ (table : List (Option ℕ)) where
  -- a struct of no words is held
  HoldsNone : List ℕ → Type 0
  HoldsNone ks = (k : ℕ) × Among k ks × (get_or table k None ≡ None)

  none_base : (b : Base) → base_words table b ≡ None → HoldsNone (named b)
  unfolding HoldsNone
  none_base Int e = let bad : ◌≡◌ {A = Option ℕ} (Some 1) None = e in absurd cc
  none_base Truth e = let bad : ◌≡◌ {A = Option ℕ} (Some 1) None = e in absurd cc
  none_base (Struct id) e = (id.0, inl refl, e)

  none_field : (f : Option Prefixed) → field_words table f ≡ None → FieldFails table f ⊎ HoldsNone (held_in f)
  unfolding HoldsNone
  none_field None e = inl tt
  none_field (Some t) e =
      let under = none_under t.prefixes (base_words table t.base) e in
      let held = none_base t.base under.1 in
      inr (held.0, subst (λ (b : Bool). Among held.0 (if b then named t.base else [])) (sym under.0) held.1, held.2)

  pub none_sums : (fs : Fields) → sum_words table fs ≡ None → FieldsFail table fs ⊎ ((k : ℕ) × Among k (flat_map held_in fs) × (get_or table k None ≡ None))
  unfolding HoldsNone
  none_sums [] e = let bad : ◌≡◌ {A = Option ℕ} (Some 0) None = e in absurd cc
  none_sums (f ∷ fs) e = elim (added_none (field_words table f) (sum_words table fs) e) [
    | inl here ↦ (elim (none_field f here) [
      | inl fails ↦ inl (inl fails)
      | inr held ↦ inr (held.0, among_left held.0 (held_in f) (flat_map held_in fs) held.1, held.2)
    ])
    | inr later ↦ (elim (none_sums fs later) [
      | inl fails ↦ inl (inr fails)
      | inr held ↦ inr (held.0, among_right held.0 (held_in f) (flat_map held_in fs) held.1, held.2)
    ])
  ]
