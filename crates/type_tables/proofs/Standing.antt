-- Types enter a table, and keep their numbers as more enter.
use Rattle.std.proofs.Common.{◌≡◌, ◌⊎◌, inl, inr, ℕ, suc, if◌then◌else◌, List, [], ◌∷◌, ◌++◌, length, map, Option, None, Some, slice_get, is_some, refl, sym, ap, subst, ◌∙◌}
use Rattle.std.specs.List.{fold, AllZip}
use Rattle.std.specs.Option.{unwrap_or}
use Rattle.base.specs.declared.ids.TypeId.{TypeId}
use Rattle.base.specs.declared.value_type.ValueType.{ValueType}
use Rattle.base.specs.declared.value_type.ValueType.TheVariants.{Array as ArrayType}
use Rattle.struct_sizes.specs.declared.forms.Prefix.{Prefix}
use Rattle.struct_sizes.specs.declared.forms.Prefix.TheVariants.{Pointer, Slice, Array}
use Rattle.struct_sizes.specs.declared.forms.Base.{Base}
use Rattle.struct_sizes.specs.Structs.{Prefixed, Fields}
use Rattle.typed.specs.Tables.{Table, Holds, number_of, with_type}
use Rattle.typed.proofs.Lists.{get_front, get_end, get_grown}
use Rattle.typed.proofs.Numbers.{number_holds, lacks}
use Rattle.typed.proofs.Entered.{entered}
use Rattle.type_tables.specs.Told.{base_type, number_in, with_prefixed, with_field, field_number, with_struct, struct_numbers}
use Rattle.type_tables.specs.Types.{AreArrays, IsTypeOf, IsNumberOf, AreNumbersOf, IsToldAs, OneNumber}
use Rattle.type_tables.specs.Fits.{AreToldAs}

-- a table has the types of another one under the same numbers
abbrev pub Keeps : Table → Table → Type 0
Keeps T U = (i : ℕ) (t : ValueType) → Holds T i t → Holds U i t

-- no type stands twice
abbrev pub IsOnce : Table → Type 0
IsOnce T = (i j : ℕ) (t : ValueType) → Holds T i t → Holds T j t → i ≡ j

-- ---- one type

module _ (T : Table) (t : ValueType) where
  -- what holds of the table, and of the longer one, holds with the type
  cases : (P : Table → Type 0) → ((i : ℕ) → number_of T t ≡ Some i → P T) → (number_of T t ≡ None → P (entered T t)) → P (with_type T t)
  cases P old new = by (number_of T t) refl
    where
      by : (o : Option ℕ) → number_of T t ≡ o → P (if is_some o then T else entered T t)
      by None e = new e
      by (Some i) e = old i e

  pub type_keeps : Keeps T (with_type T t)
  type_keeps = cases (Keeps T) (λ i e. λ j u h. h) (λ e. λ j u h. get_front T.types t j u h)

  pub type_structs : (with_type T t).structs ≡ T.structs
  type_structs = cases (λ U. U.structs ≡ T.structs) (λ i e. refl) (λ e. refl)

  entered_once : IsOnce T → number_of T t ≡ None → IsOnce (entered T t)
  entered_once once none i j u hi hj =
      elim (get_grown T.types t i u hi) [
        | inl a ↦ elim (get_grown T.types t j u hj) [
          | inl b ↦ once i j u a b
          | inr b ↦ absurd (lacks T t i none (a ∙ ap (λ v. Some v) (sym b.1)))
        ]
        | inr a ↦ elim (get_grown T.types t j u hj) [
          | inl b ↦ absurd (lacks T t j none (b ∙ ap (λ v. Some v) (sym a.1)))
          | inr b ↦ a.0 ∙ sym b.0
        ]
      ]

  pub type_once : IsOnce T → IsOnce (with_type T t)
  type_once once = cases IsOnce (λ i e. once) (entered_once once)

  pub type_held : (i : ℕ) × Holds (with_type T t) i t
  type_held = cases (λ U. (i : ℕ) × Holds U i t) (λ i e. (i, number_holds T t i e)) (λ e. (length T.types, get_end T.types t))

  -- a type that stands there stood there, or is this one
  pub type_old : (i : ℕ) (u : ValueType) → Holds (with_type T t) i u → Holds T i u ⊎ (t ≡ u)
  type_old = cases (λ U. (i : ℕ) (u : ValueType) → Holds U i u → Holds T i u ⊎ (t ≡ u)) (λ i e. λ j u h. inl h)
      (λ e. λ j u h. elim (get_grown T.types t j u h) [ inl a ↦ inl a | inr a ↦ inr a.1 ])

  number_is : IsOnce T → (i : ℕ) → Holds T i t → number_of T t ≡ Some i
  number_is once i h = by (number_of T t) refl
    where
      by : (o : Option ℕ) → number_of T t ≡ o → number_of T t ≡ Some i
      by None e = absurd (lacks T t i e h)
      by (Some j) e = e ∙ ap (λ k. Some k) (once j i t (number_holds T t j e) h)

-- ---- types of fields

pub stays : (T U : Table) → Keeps T U → (ps : List Prefix) (b : Base) (i : ℕ) → IsTypeOf T ps b i → IsTypeOf U ps b i
stays T U k [] b i h = k i (base_type b) h
stays T U k (Pointer ∷ ps) b i h = h
stays T U k (Slice ∷ ps) b i h = h
stays T U k (Array n ∷ ps) b i h = (h.0, k i (ArrayType n h.0) h.1, stays T U k ps b h.0.0 h.2)

pub number_in_is : (T : Table) → IsOnce T → (ps : List Prefix) (b : Base) (i : ℕ) → IsTypeOf T ps b i → number_in T ps b ≡ i
number_in_is T once [] b i h = ap (λ o. unwrap_or o 0) (number_is T (base_type b) once i h)
number_in_is T once (Pointer ∷ ps) b i h = absurd h
number_in_is T once (Slice ∷ ps) b i h = absurd h
number_in_is T once (Array n ∷ ps) b i h =
    ap (λ (m : ℕ). unwrap_or (number_of T (ArrayType n (record { 0 = m }))) 0) (number_in_is T once ps b h.0.0 h.2)
    ∙ ap (λ o. unwrap_or o 0) (number_is T (ArrayType n h.0) once i h.1)

-- a part of a type: the type, or a part of that of its elements
abbrev pub IsPart : Table → List Prefix → Base → ℕ → Type 0
IsPart T [] b i = IsTypeOf T [] b i
IsPart T (p ∷ ps) b i = IsTypeOf T (p ∷ ps) b i ⊎ IsPart T ps b i

pub part_stays : (T U : Table) → Keeps T U → (ps : List Prefix) (b : Base) (i : ℕ) → IsPart T ps b i → IsPart U ps b i
part_stays T U k [] b i h = stays T U k [] b i h
part_stays T U k (p ∷ ps) b i (inl h) = inl (stays T U k (p ∷ ps) b i h)
part_stays T U k (p ∷ ps) b i (inr h) = inr (part_stays T U k ps b i h)

pub prefixed_keeps : (T : Table) (ps : List Prefix) (b : Base) → Keeps T (with_prefixed T ps b)
prefixed_keeps T [] b = type_keeps T (base_type b)
prefixed_keeps T (Pointer ∷ ps) b = prefixed_keeps T ps b
prefixed_keeps T (Slice ∷ ps) b = prefixed_keeps T ps b
prefixed_keeps T (Array n ∷ ps) b = λ i t h.
    let U = with_prefixed T ps b in
    type_keeps U (ArrayType n (record { 0 = number_in U ps b })) i t (prefixed_keeps T ps b i t h)

pub prefixed_structs : (T : Table) (ps : List Prefix) (b : Base) → (with_prefixed T ps b).structs ≡ T.structs
prefixed_structs T [] b = type_structs T (base_type b)
prefixed_structs T (Pointer ∷ ps) b = prefixed_structs T ps b
prefixed_structs T (Slice ∷ ps) b = prefixed_structs T ps b
prefixed_structs T (Array n ∷ ps) b =
    let U = with_prefixed T ps b in
    type_structs U (ArrayType n (record { 0 = number_in U ps b })) ∙ prefixed_structs T ps b

pub prefixed_once : (T : Table) → IsOnce T → (ps : List Prefix) (b : Base) → IsOnce (with_prefixed T ps b)
prefixed_once T once [] b = type_once T (base_type b) once
prefixed_once T once (Pointer ∷ ps) b = prefixed_once T once ps b
prefixed_once T once (Slice ∷ ps) b = prefixed_once T once ps b
prefixed_once T once (Array n ∷ ps) b =
    let U = with_prefixed T ps b in
    type_once U (ArrayType n (record { 0 = number_in U ps b })) (prefixed_once T once ps b)

-- the type stands in the table that it entered
pub prefixed_type : (T : Table) → IsOnce T → (ps : List Prefix) (b : Base) → AreArrays ps → IsTypeOf (with_prefixed T ps b) ps b (number_in (with_prefixed T ps b) ps b)
prefixed_type T once ps b arrays =
    let is = some_type T once ps b arrays in
    let U = with_prefixed T ps b in
    subst (IsTypeOf U ps b) (sym (number_in_is U (prefixed_once T once ps b) ps b is.0 is.1)) is.1
  where
    some_type : (T : Table) → IsOnce T → (ps : List Prefix) (b : Base) → AreArrays ps → (i : ℕ) × IsTypeOf (with_prefixed T ps b) ps b i
    some_type T once [] b arrays = type_held T (base_type b)
    some_type T once (Pointer ∷ ps) b arrays = absurd arrays
    some_type T once (Slice ∷ ps) b arrays = absurd arrays
    some_type T once (Array n ∷ ps) b arrays =
        let U = with_prefixed T ps b in
        let e : TypeId = record { 0 = number_in U ps b } in
        let is = some_type T once ps b arrays in
        let same = number_in_is U (prefixed_once T once ps b) ps b is.0 is.1 in
        let held = type_held U (ArrayType n e) in
        (held.0, (e, held.1, stays U (with_type U (ArrayType n e)) (type_keeps U (ArrayType n e)) ps b e.0 (subst (IsTypeOf U ps b) (sym same) is.1)))

-- a type that stands there stood there before, or is a part of this one
pub prefixed_old : (T : Table) → IsOnce T → (ps : List Prefix) (b : Base) → AreArrays ps → (i : ℕ) (u : ValueType) → Holds (with_prefixed T ps b) i u → Holds T i u ⊎ IsPart (with_prefixed T ps b) ps b i
prefixed_old T once [] b arrays i u h =
    elim (type_old T (base_type b) i u h) [ inl a ↦ inl a | inr e ↦ inr (h ∙ ap (λ v. Some v) (sym e)) ]
prefixed_old T once (Pointer ∷ ps) b arrays i u h = absurd arrays
prefixed_old T once (Slice ∷ ps) b arrays i u h = absurd arrays
prefixed_old T once (Array n ∷ ps) b arrays i u h =
    let U = with_prefixed T ps b in
    let e : TypeId = record { 0 = number_in U ps b } in
    let V = with_type U (ArrayType n e) in
    let keeps = type_keeps U (ArrayType n e) in
    elim (type_old U (ArrayType n e) i u h) [
      | inl a ↦ elim (prefixed_old T once ps b arrays i u a) [ inl c ↦ inl c | inr c ↦ inr (inr (part_stays U V keeps ps b i c)) ]
      | inr is ↦ inr (inl (e, h ∙ ap (λ v. Some v) (sym is), stays U V keeps ps b e.0 (prefixed_type T once ps b arrays)))
    ]

-- ---- fields

pub field_keeps : (T : Table) (f : Option Prefixed) → Keeps T (with_field T f)
field_keeps T None = λ i t h. h
field_keeps T (Some t) = prefixed_keeps T t.prefixes t.base

pub field_structs : (T : Table) (f : Option Prefixed) → (with_field T f).structs ≡ T.structs
field_structs T None = refl
field_structs T (Some t) = prefixed_structs T t.prefixes t.base

field_once : (T : Table) → IsOnce T → (f : Option Prefixed) → IsOnce (with_field T f)
field_once T once None = once
field_once T once (Some t) = prefixed_once T once t.prefixes t.base

fields_keep : (fs : Fields) (T : Table) → Keeps T (fold with_field T fs)
fields_keep [] T = λ i t h. h
fields_keep (f ∷ fs) T = λ i t h. fields_keep fs (with_field T f) i t (field_keeps T f i t h)

pub fields_structs : (fs : Fields) (T : Table) → (fold with_field T fs).structs ≡ T.structs
fields_structs [] T = refl
fields_structs (f ∷ fs) T = fields_structs fs (with_field T f) ∙ field_structs T f

fields_once : (fs : Fields) (T : Table) → IsOnce T → IsOnce (fold with_field T fs)
fields_once [] T once = once
fields_once (f ∷ fs) T once = fields_once fs (with_field T f) (field_once T once f)

-- the type is a part of that of a field
abbrev pub IsIn : Table → Fields → ℕ → Type 0
IsIn T fs i = (j : ℕ) × (t : Prefixed) × (slice_get fs j ≡ Some (Some t)) × IsPart T t.prefixes t.base i

abbrev pub Arrays : Fields → Type 0
Arrays fs = (j : ℕ) (t : Prefixed) → slice_get fs j ≡ Some (Some t) → AreArrays t.prefixes

fields_old : (fs : Fields) (T : Table) → IsOnce T → Arrays fs → (i : ℕ) (u : ValueType) → Holds (fold with_field T fs) i u → Holds T i u ⊎ IsIn (fold with_field T fs) fs i
fields_old [] T once arrays i u h = inl h
fields_old (None ∷ fs) T once arrays i u h =
    elim (fields_old fs T once (λ j. arrays (suc j)) i u h) [ inl a ↦ inl a | inr p ↦ inr (suc p.0, p.1, p.2, p.3) ]
fields_old (Some t ∷ fs) T once arrays i u h =
    let U = with_prefixed T t.prefixes t.base in
    elim (fields_old fs U (prefixed_once T once t.prefixes t.base) (λ j. arrays (suc j)) i u h) [
      | inl a ↦ elim (prefixed_old T once t.prefixes t.base (arrays 0 t refl) i u a) [
        | inl c ↦ inl c
        | inr c ↦ inr (0, t, refl, part_stays U (fold with_field U fs) (fields_keep fs U) t.prefixes t.base i c)
      ]
      | inr p ↦ inr (suc p.0, p.1, p.2, p.3)
    ]

-- ---- structs

pub struct_keeps : (T : Table) (s : Option Fields) → Keeps T (with_struct T s)
struct_keeps T None = λ i t h. h
struct_keeps T (Some fs) = fields_keep fs T

pub struct_structs : (T : Table) (s : Option Fields) → (with_struct T s).structs ≡ T.structs
struct_structs T None = refl
struct_structs T (Some fs) = fields_structs fs T

struct_once : (T : Table) → IsOnce T → (s : Option Fields) → IsOnce (with_struct T s)
struct_once T once None = once
struct_once T once (Some fs) = fields_once fs T once

structs_keep : (ss : List (Option Fields)) (T : Table) → Keeps T (fold with_struct T ss)
structs_keep [] T = λ i t h. h
structs_keep (s ∷ ss) T = λ i t h. structs_keep ss (with_struct T s) i t (struct_keeps T s i t h)

pub structs_structs : (ss : List (Option Fields)) (T : Table) → (fold with_struct T ss).structs ≡ T.structs
structs_structs [] T = refl
structs_structs (s ∷ ss) T = structs_structs ss (with_struct T s) ∙ struct_structs T s

in_stays : (T U : Table) → Keeps T U → (fs : Fields) (i : ℕ) → IsIn T fs i → IsIn U fs i
in_stays T U k fs i p = (p.0, p.1, p.2, part_stays T U k p.1.prefixes p.1.base i p.3)

abbrev pub IsInSome : Table → List (Option Fields) → ℕ → Type 0
IsInSome T ss i = (k : ℕ) × (fs : Fields) × (slice_get ss k ≡ Some (Some fs)) × IsIn T fs i

abbrev pub EachArrays : List (Option Fields) → Type 0
EachArrays ss = (k : ℕ) (fs : Fields) → slice_get ss k ≡ Some (Some fs) → Arrays fs

pub structs_old : (ss : List (Option Fields)) (T : Table) → IsOnce T → EachArrays ss → (i : ℕ) (u : ValueType) → Holds (fold with_struct T ss) i u → Holds T i u ⊎ IsInSome (fold with_struct T ss) ss i
structs_old [] T once arrays i u h = inl h
structs_old (None ∷ ss) T once arrays i u h =
    elim (structs_old ss T once (λ k. arrays (suc k)) i u h) [ inl a ↦ inl a | inr p ↦ inr (suc p.0, p.1, p.2, p.3) ]
structs_old (Some fs ∷ ss) T once arrays i u h =
    let U = fold with_field T fs in
    elim (structs_old ss U (fields_once fs T once) (λ k. arrays (suc k)) i u h) [
      | inl a ↦ elim (fields_old fs T once (arrays 0 fs refl) i u a) [
        | inl c ↦ inl c
        | inr c ↦ inr (0, fs, refl, in_stays U (fold with_struct U ss) (structs_keep ss U) fs i c)
      ]
      | inr p ↦ inr (suc p.0, p.1, p.2, p.3)
    ]

-- ---- numbers of fields

pub number_stays : (T U : Table) → Keeps T U → (f : Option Prefixed) (e : TypeId) → IsNumberOf T f e → IsNumberOf U f e
number_stays T U k None e h = h
number_stays T U k (Some t) e h = stays T U k t.prefixes t.base e.0 h

pub numbers_stay : (T U : Table) → Keeps T U → (fs : Fields) (es : List TypeId) → AreNumbersOf T fs es → AreNumbersOf U fs es
numbers_stay T U k [] [] h = tt
numbers_stay T U k [] (e ∷ es) h = h
numbers_stay T U k (f ∷ fs) [] h = h
numbers_stay T U k (f ∷ fs) (e ∷ es) h = (number_stays T U k f e h.0, numbers_stay T U k fs es h.1)

pub told_stays : (T U : Table) → Keeps T U → (s : Option Fields) (x : Option (List TypeId)) → IsToldAs T s x → IsToldAs U s x
told_stays T U k None None h = tt
told_stays T U k None (Some es) h = h
told_stays T U k (Some fs) None h = h
told_stays T U k (Some fs) (Some es) h = numbers_stay T U k fs es h

pub all_told_stay : (T U : Table) → Keeps T U → (ss : List (Option Fields)) (xs : List (Option (List TypeId))) → AreToldAs T ss xs → AreToldAs U ss xs
all_told_stay T U k [] [] h = tt
all_told_stay T U k [] (x ∷ xs) h = h
all_told_stay T U k (s ∷ ss) [] h = h
all_told_stay T U k (s ∷ ss) (x ∷ xs) h = (told_stays T U k s x h.0, all_told_stay T U k ss xs h.1)

-- one pair more
pub zip_more : {A B : Type 0} (R : A → B → Type 0) (xs : List A) (ys : List B) (x : A) (y : B) → AllZip R xs ys → R x y → AllZip R (xs ++ x ∷ []) (ys ++ y ∷ [])
zip_more R [] [] x y h r = (r, tt)
zip_more R [] (z ∷ ys) x y h r = absurd h
zip_more R (z ∷ xs) [] x y h r = absurd h
zip_more R (z ∷ xs) (w ∷ ys) x y h r = (h.0, zip_more R xs ys x y h.1 r)

-- ---- all numbers of a table

-- a field whose type has a number
abbrev pub HasArrays : Option Prefixed → Type 0
HasArrays None = ⊥
HasArrays (Some t) = AreArrays t.prefixes

field_number_is : (T V : Table) → IsOnce T → IsOnce V → (f : Option Prefixed) → HasArrays f → Keeps (with_field T f) V → IsNumberOf V f (field_number V f)
field_number_is T V once later None arrays k = arrays
field_number_is T V once later (Some t) arrays k =
    let ps = t.prefixes in
    let U = with_prefixed T ps t.base in
    let is = stays U V k ps t.base (number_in U ps t.base) (prefixed_type T once ps t.base arrays) in
    subst (IsTypeOf V ps t.base) (sym (number_in_is V later ps t.base (number_in U ps t.base) is)) is

field_numbers_are : (fs : Fields) (T V : Table) → IsOnce T → IsOnce V → ((i : ℕ) (f : Option Prefixed) → slice_get fs i ≡ Some f → HasArrays f) → Keeps (fold with_field T fs) V → AreNumbersOf V fs (map (field_number V) fs)
field_numbers_are [] T V once later arrays k = tt
field_numbers_are (f ∷ fs) T V once later arrays k = (
  field_number_is T V once later f (arrays 0 f refl) (λ i t h. k i t (fields_keep fs (with_field T f) i t h)),
  field_numbers_are fs (with_field T f) V (field_once T once f) later (λ i. arrays (suc i)) k,
)

struct_numbers_are : (ss : List (Option Fields)) (T V : Table) → IsOnce T → IsOnce V → ((k : ℕ) (fs : Fields) → slice_get ss k ≡ Some (Some fs) → (i : ℕ) (f : Option Prefixed) → slice_get fs i ≡ Some f → HasArrays f) → Keeps (fold with_struct T ss) V
    → AreToldAs V ss (map (struct_numbers V) ss)
struct_numbers_are [] T V once later arrays k = tt
struct_numbers_are (None ∷ ss) T V once later arrays k = (tt, struct_numbers_are ss T V once later (λ j. arrays (suc j)) k)
struct_numbers_are (Some fs ∷ ss) T V once later arrays k = (
  field_numbers_are fs T V once later (arrays 0 fs refl) (λ i t h. k i t (structs_keep ss (fold with_field T fs) i t h)),
  struct_numbers_are ss (fold with_field T fs) V (fields_once fs T once) later (λ j. arrays (suc j)) k,
)

structs_once : (ss : List (Option Fields)) (T : Table) → IsOnce T → IsOnce (fold with_struct T ss)
structs_once [] T once = once
structs_once (s ∷ ss) T once = structs_once ss (with_struct T s) (struct_once T once s)

pub all_numbers_are : (ss : List (Option Fields)) (T : Table) → IsOnce T → ((k : ℕ) (fs : Fields) → slice_get ss k ≡ Some (Some fs) → (i : ℕ) (f : Option Prefixed) → slice_get fs i ≡ Some f → HasArrays f)
    → AreToldAs (fold with_struct T ss) ss (map (struct_numbers (fold with_struct T ss)) ss)
all_numbers_are ss T once arrays = struct_numbers_are ss T (fold with_struct T ss) once (structs_once ss T once) arrays (λ i t h. h)

pub one_number : OneNumber
one_number T once ps b i h = number_in_is T once ps b i h
