-- Types, fields and structs enter one after another.
use Rattle.std.proofs.Common.{◌≡◌, ℕ, zero, suc, ◌+◌, ◌*◌, ◌<◌, ◌≤◌, List, [], ◌∷◌, ◌++◌, length, take, drop, get_or, Option, None, Some, slice_get, sym, ap, ap₂, subst, ◌∙◌, arith}
use Rattle.std.specs.List.{fold}
use Rattle.std.specs.Option.{unwrap_or, option_map}
use Rattle.std.proofs.lemmas.List.{take_more}
use Rattle.std.proofs.lemmas.Option.{slice_get_within, get_or_from_slice_get}
use Rattle.std.proofs.Math.Nat.{mul-le-mul_left}
use Rattle.typed_syntax.specs.Types.{width}
use Rattle.base.specs.declared.ids.TypeId.{TypeId}
use Rattle.base.specs.declared.value_type.ValueType.TheVariants.{Int as IntType, Bool as BoolType, Array as ArrayType}
use Rattle.struct_sizes.specs.declared.forms.Prefix.{Prefix}
use Rattle.struct_sizes.specs.declared.forms.Prefix.TheVariants.{Pointer, Slice, Array}
use Rattle.struct_sizes.specs.declared.forms.Base.{Base}
use Rattle.struct_sizes.specs.declared.forms.Base.TheVariants.{Int, Bool as Truth, Struct}
use Rattle.struct_sizes.specs.declared.verdicts.Verdict.{Verdict}
use Rattle.struct_sizes.specs.Structs.{Prefixed, Fields}
use Rattle.typed.specs.Tables.{Table, Holds, with_type}
use Rattle.typed.specs.Words.{IsInLimits, refusal_by}
use Rattle.typed.specs.Trees.{words_of}
use Rattle.typed.specs.Formed.{IsFormed, words_at, refusal}
use Rattle.typed.proofs.Limits.{not_refused}
use Rattle.typed.proofs.Nested.{made}
use Rattle.typed.proofs.Counted.{array_words_by, untold_words}
use Rattle.typed.proofs.Entered.{words_there}
use Rattle.type_tables.specs.Told.{base_type, number_in, with_prefixed, sized_struct, sized_structs}
use Rattle.type_tables.specs.Types.{IsTypeOf, IsNumberOf, AreNumbersOf, IsToldAs}
use Rattle.type_tables.specs.Fits.{array_words, AreInLimits, MayHave, IsUntold, AreToldAs}
use Rattle.type_tables.proofs.Standing.{Keeps, IsOnce, type_keeps, stays, number_in_is, numbers_stay, all_told_stay, zip_more}
use Rattle.type_tables.proofs.Counting.{type_words}

-- ---- a type that enters isn't refused

pub limits_drop : (level : ℕ) (ps : List Prefix) (w : ℕ) → AreInLimits ps w → AreInLimits (drop level ps) w
limits_drop zero ps w l = l
limits_drop (suc level) [] w l = tt
limits_drop (suc level) (p ∷ ps) w l = limits_drop level ps w l.2

factor : (n v : ℕ) → 0 < v → IsInLimits (n * v) → IsInLimits n
factor zero v p l = let z : 0 < 0 * v = l.0 in absurd (omega arith)
factor (suc n) v p l =
    let m : suc n * 1 ≤ suc n * v = mul-le-mul_left (suc n) (let q : 1 ≤ v = omega arith in q) in
    let k : suc n * v ≤ 65535 = l.1 in
    (omega arith, omega arith)

positive : (ps : List Prefix) (w : ℕ) → 0 < w → AreInLimits ps w → 0 < array_words ps w
positive [] w l k = l
positive (p ∷ ps) w l k = k.1.0

pub type_within : (T : Table) (ps : List Prefix) (b : Base) (i : ℕ) → IsTypeOf T ps b i → i < length T.types
type_within T [] b i h = slice_get_within T.types i (base_type b) h
type_within T (Pointer ∷ ps) b i h = absurd h
type_within T (Slice ∷ ps) b i h = absurd h
type_within T (Array n ∷ ps) b i h = slice_get_within T.types i (ArrayType n h.0) h.1

pub untold_same : (T U : Table) → U.structs ≡ T.structs → IsUntold T → IsUntold U
untold_same T U same none = λ s. ap (λ ss. get_or ss s None) same ∙ none s

module _ (T : Table) (formed : IsFormed T) (none : IsUntold T) where
  wordless : (ps : List Prefix) (b : Base) (i : ℕ) → words_of T (base_type b) ≡ None → IsTypeOf T ps b i → words_at T i ≡ None
  wordless [] b i e h = words_there T i (base_type b) h ∙ e
  wordless (Pointer ∷ ps) b i e h = absurd h
  wordless (Slice ∷ ps) b i e h = absurd h
  wordless (Array n ∷ ps) b i e h =
      words_there T i (ArrayType n h.0) h.1 ∙ array_words_by T (made T formed) n h.0 ∙ ap (option_map (λ v. n * v)) (wordless ps b h.0.0 e h.2)

  known : (n : ℕ) (ps : List Prefix) (b : Base) (w : ℕ) (e : TypeId) → words_of T (base_type b) ≡ Some w → IsTypeOf T ps b e.0 → IsInLimits (n * array_words ps w) → refusal T (ArrayType n e) ≡ None
  known n ps b w e is h l =
      ap (λ o. refusal_by (n * unwrap_or o 1)) (type_words T (made T formed) ps b e.0 w is h) ∙ not_refused (n * array_words ps w) l

  pub array_fine : (n : ℕ) (ps : List Prefix) (b : Base) (w : ℕ) (e : TypeId) → MayHave b w → AreInLimits (Array n ∷ ps) w → IsTypeOf T ps b e.0 → refusal T (ArrayType n e) ≡ None
  array_fine n ps Int w e has l h = known n ps Int w e (ap (option_map width) (made T formed IntType) ∙ ap (λ m. Some m) (sym has)) h l.1
  array_fine n ps Truth w e has l h = known n ps Truth w e (ap (option_map width) (made T formed BoolType) ∙ ap (λ m. Some m) (sym has)) h l.1
  array_fine n ps (Struct id) w e has l h =
      let k = factor n (array_words ps w) (positive ps w has l.2) l.1 in
      let a = k.0 in
      let b = k.1 in
      ap (λ o. refusal_by (n * unwrap_or o 1)) (wordless ps (Struct id) e.0 (untold_words T formed id (none id.0)) h) ∙ not_refused (n * 1) (omega arith, omega arith)

  pub base_fine : (b : Base) → refusal T (base_type b) ≡ None
  base_fine Int = ap (λ o. refusal_by (unwrap_or o 1)) (ap (option_map width) (made T formed IntType)) ∙ not_refused 1 (omega arith, omega arith)
  base_fine Truth = ap (λ o. refusal_by (unwrap_or o 1)) (ap (option_map width) (made T formed BoolType)) ∙ not_refused 1 (omega arith, omega arith)
  base_fine (Struct id) = ap (λ o. refusal_by (unwrap_or o 1)) (untold_words T formed id (none id.0)) ∙ not_refused 1 (omega arith, omega arith)

-- ---- one array more

pub array_step : (T V W : Table) (ps qs : List Prefix) (b : Base) (p : Prefix) (n : ℕ) (id e : TypeId) → ps ≡ p ∷ qs → p ≡ Array n → V ≡ with_prefixed T qs b → IsOnce V → IsTypeOf V qs b id.0 → W ≡ with_type V (ArrayType n id) → Holds W e.0 (ArrayType n id)
    → (W ≡ with_prefixed T ps b) × IsTypeOf W ps b e.0
array_step T V W ps qs b p n id e here array is once number entered held =
    let all : ps ≡ Array n ∷ qs = here ∙ ap (λ q. q ∷ qs) array in
    let keeps : Keeps V W = subst (λ U. Keeps V U) (sym entered) (type_keeps V (ArrayType n id)) in (
      entered
          ∙ ap (λ (m : ℕ). with_type V (ArrayType n (record { 0 = m }))) (sym (number_in_is V once qs b id.0 number))
          ∙ ap (λ U. with_type U (ArrayType n (record { 0 = number_in U qs b }))) is
          ∙ ap (λ xs. with_prefixed T xs b) (sym all),
      subst (λ xs. IsTypeOf W xs b e.0) (sym all) (id, held, stays V W keeps qs b id.0 number),
    )

-- ---- lists

drop_at_suc : {X : Type 0} (xs : List X) (i : ℕ) (x : X) → slice_get xs i ≡ Some x → drop i xs ≡ x ∷ drop (suc i) xs
drop_at_suc [] i x at = absurd cc at
drop_at_suc (y ∷ xs) zero x at = ap (λ z. z ∷ xs) (cc at)
drop_at_suc (y ∷ xs) (suc i) x at = drop_at_suc xs i x at

pub drop_at : {X : Type 0} (xs : List X) (i : ℕ) (x : X) → slice_get xs i ≡ Some x → drop i xs ≡ x ∷ drop (i + 1) xs
drop_at xs i x at = let e : suc i ≡ i + 1 = omega arith in drop_at_suc xs i x at ∙ ap (λ n. x ∷ drop n xs) e

pub take_at : {X : Type 0} (xs : List X) (i : ℕ) (x : X) → slice_get xs i ≡ Some x → take (i + 1) xs ≡ take i xs ++ x ∷ []
take_at xs i x at = take_more xs i x (slice_get_within xs i x at) ∙ ap (λ y. take i xs ++ y ∷ []) (get_or_from_slice_get xs i x x at)

pub fold_at : {A B : Type 0} (f : B → A → B) (xs : List A) (i : ℕ) (x : A) (a b c : B) → slice_get xs i ≡ Some x → c ≡ f a x → fold f a (drop i xs) ≡ b → fold f c (drop (i + 1) xs) ≡ b
fold_at f xs i x a b c at is before = ap (λ y. fold f y (drop (i + 1) xs)) is ∙ ap (fold f a) (sym (drop_at xs i x at)) ∙ before

pub sized_at : (ss : List Fields) (vs : List Verdict) (k : ℕ) (fs : Fields) (v : Verdict) → slice_get ss k ≡ Some fs → slice_get vs k ≡ Some v → slice_get (sized_structs ss vs) k ≡ Some (sized_struct v fs)
sized_at [] vs k fs v at is = absurd cc at
sized_at (gs ∷ ss) [] k fs v at is = absurd cc is
sized_at (gs ∷ ss) (u ∷ vs) zero fs v at is = ap (λ x. Some x) (ap₂ (λ x y. sized_struct x y) (cc is) (cc at))
sized_at (gs ∷ ss) (u ∷ vs) (suc k) fs v at is = sized_at ss vs k fs v at is

-- ---- one field or struct more

pub numbers_more : (T U : Table) → Keeps T U → (fs : Fields) (i : ℕ) (f : Option Prefixed) (es all : List TypeId) (e : TypeId) → slice_get fs i ≡ Some f → AreNumbersOf T (take i fs) es → IsNumberOf U f e → all ≡ es ++ e ∷ [] → AreNumbersOf U (take (i + 1) fs) all
numbers_more T U k fs i f es all e at before number is =
    subst (AreNumbersOf U (take (i + 1) fs)) (sym is)
    (subst (λ xs. AreNumbersOf U xs (es ++ e ∷ [])) (sym (take_at fs i f at)) (zip_more (IsNumberOf U) (take i fs) es f e (numbers_stay T U k (take i fs) es before) number))

pub told_more : (T U : Table) → Keeps T U → (ss : List (Option Fields)) (i : ℕ) (s : Option Fields) (xs all : List (Option (List TypeId))) (x : Option (List TypeId)) → slice_get ss i ≡ Some s → AreToldAs T (take i ss) xs → IsToldAs U s x → all ≡ xs ++ x ∷ [] → AreToldAs U (take (i + 1) ss) all
told_more T U k ss i s xs all x at before number is =
    subst (AreToldAs U (take (i + 1) ss)) (sym is)
    (subst (λ ys. AreToldAs U ys (xs ++ x ∷ [])) (sym (take_at ss i s at)) (zip_more (IsToldAs U) (take i ss) xs s x (all_told_stay T U k (take i ss) xs before) number))
