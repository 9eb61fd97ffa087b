-- Types that a text states, as their array types enter: what is known of a type in the end was known once it had entered.
use Rattle.std.proofs.Common.{◌≡◌, ℕ, ◌^◌, ◌≤◌, ◌*◌, Bool, true, false, List, length, Option, Some, None, is_some, if◌then◌else◌, refl, sym, ap, ap₂, ◌∙◌, subst, arith}
use Rattle.std.specs.Prelude.{option_and_then}
use Rattle.std.specs.Option.{option_map, unwrap_or}
use Rattle.base.specs.declared.value_type.ValueType.{ValueType}
use Rattle.base.specs.declared.value_type.ValueType.TheVariants.{Array}
use Rattle.syntax.specs.Expressions.{Ex as TreeEx, name, paren, array_type, spelled}
use Rattle.type_faults.specs.Given.{allowed}
use Rattle.type_faults.proofs.Options.{none_some, same_some, and_then_some}
use Rattle.typed.specs.Tables.{Table, Holds, number_of, with_type}
use Rattle.typed.specs.Words.{refusal_by}
use Rattle.typed.specs.Formed.{IsFormed, words_at, refusal}
use Rattle.typed.proofs.Numbers.{number_holds, lacks, last_number}
use Rattle.typed.proofs.Counted.{array_words}
use Rattle.typed.proofs.Entered.{entered as longer, words_there}
use Rattle.typed.proofs.Entering.{held_fine}
use Rattle.names.specs.declared.scope.Declared.{Declared}
use Rattle.names.specs.declared.scope.Declared.TheVariants as declared
use Rattle.names.specs.Scope.{Scope, declaration}
use Rattle.names.specs.Types.{is_known, declared_type, known_array}
use Rattle.names.specs.Types.{array_type as array_in}
use Rattle.expression_types.specs.Typing.{stated_type}
use Rattle.entered_types.specs.Entered.{with_numbered, with_array, array_entered, length_in, entered, stated_after}
use Rattle.array_laws.specs.Laws.{NamedHaveNumbers}
use Rattle.array_laws.proofs.Lengths.{length_same}
use Rattle.array_laws.proofs.Growth.{Grown, words_stay, Leads, onwards, array_leads}
use Rattle.array_laws.proofs.Walks.{leads_ex}

-- ---- types that are known

-- a type has a number, and that has words
pub record Known (T : Table) (t : ValueType) : Type 0 where
  pub number : ℕ
  pub words : ℕ
  pub is_number : number_of T t ≡ Some number
  pub is_words : words_at T number ≡ Some words

some_of : {A : Type 0} (o : Option A) → is_some o ≡ true → (x : A) × (o ≡ Some x)
some_of None h = cc h
some_of (Some x) h = (x, refl)

pub known_by : (T : Table) (t : ValueType) → is_known T t ≡ true → Known T t
known_by T t h =
    let w = some_of (option_and_then (words_at T) (number_of T t)) h in
    let i = and_then_some (words_at T) (number_of T t) w.0 w.1 in
    record { number = i.0; words = w.0; is_number = i.1; is_words = i.2 }

pub is_known_by : (T : Table) (t : ValueType) → Known T t → is_known T t ≡ true
is_known_by T t k = ap is_some (ap (option_and_then (words_at T)) k.is_number ∙ k.is_words)

pub allowed_is : {A : Type 0} (b : Bool) (t u : A) → allowed b (Some t) ≡ Some u → (b ≡ true) × (t ≡ u)
allowed_is true t u h = (refl, same_some h)
allowed_is false t u h = absurd (none_some h)

-- in a formed table a type has the number where it stands
number_is : (T : Table) → IsFormed T → (i : ℕ) (t : ValueType) → Holds T i t → number_of T t ≡ Some i
number_is T formed i t h = by (number_of T t) refl
  where
    by : (o : Option ℕ) → number_of T t ≡ o → number_of T t ≡ Some i
    by None is = absurd (lacks T t i is h)
    by (Some k) is = is ∙ ap Some (formed.once k i t (number_holds T t k is) h)

-- a type that has a number keeps it and its words
module _ (T U : Table) (g : Grown T U) (formed : IsFormed T) (fits : length U.types ≤ 2 ^ 32) where
  pub number_stays : (i : ℕ) (t : ValueType) → Holds T i t → number_of U t ≡ Some i
  number_stays i t h = number_is U (g.formed formed fits) i t (g.numbers i t h)

  pub known_stays : (t : ValueType) (k : Known T t) → (number_of U t ≡ Some k.number) × (words_at U k.number ≡ Some k.words)
  known_stays t k =
      let h = number_holds T t k.number k.is_number in
      (number_stays k.number t h, words_stay T U g formed fits k.number t h ∙ k.is_words)

  -- and where it is known in the end, it was before
  pub known_before : (i : ℕ) (t : ValueType) → Holds T i t → Known U t → Known T t
  known_before i t h k =
      let same : i ≡ k.number = same_some (sym (number_stays i t h) ∙ k.is_number) in
      record {
        number = i;
        words = k.words;
        is_number = number_is T formed i t h;
        is_words = sym (words_stay T U g formed fits i t h) ∙ ap (words_at U) same ∙ k.is_words;
      }

-- ---- an array type that enters

module _ (T : Table) (n : ℕ) (t : ValueType) (k : Known T t) where
  abbrev arrays : ValueType
  arrays = Array n (record { 0 = k.number })

  -- where the words of its elements are the same, it is refused by both tables or by none
  pub refused_as : (U : Table) → words_at U k.number ≡ Some k.words → refusal T arrays ≡ refusal U arrays
  refused_as U is = ap (λ (o : Option ℕ). refusal_by (n * unwrap_or o 1)) (k.is_words ∙ sym is)

  pub enters : refusal T arrays ≡ None → with_array T (Some n) (Some t) ≡ with_type T arrays
  enters fine =
      ap (with_numbered T n) k.is_number ∙ ap (λ o. if is_some o then T else with_type T arrays) fine

type_has : (T : Table) (t : ValueType) → (i : ℕ) × (number_of (with_type T t) t ≡ Some i)
type_has T t = by (number_of T t) refl
  where
    by : (o : Option ℕ) → number_of T t ≡ o → (i : ℕ) × (number_of (if is_some o then T else longer T t) t ≡ Some i)
    by None is = (length T.types, last_number T t is)
    by (Some i) is = (i, is)

-- then it has a number
pub entered_number : (T : Table) (n : ℕ) (t : ValueType) (k : Known T t) → refusal T (Array n (record { 0 = k.number })) ≡ None
    → (i : ℕ) × (number_of (with_array T (Some n) (Some t)) (Array n (record { 0 = k.number })) ≡ Some i)
entered_number T n t k fine =
    let has = type_has T (Array n (record { 0 = k.number })) in
    (has.0, ap (λ (U : Table). number_of U (Array n (record { 0 = k.number }))) (enters T n t k fine) ∙ has.1)

-- arrays of elements that are known are known where they have a number
pub array_known : (T : Table) → IsFormed T → (n e w i : ℕ) → words_at T e ≡ Some w
    → number_of T (Array n (record { 0 = e })) ≡ Some i → Known T (Array n (record { 0 = e }))
array_known T formed n e w i is_words is = record {
  number = i;
  words = n * w;
  is_number = is;
  is_words =
      words_there T i (Array n (record { 0 = e })) (number_holds T (Array n (record { 0 = e })) i is)
      ∙ array_words T formed n (record { 0 = e }) ∙ ap (option_map (λ v. n * v)) is_words;
}

-- and are the type of arrays
pub array_is : (T : Table) (n e : ℕ) (t : ValueType) → number_of T t ≡ Some e → Known T (Array n (record { 0 = e }))
    → array_in T n t ≡ Some (Array n (record { 0 = e }))
array_is T n e t is known =
    ap (option_and_then (λ i. known_array T n (record { 0 = i }))) is
    ∙ ap (λ b. allowed b (Some (Array n (record { 0 = e })))) (is_known_by T (Array n (record { 0 = e })) known)

-- the arrays of a length with elements of the type of a number have a number, and the elements have words
pub record Has (T : Table) (n i : ℕ) : Type 0 where
  pub number : ℕ
  pub words : ℕ
  pub is_number : number_of T (Array n (record { 0 = i })) ≡ Some number
  pub is_words : words_at T i ≡ Some words

-- ---- what a text states

module _ (text : List ℕ) (first last : Scope) (formed : IsFormed first.types) (fits : length last.types.types ≤ 2 ^ 32)
    (have_numbers : NamedHaveNumbers first) where
  pub formed_at : (s : Scope) → Leads first s → Leads s last → IsFormed s.types
  formed_at s before behind =
      before.grown.formed formed (let l = behind.grown.longer in omega arith)

  same_declaration : (s : Scope) → Leads first s → (word : List ℕ) → declaration s word ≡ declaration first word
  same_declaration s before word = ap (λ (q : Scope). declaration q word) before.others

  -- a type is stated after it has entered, and known then
  abbrev pub StatedAs : Scope → TreeEx → ValueType → Type 0
  StatedAs s x u = (stated_after text s x ≡ Some u) × Known (entered text s x).types u

  named_known : (s : Scope) → Leads first s → Leads s last → (word : List ℕ) (d : Option Declared) → declaration first word ≡ d
      → (u : ValueType) → declared_type last.types d ≡ Some u → (declared_type s.types d ≡ Some u) × Known s.types u
  named_known s before behind word (Some (declared.«Type» t)) is u h =
      let a = allowed_is (is_known last.types t) t u h in
      let held = have_numbers word t is in
      let k : Known s.types t =
      known_before s.types last.types behind.grown (formed_at s before behind) fits held.0 t
      (before.grown.numbers held.0 t held.1) (known_by last.types t a.0) in
      (ap (λ b. allowed b (Some t)) (is_known_by s.types t k) ∙ ap Some a.1, subst (Known s.types) a.1 k)
  named_known s before behind word d is u h = absurd (none_some h)

  -- arrays that are known in the end were known once they had entered
  arrays_known : (m : Scope) → Leads first m → (n : ℕ) (v : ValueType) → Known m.types v
      → Leads (record m { types = with_array m.types (Some n) (Some v) }) last
      → (u : ValueType) → array_in last.types n v ≡ Some u
      → (array_entered m.types (Some n) (Some v) ≡ Some u) × Known (with_array m.types (Some n) (Some v)) u
  arrays_known m before n v k behind u h =
      let T = m.types in
      let U = with_array T (Some n) (Some v) in
      let step = array_leads m (Some n) (Some v) in
      let whole = onwards m (record m { types = U }) last step behind in
      let after = onwards first m (record m { types = U }) before step in
      let formed_m = formed_at m before whole in
      let formed_u = formed_at (record m { types = U }) after behind in
      let formed_last = behind.grown.formed formed_u fits in
      let A : ValueType = Array n (record { 0 = k.number }) in
      let ended = known_stays T last.types whole.grown formed_m fits v k in
      let short : length U.types ≤ 2 ^ 32 = let l = behind.grown.longer in omega arith in
      let now = known_stays T U step.grown formed_m short v k in
      let of_last : known_array last.types n (record { 0 = k.number }) ≡ Some u =
      sym (ap (option_and_then (λ i. known_array last.types n (record { 0 = i }))) ended.0) ∙ h in
      let a = allowed_is (is_known last.types A) A u of_last in
      let in_last = known_by last.types A a.0 in
      let fine : refusal T A ≡ None =
      refused_as T n v k last.types ended.1
      ∙ held_fine last.types formed_last in_last.number A (number_holds last.types A in_last.number in_last.is_number) in
      let has = entered_number T n v k fine in
      let known : Known U A = array_known U formed_u n k.number k.words has.0 now.1 has.1 in
      (array_is U n k.number v now.0 known ∙ ap Some a.1, subst (Known U) a.1 known)

  -- arrays that aren't refused in the end have a number in the end
  pub array_there : (m : Scope) → Leads first m → (n : ℕ) (v : ValueType) (k : Known m.types v)
      → Leads (record m { types = with_array m.types (Some n) (Some v) }) last → (i : ℕ) → number_of last.types v ≡ Some i
      → refusal last.types (Array n (record { 0 = i })) ≡ None → Has last.types n i
  array_there m before n v k behind i is fine =
      let end = record m { types = with_array m.types (Some n) (Some v) } in
      let step = array_leads m (Some n) (Some v) in
      let whole = onwards m end last step behind in
      let ended = known_stays m.types last.types whole.grown (formed_at m before whole) fits v k in
      let same : k.number ≡ i = same_some (sym ended.0 ∙ is) in
      let A : ValueType = Array n (record { 0 = k.number }) in
      let fine_last : refusal last.types A ≡ None =
      ap (λ (j : ℕ). refusal last.types (Array n (record { 0 = j }))) same ∙ fine in
      let has = entered_number m.types n v k (refused_as m.types n v k last.types ended.1 ∙ fine_last) in
      let there =
      number_stays end.types last.types behind.grown (formed_at end (onwards first m end before step) behind) fits has.0 A
      (number_holds end.types A has.0 has.1) in
      subst (Has last.types n) same (record { number = has.0; words = k.words; is_number = there; is_words = ended.1 })

  -- what is stated in the end was stated and known once it had entered
  pub stated_known : (s : Scope) (x : TreeEx) → Leads first s → Leads (entered text s x) last → (u : ValueType)
      → stated_type text last x ≡ Some u → StatedAs s x u
  unfolding length_in
  stated_known s (name n) before behind u h =
      let word = spelled text n in
      let d = declaration first word in
      let to_last = onwards first s last before behind in
      let found = named_known s before behind word d refl u
      (sym (ap (declared_type last.types) (same_declaration last to_last word)) ∙ h) in
      (ap (declared_type s.types) (same_declaration s before word) ∙ found.0, found.1)
  stated_known s (paren at x) before behind u h = stated_known s x before behind u h
  stated_known s (array_type at l x) before behind u h =
      let r = entered text s l in
      let m = entered text r x in
      let o = length_in text r l in
      let q = stated_after text r x in
      let to_r = onwards first s r before (leads_ex text s l) in
      let step = array_leads m o q in
      let end = record m { types = with_array m.types o q } in
      let from_m = onwards m end last step behind in
      let to_m = onwards first r m to_r (leads_ex text r x) in
      let to_last = onwards first end last (onwards first m end to_m step) behind in
      let of_length = λ (n : ℕ). option_and_then (array_in last.types n) (stated_type text last x) in
      let sized = and_then_some of_length (length_in text last l) u h in
      let stated = and_then_some (array_in last.types sized.0) (stated_type text last x) u sized.2 in
      let inner = stated_known r x to_r from_m stated.0 stated.1 in
      let len_is : o ≡ Some sized.0 = length_same text first last r to_last.others to_r.others l sized.0 sized.1 in
      let behind_is : Leads (record m { types = with_array m.types (Some sized.0) (Some stated.0) }) last =
      subst (λ (p : Option ℕ). Leads (record m { types = with_array m.types p (Some stated.0) }) last) len_is
      (subst (λ (p : Option ValueType). Leads (record m { types = with_array m.types o p }) last) inner.0 behind) in
      let found = arrays_known m to_m sized.0 stated.0 inner.1 behind_is u stated.2 in (
        ap₂ (array_entered m.types) len_is inner.0 ∙ found.0,
        subst (λ (p : Option ℕ). Known (with_array m.types p q) u) (sym len_is)
            (subst (λ (p : Option ValueType). Known (with_array m.types (Some sized.0) p) u) (sym inner.0) found.1),
      )
  stated_known s x before behind u h = absurd (none_some h)
