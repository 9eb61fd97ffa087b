-- A type that a table knows has a number and words; so has the type of the elements of an array, and each part that is counted is there.
use Rattle.std.proofs.Common.{◌≡◌, ◌<◌, ◌*◌, ℕ, zero, suc, true, List, [], ◌∷◌, length, Option, Some, None, slice_get, refl, sym, ap, ◌∙◌, subst, cond, arith}
use Rattle.std.specs.Prelude.{option_and_then, is_some}
use Rattle.std.specs.Option.{option_map}
use Rattle.std.proofs.lemmas.Bool.{lt-ltb}
use Rattle.std.proofs.lemmas.Option.{get_or_from_slice_get}
use Rattle.base.specs.declared.ids.TypeId.{TypeId}
use Rattle.base.specs.declared.value_type.ValueType.{ValueType}
use Rattle.base.specs.declared.value_type.ValueType.TheVariants.{Int, Bool as Truth, Struct, Array, Pointer, Slice}
use Rattle.typed_syntax.specs.Types.{TypeTree, width}
use Rattle.typed.specs.Tables.{Table, Holds, fields_of, number_of, type_at}
use Rattle.typed.specs.Trees.{tree_of, words_of}
use Rattle.typed.specs.Words.{IsInLimits}
use Rattle.typed.specs.Formed.{IsFormed, tree_at, words_at}
use Rattle.typed.proofs.Numbers.{number_holds, lacks}
use Rattle.typed.proofs.Counted.{array_words}
use Rattle.typed.proofs.Entered.{words_there}
use Rattle.type_faults.specs.Given.{allowed}
use Rattle.type_faults.proofs.Options.{and_then_some, map_some}
use Rattle.names.specs.declared.fields.Part.{Part}
use Rattle.names.specs.Types.{is_known}
use Rattle.names.specs.Fields.{field_count, part_type, typed_part, known_number, part_of, part_count}

some_there : {A : Type 0} (o : Option A) → is_some o ≡ true → (x : A) × (o ≡ Some x)
some_there None is = cc is
some_there (Some x) is = (x, refl)

pub record Knows (T : Table) (t : ValueType) : Type 0 where
  pub number : ℕ
  pub words : ℕ
  pub is : number_of T t ≡ Some number
  pub known : known_number T t ≡ Some number
  pub has : words_at T number ≡ Some words

pub knows : (T : Table) (t : ValueType) → is_known T t ≡ true → Knows T t
knows T t is = by (number_of T t) refl is
  where
    by : (o : Option ℕ) → number_of T t ≡ o → is_some (option_and_then (words_at T) o) ≡ true → Knows T t
    by None e k = cc k
    by (Some j) e k =
        let w = some_there (words_at T j) k in
        record { number = j; words = w.0; is = e; known = ap (λ b. allowed b (number_of T t)) is ∙ e; has = w.1 }

-- ---- arrays

module _ (T : Table) (formed : IsFormed T) (n : ℕ) (e : TypeId) (is : is_known T (Array n e) ≡ true) where
  -- an array's elements have words, and together they are within the limits
  pub record ElementWords : Type 0 where
    pub words : ℕ
    pub has : words_at T e.0 ≡ Some words
    pub limits : IsInLimits (n * words)

  pub elements_have : ElementWords
  elements_have =
      let k = knows T (Array n e) is in
      let there : Holds T k.number (Array n e) = number_holds T (Array n e) k.number k.is in
      let all : words_of T (Array n e) ≡ Some k.words = sym (words_there T k.number (Array n e) there) ∙ k.has in
      let v = map_some (λ w. n * w) (words_at T e.0) k.words (sym (array_words T formed n e) ∙ all) in
      record { words = v.0; has = v.1; limits = subst IsInLimits (sym v.2) (formed.types k.number (Array n e) k.words there all) }

-- a type that stands in a table and has a tree is known
known_by : (T : Table) (t : ValueType) (i : ℕ) (x : TypeTree) → Holds T i t → tree_of T t ≡ Some x → is_known T t ≡ true
known_by T t i x h tree = by (number_of T t) refl
  where
    by : (o : Option ℕ) → number_of T t ≡ o → is_some (option_and_then (words_at T) o) ≡ true
    by None e = absurd (lacks T t i e h)
    by (Some j) e = ap is_some (words_there T j t (number_holds T t j e)) ∙ ap (λ o. is_some (option_map width o)) tree

pub element_known : (T : Table) → IsFormed T → (n : ℕ) (e : TypeId) → is_known T (Array n e) ≡ true → is_known T (type_at T e.0) ≡ true
element_known T formed n e is =
    let w = elements_have T formed n e is in
    let x = map_some width (tree_at T e.0) w.words w.has in
    let u = and_then_some (tree_of T) (slice_get T.types e.0) x.0 x.1 in
    subst (λ t. is_known T t ≡ true) (sym (get_or_from_slice_get T.types e.0 u.0 Int u.1)) (known_by T u.0 e.0 x.0 u.1 u.2)

-- ---- parts

get_within : {A : Type 0} (xs : List A) (n : ℕ) → n < length xs → (x : A) × (slice_get xs n ≡ Some x)
get_within [] n l = absurd (omega (arith, l))
get_within (x ∷ xs) zero l = (x, refl)
get_within (x ∷ xs) (suc n) l = get_within xs n (omega (arith, l))

field_there : (T : Table) (o : Option (List TypeId)) (n : ℕ) → n < field_count o → (u : ValueType) × (option_map (λ e. type_at T e.0) (option_and_then (λ fields. slice_get fields n) o) ≡ Some u)
field_there T None n l = absurd (omega (arith, l))
field_there T (Some fields) n l = let x = get_within fields n l in (type_at T x.0.0, ap (option_map (λ e. type_at T e.0)) x.1)

type_there : (T : Table) (t : ValueType) (n : ℕ) → n < part_count T t → (u : ValueType) × (part_type T t n ≡ Some u)
type_there T Int n l = absurd (omega (arith, l))
type_there T Truth n l = absurd (omega (arith, l))
type_there T (Pointer e) n l = absurd (omega (arith, l))
type_there T (Slice e) n l = absurd (omega (arith, l))
type_there T (Struct k) n l = field_there T (fields_of T k.0) n l
type_there T (Array m e) n l = (type_at T e.0, ap (λ b. cond b (Some (type_at T e.0)) None) (lt-ltb n m l))

-- each number below their count is that of a part
pub part_there : (T : Table) (t : ValueType) (n : ℕ) → is_known T t ≡ true → n < part_count T t → (p : Part) × (part_of T t n ≡ Some p)
part_there T t n is l =
    let k = knows T t is in
    let u = type_there T t n l in
    (typed_part k.number n u.0, ap (option_and_then (λ owner. option_map (typed_part owner n) (part_type T t n))) k.known ∙ ap (option_map (typed_part k.number n)) u.1)
