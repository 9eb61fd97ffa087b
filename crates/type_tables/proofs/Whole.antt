-- The table of a program, from its verdicts.
use Rattle.std.proofs.Common.{slice_get, ◌≡◌, ◌⊎◌, inl, inr, ℕ, zero, suc, List, [], ◌∷◌, length, map, replicate, get_or, Option, None, Some, refl, sym, ap, ap₂, subst, ◌∙◌}
use Rattle.std.specs.Prelude.{Result, Ok, Err, IfOk}
use Rattle.std.specs.List.{fold}
use Rattle.std.proofs.lemmas.List.{length-replicate}
use Rattle.std.proofs.lemmas.Option.{same_Some, get_or_from_slice_get}
use Rattle.base.specs.declared.ids.TypeId.{TypeId}
use Rattle.base.specs.declared.value_type.ValueType.{ValueType}
use Rattle.base.specs.declared.value_type.ValueType.TheVariants.{Int as IntType, Bool as BoolType, Struct as StructType}
use Rattle.struct_sizes.specs.declared.verdicts.Verdict.{Verdict}
use Rattle.struct_sizes.specs.declared.verdicts.Verdicts.{Verdicts}
use Rattle.struct_sizes.specs.Structs.{Prefixed, Fields}
use Rattle.struct_sizes.specs.Verdicts.{IsSettled}
use Rattle.typed.specs.Tables.{Table, Holds, with_all}
use Rattle.typed.specs.Trees.{words_of}
use Rattle.typed.specs.Formed.{IsFormed, AreStructWords}
use Rattle.type_tables.specs.Told.{field_number, struct_numbers, basic, with_struct, sized_structs, entered_types, program_table}
use Rattle.type_tables.specs.Types.{AllArrays, IsNumberOf, AreNumbersOf, IsToldAs, TellsEach, HaveWords, ProgramTells}
use Rattle.type_tables.specs.Fits.{Fits, IsUntold, StructsFit, AreToldAs}
use Rattle.type_tables.proofs.Standing.{IsOnce, number_in_is, structs_structs, EachArrays, IsInSome, structs_old, told_stays, HasArrays, all_numbers_are}
use Rattle.type_tables.proofs.Counting.{are_arrays}
use Rattle.type_tables.proofs.Ordered.{told_at, can_tell, told_now_at, IsProgram}
use Rattle.type_tables.proofs.Verdicts.{sized_words, words_there, sized_length, sized_from, program, found_words, sized_fields, structs_fit}

-- ---- numbers

number_is : (T : Table) → IsOnce T → (f : Option Prefixed) (e : TypeId) → IsNumberOf T f e → e ≡ field_number T f
number_is T once None e h = absurd h
number_is T once (Some t) e h = ap (λ (m : ℕ). let id : TypeId = record { 0 = m } in id) (sym (number_in_is T once t.prefixes t.base e.0 h))

numbers_are : (T : Table) → IsOnce T → (fs : Fields) (es : List TypeId) → AreNumbersOf T fs es → es ≡ map (field_number T) fs
numbers_are T once [] [] h = refl
numbers_are T once [] (e ∷ es) h = absurd h
numbers_are T once (f ∷ fs) [] h = absurd h
numbers_are T once (f ∷ fs) (e ∷ es) h = ap₂ (λ x xs. x ∷ xs) (number_is T once f e h.0) (numbers_are T once fs es h.1)

told_is : (T : Table) → IsOnce T → (s : Option Fields) (x : Option (List TypeId)) → IsToldAs T s x → x ≡ struct_numbers T s
told_is T once None None h = refl
told_is T once None (Some es) h = absurd h
told_is T once (Some fs) None h = absurd h
told_is T once (Some fs) (Some es) h = ap (λ xs. Some xs) (numbers_are T once fs es h)

all_told_are : (T : Table) → IsOnce T → (ss : List (Option Fields)) (xs : List (Option (List TypeId))) → AreToldAs T ss xs → xs ≡ map (struct_numbers T) ss
all_told_are T once [] [] h = refl
all_told_are T once [] (x ∷ xs) h = absurd h
all_told_are T once (s ∷ ss) [] h = absurd h
all_told_are T once (s ∷ ss) (x ∷ xs) h = ap₂ (λ y ys. y ∷ ys) (told_is T once s x h.0) (all_told_are T once ss xs h.1)

-- ---- the beginning

basic_types : (n : ℕ) → (i : ℕ) (u : ValueType) → Holds (basic n) i u → ((i ≡ 0) × (u ≡ IntType)) ⊎ ((i ≡ 1) × (u ≡ BoolType))
basic_types n zero u h = inl (refl, sym (same_Some IntType u h))
basic_types n (suc zero) u h = inr (refl, sym (same_Some BoolType u h))
basic_types n (suc (suc i)) u h = absurd cc h

basic_once : (n : ℕ) → IsOnce (basic n)
basic_once n i j t a b = elim (basic_types n i t a) [
  | inl p ↦ elim (basic_types n j t b) [
    | inl q ↦ p.0 ∙ sym q.0
    | inr q ↦ absurd (let bad : IntType ≡ BoolType = sym p.1 ∙ q.1 in cc)
  ]
  | inr p ↦ elim (basic_types n j t b) [
    | inl q ↦ absurd (let bad : IntType ≡ BoolType = sym q.1 ∙ p.1 in cc)
    | inr q ↦ p.0 ∙ sym q.0
  ]
]

all_same : (d : Option (List TypeId)) (n s : ℕ) → get_or (replicate n d) s d ≡ d
all_same d zero s = refl
all_same d (suc n) zero = refl
all_same d (suc n) (suc s) = all_same d n s

-- ---- the whole

pub if_ok : {A E : Type 0} (r : Result A E) (a : A) (P : A → Type 0) → IfOk r (λ x. x ≡ a) → P a → IfOk r P
if_ok (Ok x) a P is holds = subst P (sym is) holds
if_ok (Err e) a P is holds = tt

module _ (ss : List Fields) (found : Verdicts) (settled : IsSettled ss found) (arrays : AllArrays ss) where
  abbrev structs : List (Option Fields)
  structs = sized_structs ss found.verdicts.items

  pub fit : StructsFit structs
  fit = structs_fit ss settled.0 found settled.1 arrays

  each_array : EachArrays structs
  each_array k fs at j t there =
      let s = sized_from ss found.verdicts.items k fs (get_or_from_slice_get structs k (Some fs) None at) in
      arrays k j fs t s.1 there

  -- what holds of a table in which all types have entered, with the numbers of those of each struct
  pub record IsWhole (T : Table) (ids : List (Option (List TypeId))) : Type 0 where
    pub formed : IsFormed (with_all T ids)
    pub found_words : AreStructWords (with_all T ids) found.words.items
    pub table : with_all T ids ≡ program_table structs
    pub fields : TellsEach (with_all T ids) structs
    pub words : HaveWords (with_all T ids) found.verdicts.items

  has_arrays : (k : ℕ) (fs : Fields) → slice_get structs k ≡ Some (Some fs) → (i : ℕ) (f : Option Prefixed) → slice_get fs i ≡ Some f → HasArrays f
  has_arrays k fs at i f there = by f (fit k (Some fs) at i f there)
    where
      by : (f : Option Prefixed) → Fits f → HasArrays f
      by None h = h
      by (Some t) h = are_arrays t.prefixes h.0 h.2

  pub program_tells : TellsEach (program_table structs) structs
  program_tells k =
      let T = entered_types structs in
      let ids = map (struct_numbers T) structs in
      let told : AreToldAs T structs ids = all_numbers_are structs (basic (length structs)) (basic_once (length structs)) has_arrays in
      told_stays T (program_table structs) (λ i t h. h) (get_or structs k None) (get_or ids k None) (told_at T structs ids told k)

  module _ (T : Table) (is : T ≡ entered_types structs) (formed : IsFormed T) (ids : List (Option (List TypeId))) (told : AreToldAs T structs ids) where
    same_structs : T.structs ≡ replicate (length structs) None
    same_structs = ap (λ U. U.structs) is ∙ structs_structs structs (basic (length structs))

    none : IsUntold T
    none s = ap (λ xs. get_or xs s None) same_structs ∙ all_same None (length structs) s

    size : length T.structs ≡ length structs
    size = ap length same_structs ∙ length-replicate (length structs) None

    abbrev Known : Table → Type 0
    Known U = (i : ℕ) (u : ValueType) → Holds U i u → (u ≡ IntType) ⊎ ((u ≡ BoolType) ⊎ IsInSome U structs i)

    known_begun : Known (entered_types structs)
    known_begun i u h = elim (structs_old structs (basic (length structs)) (basic_once (length structs)) each_array i u h) [
      | inl a ↦ elim (basic_types (length structs) i u a) [ inl b ↦ inl b.1 | inr b ↦ inr (inl b.1) ]
      | inr p ↦ inr (inr p)
    ]

    known : Known T
    known = subst Known (sym is) known_begun

    is_program : IsProgram ss structs (sized_words found.verdicts.items)
    is_program = program ss settled.0 found settled.1 arrays

    tells : IsFormed (with_all T ids) × AreStructWords (with_all T ids) (sized_words found.verdicts.items)
    tells = can_tell ss structs (sized_words found.verdicts.items) is_program T formed none size ids told known

    -- the words that are found are those of the structs that are told
    found_now : AreStructWords (with_all T ids) found.words.items
    found_now s es e = by (get_or structs s.0 None) refl
      where
        no : (es : List TypeId) → IsToldAs T None (get_or ids s.0 None) → get_or ids s.0 None ≡ Some es → ⊥
        no es h e = subst (IsToldAs T None) e h

        by : (o : Option Fields) → get_or structs s.0 None ≡ o → get_or found.words.items s.0 None ≡ words_of (with_all T ids) (StructType s)
        by None q = absurd (no es (subst (λ o. IsToldAs T o (get_or ids s.0 None)) q (told_at T structs ids told s.0)) e)
        by (Some fs) q = found_words ss settled.0 found settled.1 arrays s.0 fs q ∙ tells.1 s es e

    -- each struct that isn't refused is told, and has its words
    sized_now : HaveWords (with_all T ids) found.verdicts.items
    sized_now k w at =
        let fs = sized_fields ss settled.0 found settled.1 arrays k.0 w at in
        let es = told_now_at ss structs (sized_words found.verdicts.items) is_program T formed none size ids told k.0 fs.0 fs.1 in
        sym (tells.1 k es.0 es.1) ∙ words_there found.verdicts.items k.0 w at

    is_table : with_all T ids ≡ program_table structs
    is_table =
        ap (with_all T) (all_told_are T formed.once structs ids told)
        ∙ ap (λ U. with_all U (map (struct_numbers U) structs)) is

    pub whole_by : IsWhole T ids
    whole_by = record {
      formed = tells.0;
      found_words = found_now;
      table = is_table;
      fields = λ k. told_stays T (with_all T ids) (λ i t h. h) (get_or structs k None) (get_or ids k None) (told_at T structs ids told k);
      words = sized_now;
    }

  -- the same from what is known of the parts where they were made
  pub whole : (T U : Table) (vs : List Verdict) (n : ℕ) (ids : List (Option (List TypeId))) → vs ≡ found.verdicts.items → T ≡ fold with_struct U (sized_structs ss vs) → U ≡ basic n → n ≡ length ss → IsFormed T → AreToldAs T (sized_structs ss vs) ids → IsWhole T ids
  whole T U vs n ids same entered begun count formed told =
      whole_by T
      (entered
      ∙ ap (λ us. fold with_struct U (sized_structs ss us)) same
      ∙ ap (λ V. fold with_struct V structs) (begun ∙ ap basic (count ∙ sym (sized_length ss found.verdicts.items))))
      formed ids (subst (λ us. AreToldAs T (sized_structs ss us) ids) same told)

pub program_tells_each : ProgramTells
program_tells_each ss found settled arrays = program_tells ss found settled arrays
