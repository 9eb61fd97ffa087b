-- The words of the types of fields, where the structs that they hold are told.
use Rattle.std.proofs.Common.{◌≡◌, inl, inr, ℕ, suc, ◌+◌, ◌*◌, ◌≤◌, List, [], ◌∷◌, Option, None, Some, All, slice_get, is_some, refl, sym, ap, ap₂, ◌∙◌}
use Rattle.std.specs.Option.{unwrap_or, option_map}
use Rattle.std.proofs.lemmas.List.Elements.{All-cons, All-nil}
use Rattle.std.proofs.lemmas.List.Sums.{sum_by-cons}
use Rattle.typed_syntax.specs.Types.{width}
use Rattle.base.specs.declared.ids.TypeId.{TypeId}
use Rattle.base.specs.declared.value_type.ValueType.TheVariants.{Int as IntType, Bool as BoolType, Array as ArrayType}
use Rattle.struct_sizes.specs.declared.forms.Prefix.{Prefix}
use Rattle.struct_sizes.specs.declared.forms.Prefix.TheVariants.{Pointer, Slice, Array}
use Rattle.struct_sizes.specs.declared.forms.Base.{Base}
use Rattle.struct_sizes.specs.declared.forms.Base.TheVariants.{Int, Bool as Truth, Struct}
use Rattle.struct_sizes.specs.Structs.{Prefixed, Fields}
use Rattle.struct_sizes.specs.Words.{prefix_words, prefixed_words, base_words, field_words, added, sum_words}
use Rattle.typed.specs.Tables.{Table, fields_of}
use Rattle.typed.specs.Words.{IsInLimits}
use Rattle.typed.specs.Trees.{words_of}
use Rattle.typed.specs.Formed.{TreesAreMade, HasWords, AreStructWords, words_at, sum_of}
use Rattle.typed.proofs.Counted.{array_words_by}
use Rattle.typed.proofs.Entered.{words_there}
use Rattle.type_tables.specs.Told.{base_type}
use Rattle.type_tables.specs.Types.{AreArrays, IsTypeOf, IsNumberOf, AreNumbersOf}
use Rattle.type_tables.specs.Fits.{array_words, AreInLimits}
use Rattle.type_tables.proofs.Standing.{IsPart}

-- a field whose base has words, with which all arrays are within the limits
abbrev pub IsSized : List (Option ℕ) → Option Prefixed → Type 0
IsSized words None = ⊥
IsSized words (Some t) = (w : ℕ) × (base_words words t.base ≡ Some w) × IsInLimits w × AreInLimits t.prefixes w

pub are_arrays : (ps : List Prefix) (w : ℕ) → AreInLimits ps w → AreArrays ps
are_arrays [] w l = tt
are_arrays (Pointer ∷ ps) w l = l.0
are_arrays (Slice ∷ ps) w l = l.0
are_arrays (Array n ∷ ps) w l = are_arrays ps w l.2

pub prefixed_is : (ps : List Prefix) (w : ℕ) → AreArrays ps → prefixed_words ps (Some w) ≡ Some (array_words ps w)
prefixed_is [] w arrays = refl
prefixed_is (Pointer ∷ ps) w arrays = absurd arrays
prefixed_is (Slice ∷ ps) w arrays = absurd arrays
prefixed_is (Array n ∷ ps) w arrays = ap (prefix_words (Array n)) (prefixed_is ps w arrays)

-- the base is no struct, or one that's told
abbrev pub StandsTold : Table → Base → Type 0
StandsTold U Int = Unit {0}
StandsTold U Truth = Unit {0}
StandsTold U (Struct id) = (es : List TypeId) × (fields_of U id.0 ≡ Some es)

module _ (U : Table) (trees : TreesAreMade U) where
  pub type_words : (ps : List Prefix) (b : Base) (i w : ℕ) → words_of U (base_type b) ≡ Some w → IsTypeOf U ps b i → words_at U i ≡ Some (array_words ps w)
  type_words [] b i w e h = words_there U i (base_type b) h ∙ e
  type_words (Pointer ∷ ps) b i w e h = absurd h
  type_words (Slice ∷ ps) b i w e h = absurd h
  type_words (Array n ∷ ps) b i w e h =
      words_there U i (ArrayType n h.0) h.1 ∙ array_words_by U trees n h.0 ∙ ap (option_map (λ v. n * v)) (type_words ps b h.0.0 w e h.2)

  pub part_words : (ps : List Prefix) (b : Base) (i w : ℕ) → words_of U (base_type b) ≡ Some w → w ≤ 65535 → AreInLimits ps w → IsPart U ps b i → (v : ℕ) × (words_at U i ≡ Some v) × (v ≤ 65535)
  part_words [] b i w e few l h = (w, type_words [] b i w e h, few)
  part_words (p ∷ ps) b i w e few l (inl h) = (array_words (p ∷ ps) w, type_words (p ∷ ps) b i w e h, l.1.1)
  part_words (p ∷ ps) b i w e few l (inr h) = part_words ps b i w e few l.2 h

  module _ (words : List (Option ℕ)) (are : AreStructWords U words) where
    pub base_known : (b : Base) → StandsTold U b → (w : ℕ) → base_words words b ≡ Some w → words_of U (base_type b) ≡ Some w
    base_known Int told w e = ap (option_map width) (trees IntType) ∙ e
    base_known Truth told w e = ap (option_map width) (trees BoolType) ∙ e
    base_known (Struct id) told w e = sym (are id told.0 told.1) ∙ e

    -- a field's type has the words that the field has
    field_is : (f : Option Prefixed) (e : TypeId) → IsSized words f → ((t : Prefixed) → f ≡ Some t → StandsTold U t.base) → IsNumberOf U f e → (v : ℕ) × (words_at U e.0 ≡ Some v) × (field_words words f ≡ Some v)
    field_is None e sized told number = absurd number
    field_is (Some t) e sized told number =
        let w = sized.0 in (
          array_words t.prefixes w,
          type_words t.prefixes t.base e.0 w (base_known t.base (told t refl) w sized.1) number,
          ap (prefixed_words t.prefixes) sized.1 ∙ prefixed_is t.prefixes w (are_arrays t.prefixes w sized.3),
        )

    pub fields_are : (fs : Fields) (es : List TypeId) → ((i : ℕ) (f : Option Prefixed) → slice_get fs i ≡ Some f → IsSized words f) → ((i : ℕ) (t : Prefixed) → slice_get fs i ≡ Some (Some t) → StandsTold U t.base) → AreNumbersOf U fs es
        → All (HasWords U) es × (sum_words words fs ≡ Some (sum_of U es))
    fields_are [] [] sized told numbers = (All-nil (HasWords U), refl)
    fields_are [] (e ∷ es) sized told numbers = absurd numbers
    fields_are (f ∷ fs) [] sized told numbers = absurd numbers
    fields_are (f ∷ fs) (e ∷ es) sized told numbers =
        let one = field_is f e (sized 0 f refl) (λ t same. told 0 t (ap (λ g. Some g) same)) numbers.0 in
        let rest = fields_are fs es (λ i. sized (suc i)) (λ i. told (suc i)) numbers.1 in (
          All-cons (HasWords U) e es (ap is_some one.1) rest.0,
          ap₂ added one.2 rest.1
              ∙ ap (λ o. Some (unwrap_or o 0 + sum_of U es)) (sym one.1)
              ∙ ap (λ n. Some n) (sym (sum_by-cons (λ e. unwrap_or (words_at U e.0) 0) e es)),
        )
