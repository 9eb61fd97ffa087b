-- What the verdicts on structs say of those that aren't refused.
use Rattle.std.proofs.Common.{◌≡◌, inl, inr, ℕ, zero, suc, ◌<◌, List, [], ◌∷◌, length, get_or, drop, true, if◌then◌else◌, Option, None, Some, slice_get, refl, sym, ap, ap₂, subst, ◌∙◌, arith}
use Rattle.std.specs.List.{flat_map}
use Rattle.std.proofs.lemmas.Bool.{cases_lt, le-ltb}
use Rattle.std.proofs.Math.Dec.{eqb-suc-zero}
use Rattle.std.proofs.lemmas.Option.{same_Some, get_or_from_slice_get}
use Rattle.base.specs.declared.ids.StructId.{StructId}
use Rattle.struct_sizes.specs.declared.forms.Prefix.{Prefix}
use Rattle.struct_sizes.specs.declared.forms.Prefix.TheVariants.{Pointer, Slice, Array}
use Rattle.struct_sizes.specs.declared.forms.Base.{Base}
use Rattle.struct_sizes.specs.declared.forms.Base.TheVariants.{Int, Bool as Truth, Struct}
use Rattle.struct_sizes.specs.declared.verdicts.SizeFault.{SizeFault}
use Rattle.struct_sizes.specs.declared.verdicts.SizeFault.TheVariants.{ZeroSize, TooLarge}
use Rattle.struct_sizes.specs.declared.verdicts.Verdict.{Verdict}
use Rattle.struct_sizes.specs.declared.verdicts.Verdict.TheVariants.{Sized, Refused}
use Rattle.struct_sizes.specs.declared.verdicts.Verdicts.{Verdicts}
use Rattle.struct_sizes.specs.Structs.{Prefixed, Fields, named, is_in_place, held_in}
use Rattle.struct_sizes.specs.Words.{base_words, sum_words}
use Rattle.struct_sizes.specs.Faults.{size_fault, known_fault, outer_fault}
use Rattle.struct_sizes.specs.Verdicts.{IsRefused, IsVerdict, AreVerdicts, BaseRefused, IsFieldType, IsStructType}
use Rattle.struct_sizes.specs.Kept.{kept, Agree}
use Rattle.struct_sizes.proofs.Capped.{no_fault_small, agree_at, exact_from}
use Rattle.struct_sizes.proofs.Flaws.{past_fault}
use Rattle.struct_sizes.proofs.Sums.{held_row, same_sums}
use Rattle.struct_sizes.proofs.Typed.{none_of}
use Rattle.struct_sizes.proofs.Settled.{sized_is_type}
use Rattle.components.specs.Graph.{Among, itself}
use Rattle.components.proofs.Lists.{at_there, among_left, among_right}
use Rattle.typed.specs.Words.{IsInLimits}
use Rattle.type_tables.specs.Told.{sized_struct, sized_structs}
use Rattle.type_tables.specs.Types.{AreArrays, AllArrays}
use Rattle.type_tables.specs.Fits.{array_words, AreInLimits, MayHave, Fits, StructsFit}
use Rattle.type_tables.proofs.Counting.{IsSized, prefixed_is}
use Rattle.type_tables.proofs.Ordered.{IsProgram}

-- the words of structs that aren't refused
abbrev words_in : Verdict → Option ℕ
words_in (Sized w) = Some w
words_in (Refused r) = None

abbrev pub sized_words : List Verdict → List (Option ℕ)
sized_words [] = []
sized_words (Sized w ∷ vs) = Some w ∷ sized_words vs
sized_words (Refused r ∷ vs) = None ∷ sized_words vs

pub words_there : (vs : List Verdict) (k w : ℕ) → slice_get vs k ≡ Some (Sized w) → get_or (sized_words vs) k None ≡ Some w
words_there [] k w at = absurd cc at
words_there (Sized v ∷ vs) zero w at = ap words_in (same_Some (Sized v) (Sized w) at)
words_there (Refused r ∷ vs) zero w at = let bad : Refused r ≡ Sized w = same_Some (Refused r) (Sized w) at in absurd cc
words_there (Sized v ∷ vs) (suc k) w at = words_there vs k w at
words_there (Refused r ∷ vs) (suc k) w at = words_there vs k w at

pub words_from : (vs : List Verdict) (k w : ℕ) → get_or (sized_words vs) k None ≡ Some w → slice_get vs k ≡ Some (Sized w)
words_from [] k w e = absurd cc e
words_from (Sized v ∷ vs) zero w e = ap (λ n. Some (Sized n)) (same_Some v w e)
words_from (Refused r ∷ vs) zero w e = absurd cc e
words_from (Sized v ∷ vs) (suc k) w e = words_from vs k w e
words_from (Refused r ∷ vs) (suc k) w e = words_from vs k w e

pub sized_length : (ss : List Fields) (vs : List Verdict) → length (sized_structs ss vs) ≡ length ss
sized_length [] vs = refl
sized_length (fs ∷ ss) [] = ap suc (sized_length ss [])
sized_length (fs ∷ ss) (v ∷ vs) = ap suc (sized_length ss vs)

none_sized : (ss : List Fields) (k : ℕ) (fs : Fields) → get_or (sized_structs ss []) k None ≡ Some fs → ⊥
none_sized [] k fs e = absurd cc e
none_sized (gs ∷ ss) zero fs e = absurd cc e
none_sized (gs ∷ ss) (suc k) fs e = none_sized ss k fs e

pub sized_from : (ss : List Fields) (vs : List Verdict) (k : ℕ) (fs : Fields) → get_or (sized_structs ss vs) k None ≡ Some fs → (w : ℕ) × (slice_get ss k ≡ Some fs) × (slice_get vs k ≡ Some (Sized w))
sized_from [] vs k fs e = absurd cc e
sized_from (gs ∷ ss) [] k fs e = absurd (none_sized (gs ∷ ss) k fs e)
sized_from (gs ∷ ss) (Sized w ∷ vs) zero fs e = (w, e, refl)
sized_from (gs ∷ ss) (Refused r ∷ vs) zero fs e = absurd cc e
sized_from (gs ∷ ss) (v ∷ vs) (suc k) fs e = sized_from ss vs k fs e

pub sized_there : (ss : List Fields) (vs : List Verdict) (k w : ℕ) (fs : Fields) → slice_get ss k ≡ Some fs → slice_get vs k ≡ Some (Sized w) → get_or (sized_structs ss vs) k None ≡ Some fs
sized_there [] vs k w fs at is = absurd cc at
sized_there (gs ∷ ss) [] k w fs at is = absurd cc is
sized_there (gs ∷ ss) (v ∷ vs) zero w fs at is = ap (λ x. sized_struct x gs) (same_Some v (Sized w) is) ∙ at
sized_there (gs ∷ ss) (v ∷ vs) (suc k) w fs at is = sized_there ss vs k w fs at is

-- ---- arrays

positive : (n : ℕ) → size_fault n ≡ None → 0 < n
positive zero e = let bad : Some ZeroSize ≡ None = e in absurd cc
positive (suc n) e = omega arith

abbrev pub outer_fault_at : List Prefix → ℕ → ℕ → Option SizeFault
outer_fault_at ps level w = outer_fault (drop level ps) (Some w)

in_limits : (w : ℕ) → IsInLimits w → size_fault w ≡ None
in_limits zero l = absurd (let z : 0 < 0 = l.0 in omega arith)
in_limits (suc w) l = ap₂ (λ a b. if a then Some ZeroSize else if b then Some TooLarge else None) (eqb-suc-zero w) (le-ltb 65535 (suc w) l.1)

pub within : (ps : List Prefix) (w : ℕ) → AreArrays ps → ((level : ℕ) → outer_fault_at ps level w ≡ None) → AreInLimits ps w
within [] w arrays fine = tt
within (Pointer ∷ ps) w arrays fine = absurd arrays
within (Slice ∷ ps) w arrays fine = absurd arrays
within (Array n ∷ ps) w arrays fine =
    let none : size_fault (array_words (Array n ∷ ps) w) ≡ None = sym (ap known_fault (prefixed_is (Array n ∷ ps) w arrays)) ∙ fine 0 in
    (tt, (positive (array_words (Array n ∷ ps) w) none, no_fault_small (array_words (Array n ∷ ps) w) none), within ps w arrays (λ level. fine (suc level)))

in_place : (ps : List Prefix) → AreArrays ps → is_in_place ps ≡ true
in_place [] arrays = refl
in_place (Pointer ∷ ps) arrays = absurd arrays
in_place (Slice ∷ ps) arrays = absurd arrays
in_place (Array n ∷ ps) arrays = in_place ps arrays

held_here : (t : Prefixed) (id : StructId) → AreArrays t.prefixes → t.base ≡ Struct id → held_in (Some t) ≡ id.0 ∷ []
held_here t id arrays is = ap (λ b. if b then named t.base else []) (in_place t.prefixes arrays) ∙ ap named is

among_held : (fs : Fields) (i : ℕ) (t : Prefixed) (id : StructId) → slice_get fs i ≡ Some (Some t) → AreArrays t.prefixes → t.base ≡ Struct id → Among id.0 (flat_map held_in fs)
among_held [] i t id at arrays is = absurd cc at
among_held (f ∷ fs) zero t id at arrays is =
    among_left id.0 (held_in f) (flat_map held_in fs)
    (subst (Among id.0) (sym (ap held_in (same_Some f (Some t) at) ∙ held_here t id arrays is)) (inl refl))
among_held (f ∷ fs) (suc i) t id at arrays is = among_right id.0 (held_in f) (flat_map held_in fs) (among_held fs i t id at arrays is)

-- ---- structs

module _ (ss : List Fields) (table : List (Option ℕ)) (found : Verdicts) (a : AreVerdicts ss table found) (arrays : AllArrays ss) where
  abbrev vs : List Verdict
  vs = found.verdicts.items

  abbrev structs : List (Option Fields)
  structs = sized_structs ss vs

  abbrev words : List (Option ℕ)
  words = sized_words vs

  struct_type : (k w : ℕ) → slice_get vs k ≡ Some (Sized w) → IsStructType ss table k w
  struct_type k w at = sized_is_type ss table found k w a at

  limits : (k w : ℕ) → slice_get vs k ≡ Some (Sized w) → IsInLimits w
  limits k w at = let s = struct_type k w at in (s.some, s.few)

  table_there : (k w : ℕ) → slice_get vs k ≡ Some (Sized w) → get_or table k None ≡ Some w
  table_there k w at = get_or_from_slice_get table k (Some w) None (a.verdicts k (Sized w) at).1

  -- a struct that isn't refused has words and fields
  stands : (j : ℕ) → (IsRefused ss table j → ⊥) → (w : ℕ) × (fs : Fields) × (slice_get vs j ≡ Some (Sized w)) × (get_or structs j None ≡ Some fs)
  stands j free = elim (cases_lt j (length ss)) [
    | inr past ↦ absurd (free (j, itself, inl (past_fault ss table j past)))
    | inl low ↦ (
        let v = at_there vs j (let z = a.size in omega (arith, low, z)) in
        let fs = at_there ss j low in
        by v.0 v.1 (a.verdicts j v.0 v.1) fs.0 fs.1
        )
  ]
    where
      by : (v : Verdict) → slice_get vs j ≡ Some v → IsVerdict ss table j v → (fs : Fields) → slice_get ss j ≡ Some fs → (w : ℕ) × (fs : Fields) × (slice_get vs j ≡ Some (Sized w)) × (get_or structs j None ≡ Some fs)
      by (Sized w) at is fs here = (w, fs, at, sized_there ss vs j w fs here at)
      by (Refused r) at is fs here = absurd (free is.0)

  field_types : (k w : ℕ) (fs : Fields) → slice_get ss k ≡ Some fs → slice_get vs k ≡ Some (Sized w) → (i : ℕ) (f : Option Prefixed) → slice_get fs i ≡ Some f → IsFieldType ss table f
  field_types k w fs here at i f there =
      let s = struct_type k w at in
      s.types i f (ap (λ (xs : Fields). slice_get xs i) (same_Some s.fields fs (sym s.is ∙ here)) ∙ there)

  base_sized : (b : Base) → (BaseRefused ss table b → ⊥) → (w : ℕ) × (base_words words b ≡ Some w) × (base_words table b ≡ Some w) × IsInLimits w
  base_sized Int free = (1, refl, refl, (omega arith, omega arith))
  base_sized Truth free = (1, refl, refl, (omega arith, omega arith))
  base_sized (Struct id) free =
      let s = stands id.0 free in
      (s.0, words_there vs id.0 s.0 s.2, table_there id.0 s.0 s.2, limits id.0 s.0 s.2)

  field_sized : (f : Option Prefixed) → IsFieldType ss table f → ((t : Prefixed) → f ≡ Some t → AreArrays t.prefixes) → IsSized words f
  field_sized None type are = type
  field_sized (Some t) type are =
      let b = base_sized t.base type.0 in
      let fine = λ (level : ℕ). none_of (outer_fault_at t.prefixes level b.0) (λ fault h. type.1 level fault (ap (λ o. outer_fault (drop level t.prefixes) o) b.2 ∙ h)) in
      (b.0, b.1, b.3, within t.prefixes b.0 (are t refl) fine)

  sums_are : (k w : ℕ) (fs : Fields) → slice_get ss k ≡ Some fs → slice_get vs k ≡ Some (Sized w) → get_or words k None ≡ sum_words words fs
  sums_are k w fs here at =
      let s = struct_type k w at in
      let is : s.fields ≡ fs = same_Some s.fields fs (sym s.is ∙ here) in
      let same = same_sums words table fs (λ j h.
      let r = stands j (s.held j (subst (Among j) (sym (held_row ss k fs here)) h)) in
      words_there vs j r.0 r.2 ∙ sym (table_there j r.0 r.2)) in
      words_there vs k w at ∙ sym s.sum ∙ ap (sum_words table) is ∙ sym same

  pub program : IsProgram ss structs words
  program = record {
    size = sized_length ss vs;
    free = λ k fs e way. let s = sized_from ss vs k fs e in (a.verdicts k (Sized s.0) s.2).0 (k, itself, inl (inr way));
    held = λ k fs e i t id there base. (
        let s = sized_from ss vs k fs e in
        let among = subst (Among id.0) (sym (held_row ss k fs s.1)) (among_held fs i t id there (arrays k i fs t s.1 there) base) in
        let r = stands id.0 ((struct_type k s.0 s.2).held id.0 among) in
        (among, r.1, r.3)
        );
    fields = λ k fs e i f there. (
        let s = sized_from ss vs k fs e in
        field_sized f (field_types k s.0 fs s.1 s.2 i f there) (λ t same. arrays k i fs t s.1 (there ∙ ap (λ g. Some g) same))
        );
    sums = λ k fs e. let s = sized_from ss vs k fs e in sums_are k s.0 fs s.1 s.2;
    within = λ k w e. limits k w (words_from vs k w e);
  }

  -- what is found has these words
  pub found_words : (k : ℕ) (fs : Fields) → get_or structs k None ≡ Some fs → get_or found.words.items k None ≡ get_or words k None
  found_words k fs e =
      let s = sized_from ss vs k fs e in
      let w = s.0 in
      let l = limits k w s.2 in
      let agree : Agree (Some w) (get_or found.words.items k None) = sym (agree_at found.words.items table a.kept k ∙ ap kept (table_there k w s.2)) in
      exact_from w (get_or found.words.items k None) agree (in_limits w l) ∙ sym (words_there vs k w s.2)

  pub sized_fields : (k w : ℕ) → slice_get vs k ≡ Some (Sized w) → (fs : Fields) × (get_or structs k None ≡ Some fs)
  sized_fields k w at =
      let s = struct_type k w at in
      (s.fields, sized_there ss vs k w s.fields s.is at)

  -- the fields fit a table in which no struct is told
  pub structs_fit : StructsFit structs
  structs_fit k None there = tt
  structs_fit k (Some fs) there = λ i f at. fit f (program.fields k fs (get_or_from_slice_get structs k (Some fs) None there) i f at)
    where
      fit_base : (b : Base) (w : ℕ) → base_words words b ≡ Some w → 0 < w → MayHave b w
      fit_base Int w e l = sym (same_Some 1 w e)
      fit_base Truth w e l = sym (same_Some 1 w e)
      fit_base (Struct id) w e l = l

      fit : (f : Option Prefixed) → IsSized words f → Fits f
      fit None sized = sized
      fit (Some t) sized = (sized.0, fit_base t.base sized.0 sized.1 sized.2.0, sized.3)
