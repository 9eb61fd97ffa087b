-- What the passes over the components make.
use Rattle.std.specs.Prelude.{◌≡◌, ℕ, Bool, true, false, ◌&&◌, ◌||◌, not, List, [], ◌∷◌, slice_get, slice_set, slice_index_or, Option, Some, None, if◌then◌else◌}
use Rattle.std.specs.List.{list_any}
use Rattle.struct_sizes.specs.declared.forms.Base.{Base}
use Rattle.struct_sizes.specs.declared.forms.Base.TheVariants.{Int, Bool as Truth, Struct}
use Rattle.struct_sizes.specs.declared.verdicts.StructFault.{StructFault}
use Rattle.struct_sizes.specs.declared.verdicts.StructFault.TheVariants.{HoldsItself, Size}
use Rattle.struct_sizes.specs.declared.verdicts.Refusal.{Refusal}
use Rattle.struct_sizes.specs.declared.verdicts.Verdict.{Verdict}
use Rattle.struct_sizes.specs.declared.verdicts.Verdict.TheVariants.{Sized, Refused}
use Rattle.struct_sizes.specs.declared.faults.Flaw.{Flaw}
use Rattle.struct_sizes.specs.declared.judging.Ruling.{Ruling}
use Rattle.struct_sizes.specs.declared.faults.Flaw.TheVariants.{Fine, InForm, OnCycle, InSize}
use Rattle.struct_sizes.specs.Structs.{Fields}
use Rattle.struct_sizes.specs.Words.{sum_words}
use Rattle.struct_sizes.specs.Faults.{known_fault, FieldsFail}
use Rattle.components.specs.Graph.{row}

-- ---- words

abbrev pub fields_in : Option Fields → Fields
fields_in None = []
fields_in (Some s) = s

-- the words of a struct enter the table, if it isn't on a cycle
abbrev pub filled_at : List Fields → List Bool → List (Option ℕ) → ℕ → List (Option ℕ)
filled_at ss cycles table k = if slice_index_or cycles k false then table else slice_set table k (sum_words table (fields_in (slice_get ss k)))

abbrev pub filled : List Fields → List Bool → List (Option ℕ) → List ℕ → List (Option ℕ)
filled ss cycles table [] = table
filled ss cycles table (k ∷ ks) = filled ss cycles (filled_at ss cycles table k) ks

abbrev pub filled_all : List Fields → List Bool → List (Option ℕ) → List (List ℕ) → List (Option ℕ)
filled_all ss cycles table [] = table
filled_all ss cycles table (c ∷ cs) = filled_all ss cycles (filled ss cycles table c) cs

-- ---- what is wrong with a struct by itself

abbrev pub IsFlaw : List (Option ℕ) → Fields → (is_on_cycle : Bool) → Option ℕ → Flaw → Type 0
IsFlaw table fs cycle words Fine = (cycle ≡ false) × (FieldsFail table fs → ⊥) × (known_fault words ≡ None)
IsFlaw table fs cycle words InForm = (cycle ≡ false) × FieldsFail table fs
IsFlaw table fs cycle words OnCycle = cycle ≡ true
IsFlaw table fs cycle words (InSize fault) = (cycle ≡ false) × (FieldsFail table fs → ⊥) × (known_fault words ≡ Some fault)

abbrev pub AreFlaws : List (Option ℕ) → List Fields → List Bool → List Flaw → Type 0
AreFlaws table ss cycles flaws = (k : ℕ) (s : Fields) (flaw : Flaw) → slice_get ss k ≡ Some s → slice_get flaws k ≡ Some flaw
    → IsFlaw table s (slice_index_or cycles k false) (slice_index_or table k None) flaw

abbrev pub is_by_form : Flaw → Bool
is_by_form Fine = false
is_by_form InForm = true
is_by_form OnCycle = true
is_by_form (InSize fault) = false

abbrev pub is_fault : Flaw → Bool
is_fault Fine = false
is_fault InForm = true
is_fault OnCycle = true
is_fault (InSize fault) = true

abbrev pub flaw_at : List Flaw → ℕ → Flaw
flaw_at flaws k = slice_index_or flaws k InForm

-- ---- verdicts

abbrev pub is_refused : Verdict → Bool
is_refused (Sized words) = false
is_refused (Refused fault) = true

-- a number that is no struct's is refused
abbrev pub unlisted : Verdict
unlisted = Refused (record { told = None; is_source = false })

abbrev pub verdict_at : List Verdict → ℕ → Verdict
verdict_at verdicts k = slice_index_or verdicts k unlisted

abbrev pub mentions_refused : List (List ℕ) → List Verdict → ℕ → Bool
mentions_refused t verdicts k = list_any (λ j. is_refused (verdict_at verdicts j)) (row t k)

abbrev pub any_mentions_refused : List (List ℕ) → List Verdict → List ℕ → Bool
any_mentions_refused t verdicts ks = list_any (λ k. mentions_refused t verdicts k) ks

abbrev pub any_by_form : List Flaw → List ℕ → Bool
any_by_form flaws ks = list_any (λ k. is_by_form (flaw_at flaws k)) ks

abbrev pub any_fault : List Flaw → List ℕ → Bool
any_fault flaws ks = list_any (λ k. is_fault (flaw_at flaws k)) ks

abbrev pub told : Bool → Flaw → Option StructFault
told sizes Fine = None
told sizes InForm = None
told sizes OnCycle = Some HoldsItself
told sizes (InSize fault) = if sizes then Some (Size fault) else None

abbrev pub refusal : Ruling → Flaw → Refusal
refusal ruling flaw = record { told = told ruling.sizes flaw; is_source = ruling.is_source }

abbrev pub verdict : Ruling → Flaw → Option ℕ → Verdict
verdict ruling flaw None = Refused (refusal ruling flaw)
verdict ruling flaw (Some words) = if ruling.refused then Refused (refusal ruling flaw) else Sized words

-- a value for each of some places
abbrev pub set_each : {A : Type 0} → (ℕ → A) → List A → List ℕ → List A
set_each g xs [] = xs
set_each g xs (k ∷ ks) = set_each g (slice_set xs k (g k)) ks

abbrev pub ruling_in : List (List ℕ) → List Flaw → List Verdict → List ℕ → Ruling
ruling_in t flaws verdicts ks = record {
  refused = any_mentions_refused t verdicts ks || any_fault flaws ks;
  sizes = not (any_mentions_refused t verdicts ks) && not (any_by_form flaws ks);
  is_source = not (any_mentions_refused t verdicts ks);
}

-- the verdicts of a component
abbrev pub judged : List (List ℕ) → List Flaw → List (Option ℕ) → List Verdict → List ℕ → List Verdict
judged t flaws table verdicts ks = set_each (λ k. verdict (ruling_in t flaws verdicts ks) (flaw_at flaws k) (slice_index_or table k None)) verdicts ks

abbrev pub judged_all : List (List ℕ) → List Flaw → List (Option ℕ) → List Verdict → List (List ℕ) → List Verdict
judged_all t flaws table verdicts [] = verdicts
judged_all t flaws table verdicts (c ∷ cs) = judged_all t flaws table (judged t flaws table verdicts c) cs

abbrev pub is_base_refused : List Verdict → Base → Bool
is_base_refused verdicts Int = false
is_base_refused verdicts Truth = false
is_base_refused verdicts (Struct id) = is_refused (verdict_at verdicts id.0)
