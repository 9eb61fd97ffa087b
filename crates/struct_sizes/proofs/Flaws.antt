-- What the flaws of structs say by the exact words, and that a struct of no words is refused.
use Rattle.std.proofs.Common.{◌≡◌, ℕ, ◌<◌, ◌≤◌, List, [], ◌∷◌, length, get_or, true, false, Option, Some, None, ◌⊎◌, inl, inr, refl, sym, ◌∙◌, subst, arith}
use Rattle.std.specs.Prelude.{Bool, slice_get}
use Rattle.std.specs.List.{flat_map}
use Rattle.std.proofs.lemmas.Bool.{cases_lt}
use Rattle.std.proofs.lemmas.Option.{get_or_from_slice_get, slice_get_past}
use Rattle.struct_sizes.specs.declared.faults.Flaw.{Flaw}
use Rattle.struct_sizes.specs.declared.faults.Flaw.TheVariants.{Fine, InForm, OnCycle, InSize}
use Rattle.struct_sizes.specs.Structs.{Prefixed, Fields, holds, held_in}
use Rattle.struct_sizes.specs.Words.{sum_words, IsTable}
use Rattle.struct_sizes.specs.Faults.{known_fault, FieldFails, FieldsFail, FormFails, ByForm, BySize, AtFault}
use Rattle.struct_sizes.specs.Verdicts.{IsRefused}
use Rattle.struct_sizes.specs.Kept.{AgreeAll}
use Rattle.struct_sizes.specs.Filling.{IsFlaw, AreFlaws, is_by_form, is_fault, flaw_at}
use Rattle.components.specs.Graph.{Among, row, Leads, itself, onward}
use Rattle.components.specs.Components.{AreOnCycles}
use Rattle.components.proofs.Lists.{at_within, at_there}
use Rattle.struct_sizes.proofs.Capped.{agree_at, agree_fault, fails_agree}
use Rattle.struct_sizes.proofs.Ways.{holds_of_all}
use Rattle.struct_sizes.proofs.Sums.{held_row, mentioned_row, holds_length, all_held_mentioned, none_sums}

-- a number that is no struct's is at fault
pub past_fault : (ss : List Fields) (table : List (Option ℕ)) (k : ℕ) → length ss ≤ k → ByForm ss table k
past_fault ss table k le = inl (subst (λ (s : Option Fields). FormFails table s) (sym (slice_get_past ss k le)) tt)

-- ---- a struct of no words

module _ (ss : List Fields) (cycles : List Bool) (table : List (Option ℕ)) (o : AreOnCycles (holds ss) cycles) (w : IsTable ss table) where
  abbrev IfUnknown : ℕ → Type 0
  IfUnknown k = get_or table k None ≡ None → IsRefused ss table k

  unknown_step : (k : ℕ) → k < length (holds ss) → ((Leads (holds ss) k k → ⊥) → (j : ℕ) → Among j (row (holds ss) k) → j < length (holds ss) → IfUnknown j) → IfUnknown k
  unknown_step k small below none = by mark.0 mark.1
    where
      here : k < length ss
      here = subst (λ (n : ℕ). k < n) (holds_length ss) small

      mark : (b : Bool) × (slice_get cycles k ≡ Some b)
      mark = at_there cycles k (let z = o.size in omega (arith, small, z))

      held : (s : Fields) → slice_get ss k ≡ Some s → (Leads (holds ss) k k → ⊥) → (j : ℕ) → Among j (flat_map held_in s) → get_or table j None ≡ None → (j < length ss) ⊎ (length ss ≤ j) → IsRefused ss table j
      held s at free j h none (inl l) = below free j (subst (λ (ks : List ℕ). Among j ks) (sym (held_row ss k s at)) h) (subst (λ (n : ℕ). j < n) (sym (holds_length ss)) l) none
      held s at free j h none (inr l) = (j, itself, inl (past_fault ss table j l))

      free_refused : (Leads (holds ss) k k → ⊥) → IsRefused ss table k
      free_refused free =
          let there = at_there ss k here in
          let s : Fields = there.0 in
          let sum : sum_words table s ≡ None = sym (get_or_from_slice_get table k (sum_words table s) None (w.sums k s there.1 free)) ∙ none in
          elim (none_sums table s sum) [
            | inl fails ↦ (k, itself, inl (inl (subst (λ (x : Option Fields). FormFails table x) (sym there.1) fails)))
            | inr (j, h, none_j) ↦ (
                let far = held s there.1 free j h none_j (cases_lt j (length ss)) in
                (far.0, onward (subst (λ (ks : List ℕ). Among j ks) (sym (mentioned_row ss k s there.1)) (all_held_mentioned j s h)) far.1, far.2)
                )
          ]

      by : (b : Bool) → slice_get cycles k ≡ Some b → IsRefused ss table k
      by true at = (k, itself, inl (inr ((o.is k true at).0 refl)))
      by false at = free_refused (λ way. (let bad : false ≡ true = (o.is k false at).1 way in cc))

  pub unknown_refused : (k : ℕ) → k < length ss → get_or table k None ≡ None → IsRefused ss table k
  unknown_refused k small = holds_of_all (holds ss) IfUnknown unknown_step k (subst (λ (n : ℕ). k < n) (sym (holds_length ss)) small)

-- ---- flaws

abbrev pub Says : List Fields → List (Option ℕ) → ℕ → Flaw → Type 0
Says ss table k Fine = (ByForm ss table k → ⊥) × (known_fault (get_or table k None) ≡ None)
Says ss table k InForm = ByForm ss table k × (Leads (holds ss) k k → ⊥)
Says ss table k OnCycle = Leads (holds ss) k k
Says ss table k (InSize fault) = BySize ss table k fault

field_fails_agree : (table exact : List (Option ℕ)) → AgreeAll table exact → (f : Option Prefixed) → FieldFails table f → FieldFails exact f
field_fails_agree table exact same None h = tt
field_fails_agree table exact same (Some t) h = (h.0, h.1, fails_agree table exact same t h.0 h.1 h.2)

pub fields_fail_agree : (table exact : List (Option ℕ)) → AgreeAll table exact → (fs : Fields) → FieldsFail table fs → FieldsFail exact fs
fields_fail_agree table exact same [] h = h
fields_fail_agree table exact same (f ∷ fs) (inl h) = inl (field_fails_agree table exact same f h)
fields_fail_agree table exact same (f ∷ fs) (inr h) = inr (fields_fail_agree table exact same fs h)

module _ (ss : List Fields) (cycles : List Bool) (table exact : List (Option ℕ)) (flaws : List Flaw) (o : AreOnCycles (holds ss) cycles) (same : AgreeAll table exact) (many : length flaws ≡ length ss) (are : AreFlaws table ss cycles flaws) where
  module _ (k : ℕ) (s : Fields) (at : slice_get ss k ≡ Some s) where
    loops : get_or cycles k false ≡ true → Leads (holds ss) k k
    loops e = by mark.0 mark.1
      where
        mark : (b : Bool) × (slice_get cycles k ≡ Some b)
        mark = at_there cycles k (let z = o.size in let n = holds_length ss in let l = at_within ss k s at in omega (arith, z, n, l))

        by : (b : Bool) → slice_get cycles k ≡ Some b → Leads (holds ss) k k
        by true at_k = (o.is k true at_k).0 refl
        by false at_k = absurd (let bad : false ≡ true = sym (get_or_from_slice_get cycles k false false at_k) ∙ e in cc)

    no_loop : get_or cycles k false ≡ false → Leads (holds ss) k k → ⊥
    no_loop e way = by mark.0 mark.1
      where
        mark : (b : Bool) × (slice_get cycles k ≡ Some b)
        mark = at_there cycles k (let z = o.size in let n = holds_length ss in let l = at_within ss k s at in omega (arith, z, n, l))

        by : (b : Bool) → slice_get cycles k ≡ Some b → ⊥
        by true at_k = let bad : true ≡ false = sym (get_or_from_slice_get cycles k true false at_k) ∙ e in cc
        by false at_k = let bad : false ≡ true = (o.is k false at_k).1 way in cc

    right : get_or cycles k false ≡ false → (FieldsFail table s → ⊥) → ByForm ss exact k → ⊥
    right e free (inr way) = no_loop e way
    right e free (inl fails) = free (fields_fail_agree exact table (sym same) s (subst (λ (x : Option Fields). FormFails exact x) at fails))

    known : known_fault (get_or table k None) ≡ known_fault (get_or exact k None)
    known = agree_fault (get_or table k None) (get_or exact k None) (agree_at table exact same k)

    says_of : (flaw : Flaw) → IsFlaw table s (get_or cycles k false) (get_or table k None) flaw → Says ss exact k flaw
    says_of Fine h = (right h.0 h.1, sym known ∙ h.2)
    says_of InForm h = (inl (subst (λ (x : Option Fields). FormFails exact x) (sym at) (fields_fail_agree table exact same s h.1)), no_loop h.0)
    says_of OnCycle h = loops h
    says_of (InSize fault) h = (right h.0 h.1, sym known ∙ h.2)

  pub says : (k : ℕ) → k < length ss → Says ss exact k (flaw_at flaws k)
  says k small =
      let s = at_there ss k small in
      let flaw = at_there flaws k (omega (arith, small, many)) in
      subst (λ (f : Flaw). Says ss exact k f) (sym (get_or_from_slice_get flaws k flaw.0 InForm flaw.1)) (says_of k s.0 s.1 flaw.0 (are k s.0 flaw.0 s.1 flaw.1))

module _ (ss : List Fields) (table : List (Option ℕ)) (k : ℕ) where
  pub form_true : (flaw : Flaw) → Says ss table k flaw → is_by_form flaw ≡ true → ByForm ss table k
  form_true Fine h e = absurd (let bad : false ≡ true = e in cc)
  form_true InForm h e = h.0
  form_true OnCycle h e = inr h
  form_true (InSize fault) h e = absurd (let bad : false ≡ true = e in cc)

  pub form_false : (flaw : Flaw) → Says ss table k flaw → is_by_form flaw ≡ false → ByForm ss table k → ⊥
  form_false Fine h e form = h.0 form
  form_false InForm h e form = let bad : true ≡ false = e in cc
  form_false OnCycle h e form = let bad : true ≡ false = e in cc
  form_false (InSize fault) h e form = h.0 form

  pub fault_true : (flaw : Flaw) → Says ss table k flaw → is_fault flaw ≡ true → AtFault ss table k
  fault_true Fine h e = absurd (let bad : false ≡ true = e in cc)
  fault_true InForm h e = inl h.0
  fault_true OnCycle h e = inl (inr h)
  fault_true (InSize fault) h e = inr (fault, h)

  pub fault_false : (flaw : Flaw) → Says ss table k flaw → is_fault flaw ≡ false → (known_fault (get_or table k None) ≡ None) × (AtFault ss table k → ⊥)
  fault_false Fine h e = (
    h.1,
    λ f. elim f [
      | inl form ↦ h.0 form
      | inr size ↦ (let bad : Some size.0 ≡ None = sym size.1.1 ∙ h.1 in cc)
    ],
  )
  fault_false InForm h e = absurd (let bad : true ≡ false = e in cc)
  fault_false OnCycle h e = absurd (let bad : true ≡ false = e in cc)
  fault_false (InSize fault) h e = absurd (let bad : true ≡ false = e in cc)
