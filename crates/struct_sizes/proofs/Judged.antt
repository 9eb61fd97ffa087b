-- The pass over the components of mentioning gives each struct its verdict.
use Rattle.std.proofs.Common.{◌⊎◌, ◌≡◌, ℕ, suc, ◌+◌, ◌<◌, ◌≤◌, List, [], ◌∷◌, length, get_or, replicate, true, false, Option, Some, None, inl, inr, refl, sym, ap, ◌∙◌, subst, arith}
use Rattle.std.specs.Prelude.{IsTrue, ◌↔◌, Bool, not, ◌&&◌, ◌||◌, if◌then◌else◌, slice_get}
use Rattle.std.proofs.lemmas.Bool.{and_from, not_from_false, cases_lt, cases_Bool, or_cases, or_left, or_right, or_parts, and_parts, and_cases, not-true, not-false, both_ways}
use Rattle.std.proofs.lemmas.List.{length-replicate}
use Rattle.std.proofs.lemmas.Option.{get_or_from_slice_get, slice_get_past, slice_get-get_or, unwrap_or-slice_get, same_Some}
use Rattle.std.specs.Option.{unwrap_or}
use Rattle.struct_sizes.specs.declared.faults.Flaw.{Flaw}
use Rattle.struct_sizes.specs.declared.faults.Flaw.TheVariants.{Fine, InForm, OnCycle, InSize}
use Rattle.struct_sizes.specs.declared.verdicts.SizeFault.{SizeFault}
use Rattle.struct_sizes.specs.declared.verdicts.StructFault.{StructFault}
use Rattle.struct_sizes.specs.declared.verdicts.StructFault.TheVariants.{HoldsItself, Size}
use Rattle.struct_sizes.specs.declared.judging.Ruling.{Ruling}
use Rattle.struct_sizes.specs.declared.verdicts.Verdict.{Verdict}
use Rattle.struct_sizes.specs.declared.verdicts.Verdict.TheVariants.{Sized, Refused}
use Rattle.struct_sizes.specs.Structs.{Fields, mentions}
use Rattle.struct_sizes.specs.Faults.{FormFails, known_fault, ByForm, BySize, AtFault}
use Rattle.struct_sizes.specs.Verdicts.{IsRefused, IsTold, AreTold, IsSource, IsVerdict, Speaks, IsHeard}
use Rattle.struct_sizes.specs.Kept.{kept, AgreeAll, Agree}
use Rattle.struct_sizes.specs.Filling.{is_by_form, is_fault, flaw_at, is_refused, unlisted, verdict_at, mentions_refused, any_mentions_refused, any_by_form, any_fault, told, verdict, set_each, judged, judged_all}
use Rattle.components.specs.Graph.{Among, row, Reaches, itself, onward}
use Rattle.components.specs.Components.{Stands, AreComponents}
use Rattle.components.proofs.Lists.{at_one, at_within, at_there, among_at, at_among}
use Rattle.components.proofs.Joining.{reaches_on}
use Rattle.components.proofs.Whole.{row_within}
use Rattle.struct_sizes.proofs.Capped.{agree_at, agree_fault, exact_from}
use Rattle.struct_sizes.proofs.Ways.{among_or, reaches_within}
use Rattle.struct_sizes.proofs.Sums.{mentions_length}
use Rattle.struct_sizes.proofs.Filled.{at_replicate}
use Rattle.struct_sizes.proofs.Flaws.{past_fault, Says, form_true, form_false, fault_true, fault_false}
use Rattle.struct_sizes.proofs.Each.{each_length, each_at, each_other, one_of, of_one}

-- what is known of the structs before their verdicts
pub record IsBasis (ss : List Fields) (table exact : List (Option ℕ)) (flaws : List Flaw) (comps : List (List ℕ)) : Type 0 where
  pub components : AreComponents (mentions ss) comps
  pub same : AgreeAll table exact
  pub many : length exact ≡ length ss
  pub says : (k : ℕ) → k < length ss → Says ss exact k (flaw_at flaws k)
  pub unknown : (k : ℕ) → k < length ss → get_or exact k None ≡ None → IsRefused ss exact k

module _ (ss : List Fields) (table exact : List (Option ℕ)) (flaws : List Flaw) (comps : List (List ℕ)) (b : IsBasis ss table exact flaws comps) where
  record AreJudged (verdicts : List Verdict) (c : ℕ) : Type 0 where
    size : length verdicts ≡ length ss
    done : (d k : ℕ) (v : Verdict) → d < c → Stands comps d k → slice_get verdicts k ≡ Some v → IsVerdict ss exact k v
    heard : (d k : ℕ) → d < c → Stands comps d k → IsRefused ss exact k → IsHeard ss exact k
    waiting : (d k : ℕ) → c ≤ d → Stands comps d k → slice_get verdicts k ≡ Some (Sized 0)

  lone : (k l : ℕ) → length ss ≤ k → Reaches (mentions ss) k l → Reaches (mentions ss) l k
  lone k l past itself = itself
  lone k l past (onward {j = m} edge way) = absurd (let small = row_within (mentions ss) k m edge in let e = mentions_length ss in omega (arith, small, e, past))

  in_range : (d k : ℕ) → Stands comps d k → k < length ss
  in_range d k at = let l = b.components.only d k at in let e = mentions_length ss in omega (arith, l, e)

  stands : (k : ℕ) → k < length ss → (d : ℕ) × Stands comps d k
  stands k small = b.components.all k (let e = mentions_length ss in omega (arith, small, e))

  module _ (verdicts : List Verdict) (c : ℕ) (nodes : List ℕ) (at : slice_get comps c ≡ Some nodes) (j : AreJudged verdicts c) where
    outside : Bool
    outside = any_mentions_refused (mentions ss) verdicts nodes

    in_component : (k : ℕ) → Among k nodes → Stands comps c k
    in_component k h = let there = among_at k nodes h in (there.0, (nodes, at, there.1))

    among_nodes : (d k : ℕ) → d ≡ c → Stands comps d k → Among k nodes
    among_nodes d k e (i, (ks, there, at_i)) = subst (λ (l : List ℕ). Among k l) (at_one comps c ks nodes (subst (λ (x : ℕ). slice_get comps x ≡ Some ks) e there) at) (at_among k ks i at_i)

    one_place : (d k : ℕ) → Stands comps d k → Among k nodes → d ≡ c
    one_place d k at_k h = let here = in_component k h in (b.components.once d at_k.0 c here.0 k at_k.1 here.1).0

    small : (k : ℕ) → Among k nodes → k < length ss
    small k h = in_range c k (in_component k h)

    reach_in : (k l : ℕ) → Among k nodes → Among l nodes → Reaches (mentions ss) k l
    reach_in k l h g = ((b.components.together k l (b.components.only c k (in_component k h)) (b.components.only c l (in_component l g))).0 (c, in_component k h, in_component l g)).0

    says_at : (k : ℕ) → Among k nodes → Says ss exact k (flaw_at flaws k)
    says_at k h = b.says k (small k h)

    -- ---- what a node of another component is, where it is mentioned

    seen_refused : (l : ℕ) → is_refused (verdict_at verdicts l) ≡ true → IsRefused ss exact l × (Among l nodes → ⊥)
    seen_refused l e = elim (cases_lt l (length ss)) [
      | inr past ↦ ((l, itself, inl (past_fault ss exact l past)), λ h. (let s = small l h in omega (arith, s, past)))
      | inl low ↦ inside low (stands l low) (at_there verdicts l (let z = j.size in omega (arith, low, z)))
    ]
      where
        inside : l < length ss → (d : ℕ) × Stands comps d l → (v : Verdict) × (slice_get verdicts l ≡ Some v) → IsRefused ss exact l × (Among l nodes → ⊥)
        inside low (d, at_l) (v, at_v) = elim (cases_lt d c) [
          | inl before ↦ (by v at_v (j.done d l v before at_l at_v), λ h. (let same = one_place d l at_l h in omega (arith, same, before)))
          | inr later ↦ absurd (let bad : false ≡ true = sym (ap is_refused (get_or_from_slice_get verdicts l (Sized 0) unlisted (j.waiting d l later at_l))) ∙ e in cc)
        ]
          where
            by : (v : Verdict) → slice_get verdicts l ≡ Some v → IsVerdict ss exact l v → IsRefused ss exact l
            by (Sized words) at_v is = absurd (let bad : false ≡ true = sym (ap is_refused (get_or_from_slice_get verdicts l (Sized words) unlisted at_v)) ∙ e in cc)
            by (Refused fault) at_v is = is.0

    refused_seen : (k l : ℕ) → Among k nodes → Among l (row (mentions ss) k) → IsRefused ss exact l → (Among l nodes → ⊥) → is_refused (verdict_at verdicts l) ≡ true
    refused_seen k l h edge refused apart = elim (cases_lt l (length ss)) [
      | inr past ↦ ap is_refused (sym (unwrap_or-slice_get verdicts l unlisted) ∙ ap (λ (o : Option Verdict). unwrap_or o unlisted) (slice_get_past verdicts l (let z = j.size in omega (arith, past, z))))
      | inl low ↦ inside (b.components.earlier c k l (in_component k h) edge (let e = mentions_length ss in omega (arith, low, e))) (at_there verdicts l (let z = j.size in omega (arith, low, z)))
    ]
      where
        by : (v : Verdict) → slice_get verdicts l ≡ Some v → IsVerdict ss exact l v → is_refused (verdict_at verdicts l) ≡ true
        by (Sized words) at_v is = absurd (is.0 refused)
        by (Refused fault) at_v is = ap is_refused (get_or_from_slice_get verdicts l (Refused fault) unlisted at_v)

        inside : (d : ℕ) × (d ≤ c) × Stands comps d l → (v : Verdict) × (slice_get verdicts l ≡ Some v) → is_refused (verdict_at verdicts l) ≡ true
        inside (d, le, at_l) (v, at_v) = elim (cases_lt d c) [
          | inl before ↦ by v at_v (j.done d l v before at_l at_v)
          | inr later ↦ absurd (apart (among_nodes d l (omega (arith, le, later)) at_l))
        ]

    -- a node of the component mentions a refused one of another
    Out : Type 0
    Out = (k : ℕ) × (l : ℕ) × Among k nodes × Among l (row (mentions ss) k) × IsRefused ss exact l × (Among l nodes → ⊥)

    outside_out : outside ≡ true → Out
    unfolding outside Out
    outside_out e =
        let first = one_of (λ k. mentions_refused (mentions ss) verdicts k) nodes e in
        let second = one_of (λ l. is_refused (verdict_at verdicts l)) (row (mentions ss) first.0) first.2 in
        let seen = seen_refused second.0 second.2 in
        (first.0, second.0, first.1, second.1, seen.0, seen.1)

    out_outside : (k l : ℕ) → Among k nodes → Among l (row (mentions ss) k) → IsRefused ss exact l → (Among l nodes → ⊥) → outside ≡ true
    unfolding outside
    out_outside k l h edge refused apart =
        of_one (λ i. mentions_refused (mentions ss) verdicts i) nodes k h
        (of_one (λ i. is_refused (verdict_at verdicts i)) (row (mentions ss) k) l edge (refused_seen k l h edge refused apart))

    -- a way to a struct at fault stays in the component, where nothing outside is refused
    stays : outside ≡ false → (k l : ℕ) → Among k nodes → Reaches (mentions ss) k l → AtFault ss exact l → Among l nodes
    stays none k l h itself fault = h
    stays none k l h (onward {j = m} edge way) fault = elim (among_or m nodes) [
      | inl inside ↦ stays none m l inside way fault
      | inr apart ↦ absurd (both_ways outside none (out_outside k m h edge (l, way, fault) apart))
    ]

    -- what mentions a node of the component, and is mentioned by one, stands in it
    back : (k m l : ℕ) → Among k nodes → Among m nodes → Among l (row (mentions ss) m) → Reaches (mentions ss) l k → Among l nodes
    back k m l h g edge way =
        let k_small = b.components.only c k (in_component k h) in
        let l_small = reaches_within (mentions ss) l k way k_small in
        let share = (b.components.together k l k_small l_small).1 (reaches_on (mentions ss) k m l (reach_in k m h g) (onward edge itself), way) in
        among_nodes share.0 l (one_place share.0 k share.1 h) share.2

    -- ---- which are refused

    refused : Bool
    refused = outside || any_fault flaws nodes

    refused_out : (k : ℕ) → Among k nodes → refused ≡ true → IsRefused ss exact k
    unfolding refused Out
    refused_out k h e = elim (or_cases outside (any_fault flaws nodes) e) [
      | inl out ↦ (
          let o = outside_out out in
          (o.4.0, reaches_on (mentions ss) k o.0 o.4.0 (reach_in k o.0 h o.2) (onward o.3 o.4.1), o.4.2)
          )
      | inr some ↦ (
          let one = one_of (λ i. is_fault (flaw_at flaws i)) nodes some in
          (one.0, reach_in k one.0 h one.1, fault_true ss exact one.0 (flaw_at flaws one.0) (says_at one.0 one.1) one.2)
          )
    ]

    has_fault : (k : ℕ) → Among k nodes → AtFault ss exact k → any_fault flaws nodes ≡ true
    has_fault k h fault = of_one (λ i. is_fault (flaw_at flaws i)) nodes k h (elim (cases_Bool (is_fault (flaw_at flaws k))) [
      | inl so ↦ so
      | inr not_so ↦ absurd ((fault_false ss exact k (flaw_at flaws k) (says_at k h) not_so).1 fault)
    ])

    refused_in : (k : ℕ) → Among k nodes → IsRefused ss exact k → refused ≡ true
    unfolding refused
    refused_in k h (l, way, fault) = elim (cases_Bool outside) [
      | inl out ↦ or_left outside (any_fault flaws nodes) out
      | inr none ↦ or_right outside (any_fault flaws nodes) (has_fault l (stays none k l h way fault) fault)
    ]

    -- ---- what is told

    sizes : Bool
    sizes = not outside && not (any_by_form flaws nodes)

    has_form : (k : ℕ) → Among k nodes → ByForm ss exact k → any_by_form flaws nodes ≡ true
    has_form k h form = of_one (λ i. is_by_form (flaw_at flaws i)) nodes k h (elim (cases_Bool (is_by_form (flaw_at flaws k))) [
      | inl so ↦ so
      | inr not_so ↦ absurd (form_false ss exact k (flaw_at flaws k) (says_at k h) not_so form)
    ])

    size_told : (k : ℕ) (fault : SizeFault) → Among k nodes → BySize ss exact k fault → sizes ≡ true → IsTold ss exact k (Size fault)
    unfolding sizes
    size_told k fault h size e =
        let parts = and_parts (not outside) (not (any_by_form flaws nodes)) e in
        let none = not-true outside parts.0 in
        let no_form = not-true (any_by_form flaws nodes) parts.1 in (
          size,
          λ l way form. both_ways (any_by_form flaws nodes) no_form (has_form l (stays none k l h way (inl form)) form),
          λ l other way at_l. reach_in l k (stays none k l h way (inr (other, at_l))) h,
        )

    size_not_told : (k : ℕ) (fault : SizeFault) → Among k nodes → sizes ≡ false → IsTold ss exact k (Size fault) → ⊥
    unfolding sizes Out
    size_not_told k fault h e is = elim (and_cases (not outside) (not (any_by_form flaws nodes)) e) [
      | inl out ↦ (
          let o = outside_out (not-false outside out) in
          let way = reaches_on (mentions ss) k o.0 o.4.0 (reach_in k o.0 h o.2) (onward o.3 o.4.1) in
          elim o.4.2 [
            | inl form ↦ is.1 o.4.0 way form
            | inr size ↦ o.5 (back k o.0 o.1 h o.2 o.3 (reaches_on (mentions ss) o.1 o.4.0 k o.4.1 (is.2 o.4.0 size.0 way size.1)))
          ]
          )
      | inr some ↦ (
          let one = one_of (λ i. is_by_form (flaw_at flaws i)) nodes (not-false (any_by_form flaws nodes) some) in
          is.1 one.0 (reach_in k one.0 h one.1) (form_true ss exact one.0 (flaw_at flaws one.0) (says_at one.0 one.1) one.2)
          )
    ]

    by_flaw : (k : ℕ) → Among k nodes → (flaw : Flaw) → Says ss exact k flaw → AreTold ss exact k (told sizes flaw)
    by_flaw k h Fine is = by
      where
        by : (fault : StructFault) → IsTold ss exact k fault → ⊥
        by HoldsItself way = is.0 (inr way)
        by (Size fault) size = let bad : Some fault ≡ None = sym size.0.1 ∙ is.1 in cc
    by_flaw k h InForm is = by
      where
        by : (fault : StructFault) → IsTold ss exact k fault → ⊥
        by HoldsItself way = is.1 way
        by (Size fault) size = size.0.0 is.0
    by_flaw k h OnCycle is = is
    by_flaw k h (InSize fault) is = by sizes refl
      where
        none : sizes ≡ false → (other : StructFault) → IsTold ss exact k other → ⊥
        none e HoldsItself way = is.0 (inr way)
        none e (Size other) size = size_not_told k other h e size

        by : (s : Bool) → sizes ≡ s → AreTold ss exact k (if s then Some (Size fault) else None)
        by true e = size_told k fault h is e
        by false e = none e

    -- ---- the verdict of a node

    words_at : (k w : ℕ) → Among k nodes → refused ≡ false → get_or table k None ≡ Some w → slice_get exact k ≡ Some (Some w)
    unfolding refused
    words_at k w h e words =
        let no_fault = (or_parts outside (any_fault flaws nodes) e).1 in
        let clear : is_fault (flaw_at flaws k) ≡ false = elim (cases_Bool (is_fault (flaw_at flaws k))) [
          | inl so ↦ absurd (both_ways (any_fault flaws nodes) no_fault (of_one (λ i. is_fault (flaw_at flaws i)) nodes k h so))
          | inr not_so ↦ not_so
        ] in
        let fine = (fault_false ss exact k (flaw_at flaws k) (says_at k h) clear).0 in
        let agrees = agree_at table exact b.same k in
        let known : known_fault (Some w) ≡ None = ap known_fault (sym words) ∙ agree_fault (get_or table k None) (get_or exact k None) agrees ∙ fine in
        let is : get_or exact k None ≡ Some w = exact_from w (get_or exact k None) (subst (λ (o : Option ℕ). Agree o (get_or exact k None)) words agrees) known in
        slice_get-get_or exact k None (let s = small k h in let m = b.many in omega (arith, s, m)) ∙ ap Some is

    unknown_at : (k : ℕ) → Among k nodes → get_or table k None ≡ None → IsRefused ss exact k
    unknown_at k h words = b.unknown k (small k h) (by (get_or exact k None) (subst (λ (o : Option ℕ). Agree o (get_or exact k None)) words (agree_at table exact b.same k)))
      where
        by : (o : Option ℕ) → Agree None o → o ≡ None
        by None e = refl
        by (Some w) e = let bad : None ≡ kept (Some w) = e in absurd cc

    is_source : (k : ℕ) → Among k nodes → outside ≡ false → IsSource ss exact k
    is_source k h none l way fault = reach_in l k (stays none k l h way fault) h

    source_is : (k : ℕ) → Among k nodes → IsTrue (not outside) ↔ IsSource ss exact k
    unfolding Out
    source_is k h = ((λ e. is_source k h (not-true outside e)), λ is. by is (cases_Bool outside))
      where
        by : IsSource ss exact k → (outside ≡ true) ⊎ (outside ≡ false) → not outside ≡ true
        by is (inr none) = not_from_false outside none
        by is (inl out) =
            let o = outside_out out in
            let way = reaches_on (mentions ss) k o.0 o.4.0 (reach_in k o.0 h o.2) (onward o.3 o.4.1) in
            absurd (o.5 (back k o.0 o.1 h o.2 o.3 (reaches_on (mentions ss) o.1 o.4.0 k o.4.1 (is o.4.0 way o.4.2))))

    ruling : Ruling
    ruling = record { refused = refused; sizes = sizes; is_source = not outside }

    verdict_right : (k : ℕ) → Among k nodes → IsVerdict ss exact k (verdict ruling (flaw_at flaws k) (get_or table k None))
    unfolding ruling
    verdict_right k h = by (get_or table k None) refl refused refl
      where
        both : refused ≡ true → IsRefused ss exact k × AreTold ss exact k (told sizes (flaw_at flaws k)) × (IsTrue (not outside) ↔ IsSource ss exact k)
        both e = (refused_out k h e, by_flaw k h (flaw_at flaws k) (says_at k h), source_is k h)

        by : (o : Option ℕ) → get_or table k None ≡ o → (r : Bool) → refused ≡ r → IsVerdict ss exact k (verdict (record { refused = r; sizes = sizes; is_source = not outside }) (flaw_at flaws k) o)
        by None words r e = both (refused_in k h (unknown_at k h words))
        by (Some w) words true e = both e
        by (Some w) words false e = ((λ is. both_ways refused e (refused_in k h is)), words_at k w h e words)

    -- ---- no refusal is silent

    heard_past : (l : ℕ) → length ss ≤ l → IsHeard ss exact l
    heard_past l past = (l, itself, (λ i way fault. lone l i past way), inl (subst (λ (s : Option Fields). FormFails exact s) (sym (slice_get_past ss l past)) tt))

    heard_out : (k l : ℕ) → Among k nodes → Among l (row (mentions ss) k) → IsRefused ss exact l → (Among l nodes → ⊥) → IsHeard ss exact l
    heard_out k l h edge is apart = elim (cases_lt l (length ss)) [
      | inr past ↦ heard_past l past
      | inl small_l ↦ inside (b.components.earlier c k l (in_component k h) edge (let e = mentions_length ss in omega (arith, small_l, e)))
    ]
      where
        inside : (d : ℕ) × (d ≤ c) × Stands comps d l → IsHeard ss exact l
        inside (d, le, at_l) = elim (cases_lt d c) [
          | inl before ↦ j.heard d l before at_l is
          | inr later ↦ absurd (apart (among_nodes d l (omega (arith, le, later)) at_l))
        ]

    speaks : (k : ℕ) → ByForm ss exact k → Speaks ss exact k
    speaks k (inl fails) = inl fails
    speaks k (inr way) = inr (HoldsItself, way)

    heard_in : (k : ℕ) → Among k nodes → IsRefused ss exact k → IsHeard ss exact k
    unfolding Out sizes
    heard_in k h is = by (cases_Bool outside)
      where
        own : outside ≡ false → (any_by_form flaws nodes ≡ true) ⊎ (any_by_form flaws nodes ≡ false) → (l : ℕ) → Among l nodes → AtFault ss exact l → IsHeard ss exact k
        own none (inl some) l g fault =
            let one = one_of (λ i. is_by_form (flaw_at flaws i)) nodes some in
            (one.0, reach_in k one.0 h one.1, is_source one.0 one.1 none, speaks one.0 (form_true ss exact one.0 (flaw_at flaws one.0) (says_at one.0 one.1) one.2))
        own none (inr no_form) l g (inl form) = absurd (both_ways (any_by_form flaws nodes) no_form (has_form l g form))
        own none (inr no_form) l g (inr (fault, size)) =
            (l, reach_in k l h g, is_source l g none, inr (Size fault, size_told l fault g size (and_from (not outside) (not (any_by_form flaws nodes)) (not_from_false outside none) (not_from_false (any_by_form flaws nodes) no_form))))

        by : (outside ≡ true) ⊎ (outside ≡ false) → IsHeard ss exact k
        by (inl out) =
            let o = outside_out out in
            let far = heard_out o.0 o.1 o.2 o.3 o.4 o.5 in
            (far.0, reaches_on (mentions ss) k o.0 far.0 (reach_in k o.0 h o.2) (onward o.3 far.1), far.2, far.3)
        by (inr none) = own none (cases_Bool (any_by_form flaws nodes)) is.0 (stays none k is.0 h is.1 is.2) is.2

    -- ---- the component has its verdicts

    given : ℕ → Verdict
    given k = verdict ruling (flaw_at flaws k) (get_or table k None)

    not_among : (d k : ℕ) → (d ≡ c → ⊥) → Stands comps d k → Among k nodes → ⊥
    not_among d k differ at_k h = differ (one_place d k at_k h)

    now_judged : AreJudged (set_each given verdicts nodes) (c + 1)
    unfolding given
    now_judged = record {
      size = each_length given verdicts nodes ∙ j.size;
      done = λ d k v low at_k at_v. elim (cases_lt d c) [
        | inl before ↦ j.done d k v before at_k (sym (each_other given verdicts nodes k (not_among d k (λ e. omega (arith, e, before)) at_k)) ∙ at_v)
        | inr later ↦ (
            let h = among_nodes d k (omega (arith, low, later)) at_k in
            let is : given k ≡ v = same_Some (given k) v (sym (each_at given verdicts nodes k h (let s = small k h in let z = j.size in omega (arith, s, z))) ∙ at_v) in
            subst (λ (x : Verdict). IsVerdict ss exact k x) is (verdict_right k h)
            )
      ];
      heard = λ d k low at_k is. elim (cases_lt d c) [
        | inl before ↦ j.heard d k before at_k is
        | inr later ↦ heard_in k (among_nodes d k (omega (arith, low, later)) at_k) is
      ];
      waiting = λ d k high at_k. each_other given verdicts nodes k (not_among d k (λ e. omega (arith, e, high)) at_k) ∙ j.waiting d k (omega (arith, high)) at_k;
    }

    judged_one : AreJudged (judged (mentions ss) flaws table verdicts nodes) (c + 1)
    unfolding given ruling refused sizes outside
    judged_one = now_judged

  all_from : (verdicts : List Verdict) (c : ℕ) (cs : List (List ℕ)) → ((i : ℕ) (nodes : List ℕ) → slice_get cs i ≡ Some nodes → slice_get comps (c + i) ≡ Some nodes) → AreJudged verdicts c → AreJudged (judged_all (mentions ss) flaws table verdicts cs) (c + length cs)
  all_from verdicts c [] at f = subst (λ (n : ℕ). AreJudged verdicts n) (omega arith) f
  all_from verdicts c (nodes ∷ cs) at f =
      let here : slice_get comps c ≡ Some nodes = subst (λ (n : ℕ). slice_get comps n ≡ Some nodes) (omega arith) (at 0 nodes refl) in
      subst (λ (n : ℕ). AreJudged (judged_all (mentions ss) flaws table verdicts (nodes ∷ cs)) n) (omega arith)
      (all_from (judged (mentions ss) flaws table verdicts nodes) (c + 1) cs (λ i xs h. subst (λ (n : ℕ). slice_get comps n ≡ Some xs) (omega arith) (at (suc i) xs h)) (judged_one verdicts c nodes here f))

  begun : AreJudged (replicate (length (mentions ss)) (Sized 0)) 0
  begun = record {
    size = length-replicate (length (mentions ss)) (Sized 0) ∙ mentions_length ss;
    done = λ d k v low at_k at_v. absurd (omega (arith, low));
    heard = λ d k low at_k is. absurd (omega (arith, low));
    waiting = λ d k high at_k. at_replicate (Sized 0) (length (mentions ss)) k (b.components.only d k at_k);
  }

  whole : AreJudged (judged_all (mentions ss) flaws table (replicate (length (mentions ss)) (Sized 0)) comps) (length comps)
  whole = subst (λ (n : ℕ). AreJudged (judged_all (mentions ss) flaws table (replicate (length (mentions ss)) (Sized 0)) comps) n) (omega arith) (all_from (replicate (length (mentions ss)) (Sized 0)) 0 comps (λ i nodes h. subst (λ (n : ℕ). slice_get comps n ≡ Some nodes) (omega arith) h) begun)

  pub all_size : length (judged_all (mentions ss) flaws table (replicate (length (mentions ss)) (Sized 0)) comps) ≡ length ss
  all_size = whole.size

  pub all_right : (k : ℕ) (v : Verdict) → slice_get (judged_all (mentions ss) flaws table (replicate (length (mentions ss)) (Sized 0)) comps) k ≡ Some v → IsVerdict ss exact k v
  all_right k v at =
      let size : length (judged_all (mentions ss) flaws table (replicate (length (mentions ss)) (Sized 0)) comps) ≡ length ss = whole.size in
      let within = at_within (judged_all (mentions ss) flaws table (replicate (length (mentions ss)) (Sized 0)) comps) k v at in
      let there = stands k (omega (arith, within, size)) in
      whole.done there.0 k v (at_within comps there.0 there.1.1.0 there.1.1.1) there.1 at

  pub all_heard : (k : ℕ) → IsRefused ss exact k → IsHeard ss exact k
  all_heard k is = elim (cases_lt k (length ss)) [
    | inr past ↦ (k, itself, (λ l way fault. lone k l past way), inl (subst (λ (s : Option Fields). FormFails exact s) (sym (slice_get_past ss k past)) tt))
    | inl small_k ↦ (let there = stands k small_k in whole.heard there.0 k (at_within comps there.0 there.1.1.0 there.1.1.1) there.1 is)
  ]
