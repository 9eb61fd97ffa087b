-- The steps of the passes: one field, prefix, struct or component more.
use Rattle.std.proofs.Common.{◌≡◌, ℕ, zero, suc, ◌+◌, ◌-◌, ◌<◌, ◌≤◌, List, [], ◌∷◌, ◌++◌, length, map, take, drop, get_or, true, false, Option, Some, None, inl, inr, refl, sym, ap, ap₂, ◌∙◌, subst, arith}
use Rattle.std.specs.Prelude.{Bool, if◌then◌else◌, slice_get, slice_set, slice_index_or}
use Rattle.std.proofs.lemmas.List.{take_more}
use Rattle.std.proofs.Math.Seq.{drop-cons}
use Rattle.std.proofs.lemmas.Option.{get_or_from_slice_get}
use Rattle.struct_sizes.specs.declared.faults.Flaw.{Flaw}
use Rattle.struct_sizes.specs.declared.verdicts.Verdict.{Verdict}
use Rattle.struct_sizes.specs.declared.forms.Prefix.{Prefix}
use Rattle.struct_sizes.specs.Structs.{Fields}
use Rattle.struct_sizes.specs.Words.{prefix_words, prefixed_words, sum_words}
use Rattle.struct_sizes.specs.Faults.{prefix_fault, outer_fault}
use Rattle.struct_sizes.specs.Kept.{kept, Agree, AgreeAll}
use Rattle.struct_sizes.specs.Filling.{IsFlaw, AreFlaws, fields_in, filled_at, filled, filled_all, judged, judged_all}
use Rattle.components.proofs.Lists.{at_one, at_within, at_push_cases}
use Rattle.struct_sizes.proofs.Capped.{agree_kept, agree_prefix, prefix_agree, agree_sum}
use Rattle.struct_sizes.proofs.Each.{each_length}

-- ---- words

map_set : (xs : List (Option ℕ)) (k : ℕ) (w : Option ℕ) → map kept (slice_set xs k w) ≡ slice_set (map kept xs) k (kept w)
map_set [] k w = refl
map_set (x ∷ xs) zero w = refl
map_set (x ∷ xs) (suc k) w = ap (λ (l : List (Option ℕ)). kept x ∷ l) (map_set xs k w)

set_agree : (table exact : List (Option ℕ)) (k : ℕ) (v w : Option ℕ) → AgreeAll table exact → Agree v w → AgreeAll (slice_set table k v) (slice_set exact k w)
set_agree table exact k v w same e = map_set table k v ∙ ap (λ (l : List (Option ℕ)). slice_set l k (kept v)) same ∙ ap (λ (o : Option ℕ). slice_set (map kept exact) k o) e ∙ sym (map_set exact k w)

module _ (ss : List Fields) (cycles : List Bool) where
  pub fill_passed : (table exact : List (Option ℕ)) (k : ℕ) → slice_index_or cycles k false ≡ true → AgreeAll table exact → AgreeAll table (filled_at ss cycles exact k)
  fill_passed table exact k e same = subst (λ (b : Bool). AgreeAll table (if b then exact else slice_set exact k (sum_words exact (fields_in (slice_get ss k))))) (sym e) same

  pub fill_entered : (table exact : List (Option ℕ)) (k : ℕ) (s : Fields) (words : Option ℕ) → slice_index_or cycles k false ≡ false → slice_get ss k ≡ Some s → Agree words (sum_words table s) → AgreeAll table exact → AgreeAll (slice_set table k words) (filled_at ss cycles exact k)
  fill_entered table exact k s words e at is same =
      subst (λ (b : Bool). AgreeAll (slice_set table k words) (if b then exact else slice_set exact k (sum_words exact (fields_in (slice_get ss k))))) (sym e)
      (subst (λ (o : Option Fields). AgreeAll (slice_set table k words) (slice_set exact k (sum_words exact (fields_in o)))) (sym at)
      (set_agree table exact k words (sum_words exact s) same (is ∙ agree_sum table exact same s)))

  filled_push : (table : List (Option ℕ)) (ks : List ℕ) (k : ℕ) → filled ss cycles table (ks ++ k ∷ []) ≡ filled_at ss cycles (filled ss cycles table ks) k
  filled_push table [] k = refl
  filled_push table (j ∷ ks) k = filled_push (filled_at ss cycles table j) ks k

  pub filled_more : (table : List (Option ℕ)) (ks : List ℕ) (i : ℕ) → i < length ks → filled_at ss cycles (filled ss cycles table (take i ks)) (get_or ks i 0) ≡ filled ss cycles table (take (i + 1) ks)
  filled_more table ks i l = sym (filled_push table (take i ks) (get_or ks i 0)) ∙ ap (filled ss cycles table) (sym (take_more ks i 0 l))

  all_push : (table : List (Option ℕ)) (cs : List (List ℕ)) (c : List ℕ) → filled_all ss cycles table (cs ++ c ∷ []) ≡ filled ss cycles (filled_all ss cycles table cs) c
  all_push table [] c = refl
  all_push table (d ∷ cs) c = all_push (filled ss cycles table d) cs c

-- one component more of those that are taken
taken_more : (cs : List (List ℕ)) (i : ℕ) (c : List ℕ) → slice_get cs i ≡ Some c → take (i + 1) cs ≡ take i cs ++ c ∷ []
taken_more cs i c at = take_more cs i [] (at_within cs i c at) ∙ ap (λ (x : List ℕ). take i cs ++ x ∷ []) (get_or_from_slice_get cs i c [] at)

module _ (ss : List Fields) (cycles : List Bool) (table : List (Option ℕ)) where
  pub filled_all_more : (cs : List (List ℕ)) (i : ℕ) (c : List ℕ) → slice_get cs i ≡ Some c → filled ss cycles (filled_all ss cycles table (take i cs)) c ≡ filled_all ss cycles table (take (i + 1) cs)
  filled_all_more cs i c at = sym (all_push ss cycles table (take i cs) c) ∙ ap (filled_all ss cycles table) (sym (taken_more cs i c at))

module _ (t : List (List ℕ)) (flaws : List Flaw) (table : List (Option ℕ)) where
  judged_push : (verdicts : List Verdict) (cs : List (List ℕ)) (c : List ℕ) → judged_all t flaws table verdicts (cs ++ c ∷ []) ≡ judged t flaws table (judged_all t flaws table verdicts cs) c
  judged_push verdicts [] c = refl
  judged_push verdicts (d ∷ cs) c = judged_push (judged t flaws table verdicts d) cs c

  pub judged_more : (verdicts : List Verdict) (cs : List (List ℕ)) (i : ℕ) (c : List ℕ) → slice_get cs i ≡ Some c → judged t flaws table (judged_all t flaws table verdicts (take i cs)) c ≡ judged_all t flaws table verdicts (take (i + 1) cs)
  judged_more verdicts cs i c at = sym (judged_push verdicts (take i cs) c) ∙ ap (judged_all t flaws table verdicts) (sym (taken_more cs i c at))

-- ---- flaws

pub flaws_more : (table : List (Option ℕ)) (ss : List Fields) (cycles : List Bool) (flaws : List Flaw) (s : Fields) (flaw : Flaw) → slice_get ss (length flaws) ≡ Some s → IsFlaw table s (slice_index_or cycles (length flaws) false) (slice_index_or table (length flaws) None) flaw → AreFlaws table ss cycles flaws → AreFlaws table ss cycles (flaws ++ flaw ∷ [])
flaws_more table ss cycles flaws s flaw at is are k r f at_r at_f = elim (at_push_cases flaws flaw k f at_f) [
  | inl old ↦ are k r f at_r old
  | inr new ↦ (
      let same : s ≡ r = at_one ss (length flaws) s r at (subst (λ (x : ℕ). slice_get ss x ≡ Some r) new.0 at_r) in
      subst (λ (x : ℕ). IsFlaw table r (slice_index_or cycles x false) (slice_index_or table x None) f) (sym new.0)
      (subst (λ (x : Flaw). IsFlaw table r (slice_index_or cycles (length flaws) false) (slice_index_or table (length flaws) None) x) new.1
      (subst (λ (x : Fields). IsFlaw table x (slice_index_or cycles (length flaws) false) (slice_index_or table (length flaws) None) flaw) same is))
      )
]

-- ---- prefixes

pub at_level : (ps : List Prefix) (level : ℕ) (p : Prefix) → 0 < level → level ≤ length ps → p ≡ get_or ps (level - 1) p → drop (level - 1) ps ≡ p ∷ drop level ps
at_level ps level p low high is =
    drop-cons ps (level - 1) p (omega arith) ∙ ap₂ (λ (q : Prefix) (l : List Prefix). q ∷ l) (sym is) (ap (λ (n : ℕ). drop n ps) after)
  where
    after : suc (level - 1) ≡ level
    after = omega arith

module _ (ps inner : List Prefix) (p : Prefix) (here : ps ≡ p ∷ inner) (base words next : Option ℕ) (is : next ≡ kept (prefix_words p words)) (agrees : Agree words (prefixed_words inner base)) where
  pub next_agrees : Agree next (prefixed_words ps base)
  next_agrees = ap kept is ∙ agree_kept (prefix_words p words) ∙ agree_prefix p words (prefixed_words inner base) agrees ∙ ap (λ (l : List Prefix). kept (prefixed_words l base)) (sym here)

  pub next_fault : prefix_fault p next ≡ outer_fault ps base
  next_fault = prefix_agree p next (prefixed_words (p ∷ inner) base) (next_agrees ∙ ap (λ (l : List Prefix). kept (prefixed_words l base)) here) ∙ ap (λ (l : List Prefix). outer_fault l base) (sym here)

-- ---- lengths

module _ (t : List (List ℕ)) (flaws : List Flaw) (table : List (Option ℕ)) where
  pub judged_length : (verdicts : List Verdict) (cs : List (List ℕ)) → length (judged_all t flaws table verdicts cs) ≡ length verdicts
  judged_length verdicts [] = refl
  judged_length verdicts (c ∷ cs) = judged_length (judged t flaws table verdicts c) cs ∙ each_length _ verdicts c

pub same_head : (p q : Prefix) (ps : List Prefix) → p ∷ ps ≡ q ∷ ps → p ≡ q
same_head p q ps e = cc
