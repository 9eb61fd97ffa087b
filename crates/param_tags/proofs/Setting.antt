-- The tags of one function set among those of all.
use Rattle.std.proofs.Common.{◌≡◌, ◌⊎◌, inl, inr, ℕ, ◌<◌, ◌+◌, Bool, true, false, List, [], ◌∷◌, map, Vec, length, get_or, set, drop, sym, subst, ap, ◌∙◌, arith, add-one, drop-cons}
use Rattle.std.specs.List.{Contains}
use Rattle.std.specs.Prelude.{◌==◌, ◌||◌}
use Rattle.std.specs.declared.alloc.Global.{Global}
use Rattle.std.proofs.lemmas.List.{get_or-set_same, get_or-set_other, map-set}
use Rattle.std.proofs.lemmas.List.Elements.{Contains-get_or}
use Rattle.std.proofs.lemmas.Bool.Decides.{nat_tests}
use Rattle.base.specs.declared.ids.FuncId.{FuncId}
use Rattle.deref_walk.specs.declared.graph.Edge.{Edge}
use Rattle.value_flows.specs.declared.tags.ParamTags.{ParamTags as ParamTagsData}
use Rattle.value_flows.specs.Syntax.{Program, ParamTags, Tags}
use Rattle.value_flows.specs.View.{param_tags_of}
use Rattle.escape_graph.specs.Edges.{numbers, is_own, tags_of, params_of}
use Rattle.param_tags.specs.Heap.{AreTagged, IsTagged}
use Rattle.param_tags.proofs.Lists.{contains_nil, head_or_tail, cases_same}

-- ---- members of a batch

same_number : (a b : ℕ) → a ≡ b → (a == b) ≡ true
same_number a b h = grind (arith, nat_tests)

member_or : (a b : Bool) → (a ≡ true) ⊎ (b ≡ true) → (a || b) ≡ true
member_or a b h = grind (arith, nat_tests)

own_member : (b : List FuncId) (f : FuncId) → Contains b f → is_own (numbers b) f.0 ≡ true
own_member [] f h = absurd (contains_nil f h)
own_member (g ∷ b) f h = elim (head_or_tail g b f h) [
  | inl is ↦ member_or (g.0 == f.0) (is_own (numbers b) f.0) (inl (same_number g.0 f.0 (ap (λ (x : FuncId). x.0) is)))
  | inr rest ↦ member_or (g.0 == f.0) (is_own (numbers b) f.0) (inr (own_member b f rest))
]

apart_by : (b : List FuncId) (f g : ℕ) → is_own (numbers b) f ≡ true → is_own (numbers b) g ≡ false → g ≡ f → ⊥
apart_by b f g mine other same = absurd (let e : true ≡ false = sym mine ∙ ap (is_own (numbers b)) (sym same) ∙ other in cc)

abbrev func_at : ℕ → FuncId
func_at n = record { 0 = n }

one_func : (f g : FuncId) → f.0 ≡ g.0 → f ≡ g
one_func f g h = ap func_at h

-- ---- setting

module _ (batch : List FuncId) (i : ℕ) (d : FuncId) (within : i < length batch) (T : Tags) (ts : List ParamTags) where
  pub others_more : (old : Tags) → ((g : ℕ) → is_own (numbers batch) g ≡ false → tags_of T g ≡ tags_of old g) → (g : ℕ) → is_own (numbers batch) g ≡ false → tags_of (set T (get_or batch i d).0 ts) g ≡ tags_of old g
  others_more old h g other = get_or-set_other T (get_or batch i d).0 g ts [] (apart_by batch (get_or batch i d).0 g (own_member batch (get_or batch i d) (Contains-get_or batch i d within)) other) ∙ h g other

  pub tagged_more : (p : Program) (E : List Edge) (K : ℕ → Bool) → (get_or batch i d).0 < length T → AreTagged p E K (get_or batch i d).0 (params_of p (get_or batch i d).0) ts → (f : FuncId) → Contains (drop i batch) f ⊎ IsTagged p E K T f.0 → Contains (drop (i + 1) batch) f ⊎ IsTagged p E K (set T (get_or batch i d).0 ts) f.0
  tagged_more p E K inside right f was =
      let here = get_or batch i d in
      let now : (g : FuncId) → here ≡ g → IsTagged p E K (set T here.0 ts) g.0 = (λ g is. subst (λ (x : FuncId). IsTagged p E K (set T here.0 ts) x.0) is (subst (λ (us : List ParamTags). AreTagged p E K here.0 (params_of p here.0) us) (sym (get_or-set_same T here.0 ts [] inside)) right)) in
      let split : drop i batch ≡ here ∷ drop (i + 1) batch = drop-cons batch i d within ∙ ap (λ (n : ℕ). here ∷ drop n batch) (sym (add-one i)) in
      elim was [
        | inl waits ↦ (elim (head_or_tail here (drop (i + 1) batch) f (subst (λ (xs : List FuncId). Contains xs f) split waits)) [
          | inl is ↦ inr (now f is)
          | inr rest ↦ inl rest
        ])
        | inr old ↦ (elim (cases_same f.0 here.0) [
          | inl same ↦ inr (now f (one_func here f (sym same)))
          | inr apart ↦ inr (subst (λ (us : List ParamTags). AreTagged p E K f.0 (params_of p f.0) us) (sym (get_or-set_other T here.0 f.0 ts [] apart)) old)
        ])
      ]

-- so it is seen
pub view_set : (fs : List (Vec ParamTagsData Global)) (i : ℕ) (v : Vec ParamTagsData Global) → map (λ f. map param_tags_of f.items) (set fs i v) ≡ set (map (λ f. map param_tags_of f.items) fs) i (map param_tags_of v.items)
view_set fs i v = map-set (λ f. map param_tags_of f.items) fs i v
