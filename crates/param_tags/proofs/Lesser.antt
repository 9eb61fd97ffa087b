-- Finer edges and more sites on the heap give no greater tags.
use Rattle.std.proofs.Common.{◌≡◌, inl, inr, ℕ, zero, suc, ◌≤◌, Bool, true, List, [], ◌∷◌, Option, Some, None, refl, sym, subst}
use Rattle.std.specs.List.{Contains}
use Rattle.deref_walk.specs.declared.loc.Loc.{Loc}
use Rattle.deref_walk.specs.declared.loc.Loc.TheVariants as loc
use Rattle.deref_walk.specs.declared.graph.Edge.{Edge}
use Rattle.value_flows.specs.declared.tags.ResultTag.{ResultTag}
use Rattle.value_flows.specs.Syntax.{Result, Program, ParamTags}
use Rattle.escape_graph.specs.Targets.{site, result_at}
use Rattle.escape_graph.specs.Edges.{results_of}
use Rattle.param_tags.specs.Heap.{heap_roots, result_roots, listed, AreResultTags, IsParamTagged, IsTaggedAt, AreTagged}
use Rattle.param_tags.proofs.Lists.{contains_nil, head_or_tail, head_in, tail_in}
use Rattle.param_tags.proofs.Finer.{IsFiner, IsLess, IsLessParam, AreLessParams}
use Rattle.param_tags.proofs.Flows.{tag_less}

-- ---- roots

pub root_more : (K L : ℕ → Bool) → ((l : ℕ) → K l ≡ true → L l ≡ true) → (r : Loc) → heap_roots K r ≡ true → heap_roots L r ≡ true
root_more K L h (loc.Site m) t = h m.0 t
root_more K L h (loc.Result f i) t = t
root_more K L h loc.Heap t = t
root_more K L h (loc.Carry m) t = t

-- ---- numbers side by side

abbrev pub AreLessNumbers : List (Option ℕ) → List (Option ℕ) → Type 0
AreLessNumbers [] [] = Unit {0}
AreLessNumbers (m ∷ ms) (n ∷ ns) = IsLess m n × AreLessNumbers ms ns
AreLessNumbers ms ns = ⊥

-- a result's number is there, and is no greater
abbrev pub HasLess : List ResultTag → ResultTag → Type 0
HasLess us a = (b : ResultTag) × Contains us b × (b.result ≡ a.result) × (b.by ≤ a.by)

abbrev tag : ℕ → ℕ → ResultTag
tag j n = record { result = j; by = n }

less_tail : (u : ResultTag) (us : List ResultTag) (a : ResultTag) → HasLess us a → HasLess (u ∷ us) a
less_tail u us a h = (h.0, tail_in u us h.0 h.1, h.2, h.3)

-- one number more
less_rest : (j : ℕ) (n : Option ℕ) (ns : List (Option ℕ)) (a : ResultTag) → HasLess (listed (suc j) ns) a → HasLess (listed j (n ∷ ns)) a
less_rest j None ns a h = h
less_rest j (Some y) ns a h = less_tail (tag j y) (listed (suc j) ns) a h

less_here : (j x : ℕ) (n : Option ℕ) (ns : List (Option ℕ)) → IsLess (Some x) n → HasLess (listed j (n ∷ ns)) (tag j x)
less_here j x None ns h = let y = h x refl in absurd (let e : None ≡ Some y.0 = y.1 in cc)
less_here j x (Some y) ns h =
    let z = h x refl in
    let same : z.0 ≡ y = (let e : Some y ≡ Some z.0 = z.1 in cc) in
    (tag j y, head_in (tag j y) (listed (suc j) ns), refl, subst (λ (n : ℕ). n ≤ x) same z.2)

pub listed_less : (j : ℕ) (ms ns : List (Option ℕ)) → AreLessNumbers ms ns → (a : ResultTag) → Contains (listed j ms) a → HasLess (listed j ns) a
listed_less j [] ns h a among = absurd (contains_nil a among)
listed_less j (m ∷ ms) [] h a among = absurd h
listed_less j (None ∷ ms) (n ∷ ns) h a among = less_rest j n ns a (listed_less (suc j) ms ns h.1 a among)
listed_less j (Some x ∷ ms) (n ∷ ns) h a among = elim (head_or_tail (tag j x) (listed (suc j) ms) a among) [
  | inl is ↦ subst (λ (t : ResultTag). HasLess (listed j (n ∷ ns)) t) is (less_here j x n ns h.0)
  | inr rest ↦ less_rest j n ns a (listed_less (suc j) ms ns h.1 a rest)
]

-- ---- tags

numbers_less : (E F : List Edge) → IsFiner E F → (l : Loc) (f j : ℕ) (rs : List Result) (ms ns : List (Option ℕ)) → AreResultTags E l f j rs ms → AreResultTags F l f j rs ns → AreLessNumbers ms ns
numbers_less E F finer l f j [] [] [] a b = tt
numbers_less E F finer l f j [] [] (n ∷ ns) a b = absurd b
numbers_less E F finer l f j [] (m ∷ ms) ns a b = absurd a
numbers_less E F finer l f j (r ∷ rs) [] ns a b = absurd a
numbers_less E F finer l f j (r ∷ rs) (m ∷ ms) [] a b = absurd b
numbers_less E F finer l f j (r ∷ rs) (m ∷ ms) (n ∷ ns) a b =
    let roots = result_roots (result_at f j r.site) in
    (tag_less roots roots E F l m n a.0 b.0 finer (λ q t. t), numbers_less E F finer l f (suc j) rs ms ns a.1 b.1)

module _ (p : Program) (E F : List Edge) (K L : ℕ → Bool) (finer : IsFiner E F) (more : (l : ℕ) → K l ≡ true → L l ≡ true) (f : ℕ) where
  param_less : (x : ℕ) (t u : ParamTags) → IsParamTagged p E K f x t → IsParamTagged p F L f x u → IsLessParam t u
  param_less x t u a b = record {
    heap = tag_less (heap_roots K) (heap_roots L) E F (site x) t.heap u.heap a.heap b.heap finer (root_more K L more);
    results = λ g among.
        let less = numbers_less E F finer (site x) f 0 (results_of p f) a.numbers b.numbers a.results b.results in
        subst (λ (us : List ResultTag). HasLess us g) (sym b.listed) (listed_less 0 a.numbers b.numbers less g (subst (λ (ts : List ResultTag). Contains ts g) a.listed among));
  }

  less_nothing : (t u : ParamTags) → t ≡ record { heap = None; results = [] } → IsLessParam t u
  less_nothing t u is = subst (λ (x : ParamTags). IsLessParam x u) (sym is) (record { heap = λ x at. absurd (cc); results = λ a among. absurd (contains_nil a among) })

  less_at : (o : Option ℕ) (t u : ParamTags) → IsTaggedAt p E K f o t → IsTaggedAt p F L f o u → IsLessParam t u
  less_at None t u a b = less_nothing t u a
  less_at (Some x) t u a b = param_less x t u a b

  pub tags_less : (os : List (Option ℕ)) (ts us : List ParamTags) → AreTagged p E K f os ts → AreTagged p F L f os us → AreLessParams ts us
  tags_less [] [] us a b i t at = absurd (cc)
  tags_less [] (s ∷ ts) us a b i t at = absurd a
  tags_less (o ∷ os) [] us a b i t at = absurd a
  tags_less (o ∷ os) (s ∷ ts) [] a b i t at = absurd b
  tags_less (o ∷ os) (s ∷ ts) (u ∷ us) a b zero t at =
      let same : s ≡ t = cc in
      (u, refl, subst (λ (x : ParamTags). IsLessParam x u) same (less_at o s u a.0 b.0))
  tags_less (o ∷ os) (s ∷ ts) (u ∷ us) a b (suc i) t at = tags_less os ts us a.1 b.1 i t at

-- ---- tags of each parameter

pub tags_map : (p : Program) (E F : List Edge) (K L : ℕ → Bool) (f : ℕ) (os : List (Option ℕ)) (ts : List ParamTags) → ((x : ℕ) (t : ParamTags) → Contains os (Some x) → IsParamTagged p E K f x t → IsParamTagged p F L f x t) → AreTagged p E K f os ts → AreTagged p F L f os ts
tags_map p E F K L f [] [] h a = tt
tags_map p E F K L f [] (t ∷ ts) h a = absurd a
tags_map p E F K L f (o ∷ os) [] h a = absurd a
tags_map p E F K L f (None ∷ os) (t ∷ ts) h a = (a.0, tags_map p E F K L f os ts (λ y u among. h y u (tail_in None os (Some y) among)) a.1)
tags_map p E F K L f (Some x ∷ os) (t ∷ ts) h a = (h x t (head_in (Some x) os) a.0, tags_map p E F K L f os ts (λ y u among. h y u (tail_in (Some x) os (Some y) among)) a.1)
