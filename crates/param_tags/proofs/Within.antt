-- A flow to a location of a batch goes along edges of this batch alone.
use Rattle.std.proofs.Common.{◌≡◌, inl, inr, ℕ, suc, ℤ, pos, negsuc, Bool, true, List, [], ◌∷◌, Option, Some, None, sym, subst, ◌∙◌}
use Rattle.std.specs.List.{Contains}
use Rattle.std.specs.Prelude.{slice_get}
use Rattle.std.proofs.lemmas.List.Elements.{Contains-append_left, Contains-append_right, Contains-append_cases}
use Rattle.base.specs.declared.ids.FuncId.{FuncId}
use Rattle.deref_walk.specs.declared.loc.Loc.{Loc}
use Rattle.deref_walk.specs.declared.loc.Loc.TheVariants as loc
use Rattle.deref_walk.specs.declared.graph.Edge.{Edge}
use Rattle.deref_walk.specs.Flow.{Reaches, itself, along}
use Rattle.value_flows.specs.Syntax.{Result, Program, ParamTags, Tags}
use Rattle.escape_graph.specs.Targets.{site, result_at}
use Rattle.escape_graph.specs.Edges.{numbers, is_own, params_of, results_of, tags_of, batch_edges, whole_edges}
use Rattle.value_flows.specs.declared.placed.Placed.{Placed}
use Rattle.param_tags.specs.Heap.{heap_of, heap_roots, result_roots, IsFlow, IsTag, AreResultTags, IsParamTagged, AgreeOnEach}
use Rattle.param_tags.specs.Order.{AreOrdered, IsFormed, func_at}
use Rattle.param_tags.specs.Whole.{Own, FlowsWithin, IsClosed, IsHeapSet, IsSolution}
use Rattle.param_tags.proofs.Lists.{contains_nil, head_or_tail, head_in, tail_in}
use Rattle.param_tags.proofs.Owned.{AreOwned, owned_batch}
use Rattle.param_tags.proofs.Places.{member_own, one_value, place_of}
use Rattle.param_tags.proofs.Ends.{last_edge}
use Rattle.param_tags.proofs.Lesser.{tags_map}
use Rattle.param_tags.proofs.Batches.{batch_fits, own_param, own_last, Done}

of_some : (p : Program) (T : Tags) (bs : List (List FuncId)) (e : Edge) → Contains (whole_edges p T bs) e → (c : List FuncId) × Contains bs c × Contains (batch_edges p T c) e
of_some p T [] e h = absurd (contains_nil e h)
of_some p T (b ∷ bs) e h = elim (Contains-append_cases (batch_edges p T b) (whole_edges p T bs) e h) [
  | inl here ↦ (b, head_in b bs, here)
  | inr there ↦ (let c = of_some p T bs e there in (c.0, tail_in b bs c.0 c.1, c.2))
]

shared : (p : Program) (a b : List ℕ) (l : Loc) → Own p a l → Own p b l → (f : ℕ) × (is_own a f ≡ true) × (is_own b f ≡ true)
shared p a b (loc.Site x) h g = (h.0, h.2, subst (λ (f : ℕ). is_own b f ≡ true) (one_value (func_at p x.0) g.0 h.0 g.1 h.1) g.2)
shared p a b (loc.Result f i) h g = (f.0, h, g)
shared p a b loc.Heap h g = absurd h
shared p a b (loc.Carry x) h g = (h.0, h.2, subst (λ (f : ℕ). is_own b f ≡ true) (one_value (func_at p x.0) g.0 h.0 g.1 h.1) g.2)

same_at : (bs : List (List FuncId)) (j k : ℕ) (c b : List FuncId) → slice_get bs j ≡ Some c → slice_get bs k ≡ Some b → j ≡ k → c ≡ b
same_at bs j k c b p q same = cc

module _ (p : Program) (T : Tags) (batches : List (List FuncId)) (order : AreOrdered p batches) (formed : IsFormed p) where
  owned_at : (c : List FuncId) → Contains batches c → AreOwned p (numbers c) (batch_edges p T c)
  owned_at c among = let k = place_of batches c among in owned_batch p T c (batch_fits p batches order formed k.0 c k.2)

  -- an edge from a location of a batch is one of this batch
  edge_here : (b : List FuncId) → Contains batches b → (e : Edge) → Contains (whole_edges p T batches) e → Own p (numbers b) e.from → Contains (batch_edges p T b) e
  edge_here b here e among own =
      let c = of_some p T batches e among in
      let other = ((owned_at c.0 c.1).ends e c.2).1 in
      let f = shared p (numbers c.0) (numbers b) e.from other own in
      let j = place_of batches c.0 c.1 in
      let k = place_of batches b here in
      let one : j.0 ≡ k.0 = order.once j.0 k.0 f.0 (c.0, j.2, f.1) (b, k.2, f.2) in
      subst (λ (x : List FuncId). Contains (batch_edges p T x) e) (same_at batches j.0 k.0 c.0 b j.2 k.2 one) c.2

  nothing_from_heap : (e : Edge) → Contains (whole_edges p T batches) e → e.from ≡ loc.Heap → ⊥
  nothing_from_heap e among is =
      let c = of_some p T batches e among in
      subst (λ (l : Loc). Own p (numbers c.0) l) is ((owned_at c.0 c.1).ends e c.2).1

  pub flow_within : (b : List FuncId) → Contains batches b → (r l : Loc) (d : ℤ) → Own p (numbers b) l → Reaches (whole_edges p T batches) r l d → Reaches (batch_edges p T b) r l d
  flow_within b here r _ _ own itself = itself
  flow_within b here r _ _ own (along {d = d} e among near) =
      let mine = edge_here b here e among own in
      along e mine (elim ((owned_at b here).ends e mine).0 [
        | inl heap ↦ (elim (last_edge (whole_edges p T batches) r e.to d near) [
          | inl start ↦ subst (λ (x : ℤ). Reaches (batch_edges p T b) r e.to x) (sym start.1) (subst (λ (x : Loc). Reaches (batch_edges p T b) r x (pos 0)) start.0 itself)
          | inr last ↦ absurd (nothing_from_heap last.0 last.1 (last.2 ∙ heap))
        ])
        | inr inside ↦ flow_within b here r e.to d inside near
      ])

pub all_within : FlowsWithin
all_within p T batches order formed b here r l d own flow = flow_within p T batches order formed b here r l d own flow

-- ---- on the whole graph and on each batch

pub in_whole : (p : Program) (T : Tags) (bs : List (List FuncId)) (b : List FuncId) (e : Edge) → Contains bs b → Contains (batch_edges p T b) e → Contains (whole_edges p T bs) e
in_whole p T [] b e h among = absurd (contains_nil b h)
in_whole p T (c ∷ bs) b e h among = elim (head_or_tail c bs b h) [
  | inl is ↦ Contains-append_left (batch_edges p T c) (whole_edges p T bs) e (subst (λ (x : List FuncId). Contains (batch_edges p T x) e) (sym is) among)
  | inr rest ↦ Contains-append_right (batch_edges p T c) (whole_edges p T bs) e (in_whole p T bs b e rest among)
]

flow_up : (E F : List Edge) → ((e : Edge) → Contains E e → Contains F e) → (r l : Loc) (d : ℤ) → Reaches E r l d → Reaches F r l d
flow_up E F up r _ _ itself = itself
flow_up E F up r _ _ (along {d = d} e among near) = along e (up e among) (flow_up E F up r e.to d near)

-- where the flows to a location are the same, so are its tags
module _ (E F : List Edge) (l : Loc) (up : (r : Loc) (d : ℤ) → Reaches E r l d → Reaches F r l d) (down : (r : Loc) (d : ℤ) → Reaches F r l d → Reaches E r l d) where
  flow_same : (R : Loc → Bool) (o : Option ℕ) → IsFlow R E l o → IsFlow R F l o
  flow_same R None f = tt
  flow_same R (Some n) f = (f.0, f.1, f.2, up f.0 f.1 f.3, f.4)

  tag_same : (R : Loc → Bool) (o : Option ℕ) → IsTag R E l o → IsTag R F l o
  tag_same R o t = record { flow = flow_same R o t.flow; least = λ r d root flow. t.least r d root (down r d flow) }

  results_same : (f j : ℕ) (rs : List Result) (os : List (Option ℕ)) → AreResultTags E l f j rs os → AreResultTags F l f j rs os
  results_same f j [] [] h = tt
  results_same f j [] (o ∷ os) h = absurd h
  results_same f j (r ∷ rs) [] h = absurd h
  results_same f j (r ∷ rs) (o ∷ os) h = (tag_same (result_roots (result_at f j r.site)) o h.0, results_same f (suc j) rs os h.1)

param_same : (p : Program) (E F : List Edge) (K : ℕ → Bool) (f x : ℕ) (t : ParamTags) → ((r : Loc) (d : ℤ) → Reaches E r (site x) d → Reaches F r (site x) d) → ((r : Loc) (d : ℤ) → Reaches F r (site x) d → Reaches E r (site x) d) → IsParamTagged p E K f x t → IsParamTagged p F K f x t
param_same p E F K f x t up down tag = record {
  heap = tag_same E F (site x) up down (heap_roots K) t.heap tag.heap;
  numbers = tag.numbers;
  results = results_same E F (site x) up down f 0 (results_of p f) tag.numbers tag.results;
  listed = tag.listed;
}

module _ (p : Program) (batches : List (List FuncId)) (order : AreOrdered p batches) (formed : IsFormed p) (T : Tags) where
  up : (b : List FuncId) → Contains batches b → (r l : Loc) (d : ℤ) → Reaches (batch_edges p T b) r l d → Reaches (whole_edges p T batches) r l d
  up b here r l d flow = flow_up (batch_edges p T b) (whole_edges p T batches) (λ e among. in_whole p T batches b e here among) r l d flow

  last_own : (b : List FuncId) → Contains batches b → (r : Loc) (l : ℕ) → Reaches (batch_edges p T b) r (site l) (negsuc 0) → Own p (numbers b) (site l)
  last_own b here r l flow = let k = place_of batches b here in own_last p b T (batch_fits p batches order formed k.0 b k.2) r l flow

  param_own : (b : List FuncId) → Contains batches b → (f : FuncId) → Contains b f → (x : ℕ) → Contains (params_of p f.0) (Some x) → Own p (numbers b) (site x)
  param_own b here f among x named = let k = place_of batches b here in own_param p b (batch_fits p batches order formed k.0 b k.2) f.0 (member_own b f among) x named

  on_each : (K : ℕ → Bool) → IsClosed p batches T K → AgreeOnEach p batches T K
  on_each K c = record {
    known = c.known;
    agree = λ b here. record {
      tagged = λ f among. tags_map p (whole_edges p T batches) (batch_edges p T b) K K f.0 (params_of p f.0) (tags_of T f.0) (λ x t named tag. param_same p (whole_edges p T batches) (batch_edges p T b) K f.0 x t (λ r d flow. flow_within p T batches order formed b here r (site x) d (param_own b here f among x named) flow) (λ r d flow. up b here r (site x) d flow) tag) (c.tagged b here f among);
      closed = λ r l out least. c.closed r l out (up b here r (site l) (negsuc 0) least.0, λ d flow. least.1 d (flow_within p T batches order formed b here r (site l) d (last_own b here r l least.0) flow));
    };
  }

  on_all : (K : ℕ → Bool) → AgreeOnEach p batches T K → IsClosed p batches T K
  on_all K a = record {
    known = a.known;
    tagged = λ b here f among. tags_map p (batch_edges p T b) (whole_edges p T batches) K K f.0 (params_of p f.0) (tags_of T f.0) (λ x t named tag. param_same p (batch_edges p T b) (whole_edges p T batches) K f.0 x t (λ r d flow. up b here r (site x) d flow) (λ r d flow. flow_within p T batches order formed b here r (site x) d (param_own b here f among x named) flow) tag) ((a.agree b here).tagged f among);
    closed = λ r l out least. elim (last_edge (whole_edges p T batches) r (site l) (negsuc 0) least.0) [
      | inl start ↦ absurd (let e : negsuc 0 ≡ pos 0 = start.1 in cc)
      | inr last ↦ (let b = of_some p T batches last.0 last.1 in
          let own : Own p (numbers b.0) (site l) = subst (λ (x : Loc). Own p (numbers b.0) x) last.2 ((owned_at p T batches order formed b.0 b.1).ends last.0 b.2).1 in
          (a.agree b.0 b.1).closed r l out (flow_within p T batches order formed b.0 b.1 r (site l) (negsuc 0) own least.0, λ d flow. least.1 d (up b.0 b.1 r (site l) d flow)))
    ];
  }

pub whole_set : (p : Program) (batches : List (List FuncId)) → AreOrdered p batches → IsFormed p → (T : Tags) (H : List Placed) → Done p batches batches T H → IsHeapSet p batches T (heap_of H)
whole_set p batches order formed T H d = record {
  closed = on_all p batches order formed T (heap_of H) (record { known = d.known; agree = d.agree });
  least = λ U K closed l h. d.sub U K (on_each p batches order formed U K closed) l h;
}

pub whole_solution : (p : Program) (batches : List (List FuncId)) → AreOrdered p batches → IsFormed p → (T : Tags) (H : List Placed) → Done p batches batches T H → IsSolution p batches T H
whole_solution p batches order formed T H d = record {
  set = whole_set p batches order formed T H d;
  knowns = d.knowns;
  reasons = λ l r m.
      let why = d.reasons l r m in
      let b = why.1.0 in
      (why.0, (up p batches order formed T b why.1.1 r (site l) (negsuc 0) why.1.2.0, λ x flow. why.1.2.1 x (flow_within p T batches order formed b why.1.1 r (site l) x (last_own p batches order formed T b why.1.1 r l why.1.2.0) flow)));
}
