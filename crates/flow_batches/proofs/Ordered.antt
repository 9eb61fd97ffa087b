-- Components of the graph of calls are batches.
use Rattle.std.proofs.Common.{◌≡◌, ℕ, zero, suc, ◌<◌, ◌≤◌, true, List, [], ◌∷◌, length, Some, None, slice_get, refl, sym, ap, subst, inl, inr, ◌⊎◌, arith}
use Rattle.std.proofs.lemmas.Option.{same_Some}
use Rattle.std.proofs.lemmas.Bool.{cases_lt}
use Rattle.std.proofs.lemmas.List.{length-map}
use Rattle.base.specs.declared.ids.FuncId.{FuncId}
use Rattle.components.specs.Components.{AreComponents, Stands as NodeStands}
use Rattle.components.proofs.Lists.{among_at, at_among}
use Rattle.components.proofs.Read.{any_among, among_any}
use Rattle.value_flows.specs.Syntax.{Program, Func}
use Rattle.escape_graph.specs.Edges.{numbers, is_own}
use Rattle.param_tags.specs.Order.{FuncCalls, Stands, AreOrdered}
use Rattle.flow_batches.specs.Called.{called_by, call_lists}
use Rattle.flow_batches.specs.Batches.{CallsAreThere, HaveAll, AreSingle, AreTogether, number_lists}
use Rattle.flow_batches.proofs.Listed.{calls_listed, joins_reaches, reaches_joins}

-- ---- places

own_at : (ns : List ℕ) (f : ℕ) → is_own ns f ≡ true → (i : ℕ) × (slice_get ns i ≡ Some f)
own_at ns f is = among_at f ns (any_among f ns is)

at_own : (ns : List ℕ) (i f : ℕ) → slice_get ns i ≡ Some f → is_own ns f ≡ true
at_own ns i f at = among_any f ns (at_among f ns i at)

number_at : (b : List FuncId) (i : ℕ) (f : FuncId) → slice_get b i ≡ Some f → slice_get (numbers b) i ≡ Some f.0
number_at [] i f at = let bad : None ≡ Some f = at in absurd cc
number_at (g ∷ b) zero f at = ap (λ (x : FuncId). Some x.0) (same_Some g f at)
number_at (g ∷ b) (suc i) f at = number_at b i f at

numbers_at : (bs : List (List FuncId)) (k : ℕ) (b : List FuncId) → slice_get bs k ≡ Some b → slice_get (number_lists bs) k ≡ Some (numbers b)
numbers_at [] k b at = let bad : None ≡ Some b = at in absurd cc
numbers_at (c ∷ bs) zero b at = ap (λ (x : List FuncId). Some (numbers x)) (same_Some c b at)
numbers_at (c ∷ bs) (suc k) b at = numbers_at bs k b at

at_numbers : (bs : List (List FuncId)) (k : ℕ) (ns : List ℕ) → slice_get (number_lists bs) k ≡ Some ns → (b : List FuncId) × (slice_get bs k ≡ Some b) × (numbers b ≡ ns)
at_numbers [] k ns at = let bad : None ≡ Some ns = at in absurd cc
at_numbers (c ∷ bs) zero ns at = (c, refl, same_Some (numbers c) ns at)
at_numbers (c ∷ bs) (suc k) ns at = at_numbers bs k ns at

module _ (bs : List (List FuncId)) where
  node_stands : (k f : ℕ) → Stands bs k f → NodeStands (number_lists bs) k f
  node_stands k f s =
      let at = own_at (numbers s.0) f s.2 in
      (at.0, (numbers s.0, numbers_at bs k s.0 s.1, at.1))

  stands : (k f : ℕ) → NodeStands (number_lists bs) k f → Stands bs k f
  stands k f s =
      let at = at_numbers bs k s.1.0 s.1.1 in
      (at.0, at.1, at_own (numbers at.0) s.0 f (subst (λ (ns : List ℕ). slice_get ns s.0 ≡ Some f) (sym at.2) s.1.2))

module _ (p : Program) (bs : List (List FuncId)) (found : AreComponents (call_lists p.funcs) (number_lists bs)) where
  nodes : length (call_lists p.funcs) ≡ length p.funcs
  nodes = length-map p.funcs (λ (h : Func). called_by h.body)

  node : (f : ℕ) → f < length p.funcs → f < length (call_lists p.funcs)
  node f within = subst (λ (n : ℕ). f < n) (sym nodes) within

  pub are_ordered : CallsAreThere p → AreOrdered p bs
  are_ordered there = record {
    once = λ i j f s t. (let a = node_stands bs i f s in let b = node_stands bs j f t in (found.once i a.0 j b.0 f a.1 b.1).0);
    within = λ k f s. subst (λ (n : ℕ). f < n) nodes (found.only k f (node_stands bs k f s));
    earlier = λ k f g s c. earlier k f g s c;
  }
    where
      earlier : (k f g : ℕ) → Stands bs k f → FuncCalls p f g → Stands bs k g ⊎ ((j : ℕ) × (j < k) × Stands bs j g)
      earlier k f g s c =
          let e = found.earlier k f g (node_stands bs k f s) (calls_listed p f g c) (node g (there f g c)) in
          let at : Stands bs e.0 g = stands bs e.0 g e.2 in
          let least : e.0 ≤ k = e.1 in
          elim (cases_lt e.0 k) [
            | inl less ↦ inr (e.0, less, at)
            | inr most ↦ (let is : e.0 ≡ k = omega arith in inl (subst (λ (x : ℕ). Stands bs x g) is at))
          ]

  pub have_all : HaveAll p bs
  have_all f within = let at = found.all f (node f within) in (at.0, stands bs at.0 f at.1)

  pub are_single : AreSingle bs
  are_single k b at i j f first second =
      let here = numbers_at bs k b at in
      (found.once k i k j f.0 (numbers b, here, number_at b i f first) (numbers b, here, number_at b j f second)).1

  pub are_together : AreTogether p bs
  are_together f g f_within g_within =
      let both = found.together f g (node f f_within) (node g g_within) in (
        (λ s. (let m = both.0 (s.0, node_stands bs s.0 f s.1, node_stands bs s.0 g s.2) in (joins_reaches p m.0, joins_reaches p m.1))),
        (λ r. (let s = both.1 (reaches_joins p r.0, reaches_joins p r.1) in (s.0, stands bs s.0 f s.1, stands bs s.0 g s.2))),
      )
