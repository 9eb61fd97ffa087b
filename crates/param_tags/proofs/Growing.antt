-- The rules are monotone in the sites on the heap, and two least sets are one.
use Rattle.std.proofs.Common.{◌≡◌, ◌⊎◌, inl, inr, ℕ, zero, suc, ◌<◌, ◌≤◌, Bool, true, false, List, Some, refl, sym, subst, ap, arith}
use Rattle.std.specs.Prelude.{slice_get}
use Rattle.base.specs.declared.ids.FuncId.{FuncId}
use Rattle.value_flows.specs.Syntax.{Program, Tags}
use Rattle.escape_graph.specs.Targets.{site}
use Rattle.escape_graph.specs.Edges.{numbers, is_own, params_of, tags_of, batch_edges}
use Rattle.param_tags.specs.Order.{AreOrdered, Stands}
use Rattle.param_tags.specs.Monotone.{AreTags, IsMonotone, IsOneSet}
use Rattle.param_tags.proofs.Finer.{IsFiner, AreLessParams, finer_batch}
use Rattle.escape_graph.proofs.Weights.{weights_batch}
use Rattle.param_tags.proofs.Flows.{least_finer}
use Rattle.param_tags.proofs.Joined.{outlives_more}
use Rattle.param_tags.proofs.Places.{own_member, two_values, one_value, contains_at, place_of}
use Rattle.param_tags.proofs.Lesser.{tags_less}

module _ (p : Program) (batches : List (List FuncId)) (order : AreOrdered p batches) (T U : Tags) (H K : ℕ → Bool) (a : AreTags p batches T H) (c : AreTags p batches U K) (sub : (l : ℕ) → H l ≡ true → K l ≡ true) where
  -- the functions of the batches before a place have lesser tags
  abbrev Less : ℕ → Type 0
  Less n = (k f : ℕ) → k < n → Stands batches k f → AreLessParams (tags_of T f) (tags_of U f)

  finer_at : (n k : ℕ) (b : List FuncId) → k ≤ n → Less n → slice_get batches k ≡ Some b → IsFiner (batch_edges p T b) (batch_edges p U b)
  finer_at n k b within less at = finer_batch p T U b (λ f mine g call outer. elim (order.earlier k f g (b, at, mine) call) [
    | inl here ↦ (let same : here.0 ≡ b = one_value (slice_get batches k) here.0 b here.1 at in
        absurd (two_values (is_own (numbers b) g) (subst (λ (x : List FuncId). is_own (numbers x) g ≡ true) same here.2) outer))
    | inr before ↦ (let below : before.0 < n = omega arith in less before.0 g below before.2)
  ])

  less_at : (n f : ℕ) → Less n → Stands batches n f → AreLessParams (tags_of T f) (tags_of U f)
  less_at n f less stands =
      let b = stands.0 in
      let here = contains_at batches n b stands.1 in
      let finer = finer_at n n b (omega arith) less stands.1 in
      let g = own_member b f stands.2 in
      subst (λ (x : ℕ). AreLessParams (tags_of T x) (tags_of U x)) g.2 (tags_less p (batch_edges p T b) (batch_edges p U b) H K finer sub g.0.0 (params_of p g.0.0) (tags_of T g.0.0) (tags_of U g.0.0) (a b here g.0 g.1) (c b here g.0 g.1))

  below : (n k : ℕ) → k < suc n → (k < n) ⊎ (n ≡ k)
  below zero zero h = inr refl
  below zero (suc k) h = absurd (omega arith)
  below (suc n) zero h = inl (omega arith)
  below (suc n) (suc k) h = elim (below n k (omega arith)) [ inl less ↦ inl (omega arith) | inr same ↦ inr (ap suc same) ]

  all_less : (n : ℕ) → Less n
  all_less zero = λ k f h stands. absurd (omega arith)
  all_less (suc n) = λ k f h stands. elim (below n k h) [
    | inl before ↦ all_less n k f before stands
    | inr same ↦ less_at n f (all_less n) (subst (λ (x : ℕ). Stands batches x f) (sym same) stands)
  ]

pub monotone : IsMonotone
monotone p batches order T U H K a c sub b here r l out least =
    let k = place_of batches b here in
    let finer = finer_at p batches order T U H K a c sub k.0 k.0 b (omega arith) (all_less p batches order T U H K a c sub k.0) k.2 in
    (outlives_more p H K sub r l out, least_finer (batch_edges p T b) (batch_edges p U b) (weights_batch p U b) finer r (site l) least)

-- ---- one set

both_ways : (a b : Bool) → (a ≡ true → b ≡ true) → (b ≡ true → a ≡ true) → a ≡ b
both_ways true b h g = sym (h refl)
both_ways false true h g = g refl
both_ways false false h g = refl

pub one_set : IsOneSet
one_set p batches T U H K a c l = both_ways (H l) (K l) (a.least U K c.closed l) (c.least T H a.closed l)
