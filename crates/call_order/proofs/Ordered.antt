-- The batches of the components of a program's calls are the order.
use Rattle.std.proofs.Common.{◌≡◌, ℕ, ◌<◌, ◌≤◌, List, length, Some, slice_get, sym, ◌∙◌, subst, arith}
use Rattle.std.specs.List.Sorted.{IsStrictlyIncreasing}
use Rattle.std.proofs.lemmas.List.{length-map}
use Rattle.components.specs.Components.{AreComponents}
use Rattle.typed_syntax.specs.Syntax.{Program, Func}
use Rattle.call_order.specs.Lists.{called_by_all, call_lists}
use Rattle.call_order.specs.Batches.{AreBatchesOf}
use Rattle.call_order.specs.Order.{Stands, times, IsCallOrder}
use Rattle.call_order.proofs.Listed.{calls_listed, joins_reaches, reaches_joins}
use Rattle.call_order.proofs.Tallied.{tally, times_once, tally_within, strictly}
use Rattle.call_order.proofs.Batched.{at_batch, stands, node_stands, same_times}

module _ (p : Program) (nss bs : List (List ℕ)) (found : AreComponents (call_lists p.funcs) nss) (are : AreBatchesOf nss bs) where
  nodes : length (call_lists p.funcs) ≡ length p.funcs
  nodes = length-map p.funcs (λ (h : Func). called_by_all h.body)

  node : (f : ℕ) → f < length p.funcs → f < length (call_lists p.funcs)
  node f within = subst (λ (n : ℕ). f < n) (sym nodes) within

  once : (f : ℕ) → f < length p.funcs → times f bs ≡ 1
  once f within =
      let at = found.all f (node f within) in
      same_times f nss bs are ∙ times_once f nss at.0 at.1.0 at.1.1 (λ d j s. found.once at.0 at.1.0 d j f at.1.1 s)

  only : (k f : ℕ) → Stands bs k f → f < length p.funcs
  only k f s = subst (λ (n : ℕ). f < n) nodes (found.only k f (node_stands nss bs are k f s))

  rising : (k : ℕ) (b : List ℕ) → slice_get bs k ≡ Some b → IsStrictlyIncreasing b
  rising k b at = strictly b (at_batch nss bs are k b at).2.ordered (λ g c.
      let most : tally g b ≤ times g bs = tally_within g bs k b at in
      let one : times g bs ≡ 1 = once g (only k g (b, at, c)) in
      omega arith)

  pub in_order : IsCallOrder p bs
  in_order = record {
    once = once;
    only = only;
    rising = rising;
    together = λ f g f_within g_within.
        let both = found.together f g (node f f_within) (node g g_within) in (
          (λ s. (let m = both.0 (s.0, node_stands nss bs are s.0 f s.1, node_stands nss bs are s.0 g s.2) in (joins_reaches p m.0, joins_reaches p m.1))),
          (λ r. (let s = both.1 (reaches_joins p r.0, reaches_joins p r.1) in (s.0, stands nss bs are s.0 f s.1, stands nss bs are s.0 g s.2))),
        );
    earlier = λ k f g s c within.
        let e = found.earlier k f g (node_stands nss bs are k f s) (calls_listed p f g c) (node g within) in
        (e.0, e.1, stands nss bs are e.0 g e.2);
  }
