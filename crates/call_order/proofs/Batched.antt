-- What batches have of their components.
use Rattle.std.proofs.Common.{◌≡◌, ℕ, zero, suc, ◌+◌, ◌≤◌, ◌==◌, ◌<◌, cond, List, [], ◌∷◌, ◌++◌, length, map, take, get_or, Some, None, slice_get, refl, sym, ap, ◌∙◌, subst, arith}
use Rattle.std.specs.List.{Contains}
use Rattle.std.specs.List.Sorted.{IsPermutation, IsNonDecreasing, IsNonDecreasingBy}
use Rattle.std.proofs.lemmas.List.{length-map, get_or-map, map_push, take_more}
use Rattle.std.proofs.lemmas.List.Sorted.{Contains-permutation, IsPermutation-map, IsPermutation-sym, sum_by-IsPermutation}
use Rattle.std.proofs.lemmas.List.Sums.{sum_by-cons}
use Rattle.std.proofs.lemmas.Option.{same_Some, slice_get-get_or, slice_get_within, get_or_from_slice_get}
use Rattle.base.specs.declared.ids.FuncId.{FuncId}
use Rattle.components.specs.declared.component.Component.{Component}
use Rattle.components.specs.Components.{component_lists, Stands as NodeStands}
use Rattle.call_order.specs.declared.batches.Batch.{Batch}
use Rattle.call_order.specs.Batches.{IsBatchOf, AreBatchesOf}
use Rattle.call_order.specs.Order.{numbers, batch_lists, Stands, times}
use Rattle.call_order.proofs.Tallied.{tally}

batches_push : (nss bs : List (List ℕ)) (ns b : List ℕ) → AreBatchesOf nss bs → IsBatchOf ns b → AreBatchesOf (nss ++ ns ∷ []) (bs ++ b ∷ [])
batches_push [] [] ns b are is = (is, tt)
batches_push [] (a ∷ bs) ns b are is = absurd are
batches_push (ms ∷ nss) [] ns b are is = absurd are
batches_push (ms ∷ nss) (a ∷ bs) ns b are is = (are.0, batches_push nss bs ns b are.1 is)

-- ---- as they are made

ascending : (fs : List FuncId) → IsNonDecreasingBy (λ f. f.0) fs → IsNonDecreasing (map (λ f. f.0) fs)
ascending fs up i j d least within' =
    let long : length (map (λ f. f.0) fs) ≡ length fs = length-map fs (λ (f : FuncId). f.0) in
    let within : j < length fs = omega arith in
    let at_i : get_or (map (λ f. f.0) fs) i d ≡ (get_or fs i (record { 0 = d })).0 = get_or-map (λ (f : FuncId). f.0) fs i (record { 0 = d }) d (omega arith) in
    let at_j : get_or (map (λ f. f.0) fs) j d ≡ (get_or fs j (record { 0 = d })).0 = get_or-map (λ (f : FuncId). f.0) fs j (record { 0 = d }) d within in
    let up' : (get_or fs i (record { 0 = d })).0 ≤ (get_or fs j (record { 0 = d })).0 = up i j (record { 0 = d }) least within in
    omega arith

pub is_batch : (ns : List ℕ) (fs sorted : List FuncId) → map (λ f. f.0) fs ≡ ns → IsPermutation fs sorted → IsNonDecreasingBy (λ f. f.0) sorted → IsBatchOf ns (map (λ f. f.0) sorted)
is_batch ns fs sorted are moved up = record {
  same = subst (λ (xs : List ℕ). IsPermutation xs (map (λ f. f.0) sorted)) are (IsPermutation-map (λ (f : FuncId). f.0) fs sorted moved);
  ordered = ascending sorted up;
}

pub batches_more : (cs : List Component) (i : ℕ) (c : Component) (built now : List Batch) (b : Batch) → i < length cs → c ≡ get_or cs i c → now ≡ built ++ b ∷ [] → AreBatchesOf (component_lists (take i cs)) (batch_lists built) → IsBatchOf c.nodes.items (numbers b) → AreBatchesOf (component_lists (take (i + 1) cs)) (batch_lists now)
batches_more cs i c built now b within read pushed are is =
    let taken : take (i + 1) cs ≡ take i cs ++ c ∷ [] = take_more cs i c within ∙ ap (λ (x : Component). take i cs ++ x ∷ []) (sym read) in
    let nodes : component_lists (take (i + 1) cs) ≡ component_lists (take i cs) ++ c.nodes.items ∷ [] = ap component_lists taken ∙ map_push (λ (x : Component). x.nodes.items) (take i cs) c in
    let batches : batch_lists now ≡ batch_lists built ++ numbers b ∷ [] = ap batch_lists pushed ∙ map_push numbers built b in
    subst (λ (nss : List (List ℕ)). AreBatchesOf nss (batch_lists now)) (sym nodes) (subst (λ (bs : List (List ℕ)). AreBatchesOf (component_lists (take i cs) ++ c.nodes.items ∷ []) bs) (sym batches) (batches_push (component_lists (take i cs)) (batch_lists built) c.nodes.items (numbers b) are is))

-- ---- the batch of a component, and the component of a batch

at_component : (nss bs : List (List ℕ)) → AreBatchesOf nss bs → (k : ℕ) (ns : List ℕ) → slice_get nss k ≡ Some ns → (b : List ℕ) × (slice_get bs k ≡ Some b) × IsBatchOf ns b
at_component [] bs are k ns at = let bad : None ≡ Some ns = at in absurd cc
at_component (ms ∷ nss) [] are k ns at = absurd are
at_component (ms ∷ nss) (b ∷ bs) are zero ns at = (b, refl, subst (λ (xs : List ℕ). IsBatchOf xs b) (same_Some ms ns at) are.0)
at_component (ms ∷ nss) (b ∷ bs) are (suc k) ns at = at_component nss bs are.1 k ns at

pub at_batch : (nss bs : List (List ℕ)) → AreBatchesOf nss bs → (k : ℕ) (b : List ℕ) → slice_get bs k ≡ Some b → (ns : List ℕ) × (slice_get nss k ≡ Some ns) × IsBatchOf ns b
at_batch nss [] are k b at = let bad : None ≡ Some b = at in absurd cc
at_batch [] (a ∷ bs) are k b at = absurd are
at_batch (ns ∷ nss) (a ∷ bs) are zero b at = (ns, refl, subst (λ (xs : List ℕ). IsBatchOf ns xs) (same_Some a b at) are.0)
at_batch (ns ∷ nss) (a ∷ bs) are (suc k) b at = at_batch nss bs are.1 k b at

-- ---- who stands in a batch, and how often

contains_at : (xs : List ℕ) (x : ℕ) → Contains xs x → (i : ℕ) × (slice_get xs i ≡ Some x)
contains_at xs x c = (c.0, slice_get-get_or xs c.0 x c.1 ∙ ap Some c.2)

at_contains : (xs : List ℕ) (i x : ℕ) → slice_get xs i ≡ Some x → Contains xs x
at_contains xs i x at = (i, slice_get_within xs i x at, get_or_from_slice_get xs i x x at)

module _ (nss bs : List (List ℕ)) (are : AreBatchesOf nss bs) where
  pub stands : (k f : ℕ) → NodeStands nss k f → Stands bs k f
  stands k f s =
      let at = at_component nss bs are k s.1.0 s.1.1 in
      (at.0, at.1, Contains-permutation s.1.0 at.0 f at.2.same (at_contains s.1.0 s.0 f s.1.2))

  pub node_stands : (k f : ℕ) → Stands bs k f → NodeStands nss k f
  node_stands k f s =
      let at = at_batch nss bs are k s.0 s.1 in
      let place = contains_at at.0 f (Contains-permutation s.0 at.0 f (IsPermutation-sym at.0 s.0 at.2.same) s.2) in
      (place.0, (at.0, at.1, place.1))

pub same_times : (g : ℕ) (nss bs : List (List ℕ)) → AreBatchesOf nss bs → times g bs ≡ times g nss
same_times g [] [] are = refl
same_times g [] (b ∷ bs) are = absurd are
same_times g (ns ∷ nss) [] are = absurd are
same_times g (ns ∷ nss) (b ∷ bs) are =
    let head : tally g b ≡ tally g ns = sum_by-IsPermutation (λ (h : ℕ). cond (h == g) 1 0) ns b are.0.same in
    let rest : times g bs ≡ times g nss = same_times g nss bs are.1 in
    omega (arith, sum_by-cons (tally g) ns nss, sum_by-cons (tally g) b bs)
