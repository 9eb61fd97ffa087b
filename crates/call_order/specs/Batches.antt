-- Components as batches, whose functions stand in the order of the text.
use Rattle.std.specs.Prelude.{ℕ, List, [], ◌∷◌}
use Rattle.std.specs.List.Sorted.{IsPermutation, IsNonDecreasing}

-- a batch has the nodes of a component, in ascending order
pub record IsBatchOf (nodes batch : List ℕ) : Type 0 where
  pub same : IsPermutation nodes batch
  pub ordered : IsNonDecreasing batch

-- each of some batches is that of the component at its place
abbrev pub AreBatchesOf : List (List ℕ) → List (List ℕ) → Type 0
AreBatchesOf [] [] = Unit {0}
AreBatchesOf [] (b ∷ bs) = ⊥
AreBatchesOf (ns ∷ nss) [] = ⊥
AreBatchesOf (ns ∷ nss) (b ∷ bs) = IsBatchOf ns b × AreBatchesOf nss bs
