-- While the nodes on cycles are marked.
use Rattle.std.specs.Prelude.{◌≡◌, ℕ, ◌<◌, Bool, true, List, [], ◌∷◌, length, slice_get, Some}
use Rattle.components.specs.Graph.{Among, row, Leads}
use Rattle.components.specs.Components.{Stands}

-- a component has several nodes, or one with an edge to itself
abbrev pub HasCycle : List (List ℕ) → List ℕ → Type 0
HasCycle t [] = ⊥
HasCycle t (k ∷ []) = Among k (row t k)
HasCycle t (j ∷ k ∷ ks) = Unit {0}

-- the nodes of the components before a place have their marks
pub record AreMarked (t : List (List ℕ)) (components : List (List ℕ)) (place : ℕ) (marks : List Bool) : Type 0 where
  pub size : length marks ≡ length t
  pub sound : (k : ℕ) → slice_get marks k ≡ Some true → Leads t k k
  pub complete : (c k : ℕ) → c < place → Stands components c k → Leads t k k → slice_get marks k ≡ Some true
