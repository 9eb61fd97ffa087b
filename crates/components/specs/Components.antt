-- The strongly connected components of a graph, each after those that it leads to; and which nodes are on cycles.
use Rattle.std.specs.Prelude.{◌≡◌, ℕ, ◌<◌, ◌≤◌, ◌↔◌, Bool, IsTrue, List, length, map, Some, slice_get}
use Rattle.components.specs.declared.component.Component.{Component}
use Rattle.components.specs.Graph.{Among, row, Leads, Reaches}

-- components as lists of the numbers of their nodes
abbrev pub component_lists : List Component → List (List ℕ)
component_lists cs = map (λ c. c.nodes.items) cs

-- a node stands in the component at a place, as its i-th one
abbrev pub StandsAt : List (List ℕ) → (place i : ℕ) → ℕ → Type 0
StandsAt components place i k = (nodes : List ℕ) × (slice_get components place ≡ Some nodes) × (slice_get nodes i ≡ Some k)

abbrev pub Stands : List (List ℕ) → (place : ℕ) → ℕ → Type 0
Stands components place k = (i : ℕ) × StandsAt components place i k

-- two nodes stand in one component
abbrev pub Share : List (List ℕ) → ℕ → ℕ → Type 0
Share components j k = (c : ℕ) × Stands components c j × Stands components c k

-- two nodes reach each other
abbrev pub Mutual : List (List ℕ) → ℕ → ℕ → Type 0
Mutual t j k = Reaches t j k × Reaches t k j

pub record AreComponents (t : List (List ℕ)) (components : List (List ℕ)) : Type 0 where
  -- each node stands in a component, in one place, and nothing else does
  pub all : (k : ℕ) → k < length t → (c : ℕ) × Stands components c k
  pub once : (c i d j k : ℕ) → StandsAt components c i k → StandsAt components d j k → (c ≡ d) × (i ≡ j)
  pub only : (c k : ℕ) → Stands components c k → k < length t
  -- a component has a node
  pub filled : (c : ℕ) → c < length components → (k : ℕ) × Stands components c k
  -- two nodes share a component exactly where each reaches the other
  pub together : (j k : ℕ) → j < length t → k < length t → Share components j k ↔ Mutual t j k
  -- the end of an edge stands in its begin's component or in an earlier one
  pub earlier : (c j k : ℕ) → Stands components c j → Among k (row t j) → k < length t → (d : ℕ) × (d ≤ c) × Stands components d k

-- for each node, whether it leads to itself
pub record AreOnCycles (t : List (List ℕ)) (on_cycles : List Bool) : Type 0 where
  pub size : length on_cycles ≡ length t
  pub is : (k : ℕ) (b : Bool) → slice_get on_cycles k ≡ Some b → IsTrue b ↔ Leads t k k
