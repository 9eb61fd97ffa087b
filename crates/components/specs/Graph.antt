-- Directed graphs: the nodes are the numbers below the length of a list, whose element for each node lists the ends of its edges.
use Rattle.std.specs.Prelude.{◌≡◌, ◌⊎◌, ℕ, List, [], ◌∷◌, map, slice_get, Option, Some, None}
use Rattle.std.specs.Global.{Vec}

-- one of some numbers
abbrev pub Among : ℕ → List ℕ → Type 0
Among k [] = ⊥
Among k (j ∷ js) = (k ≡ j) ⊎ Among k js

abbrev pub rows : List (Vec ℕ) → List (List ℕ)
rows vs = map (λ v. v.items) vs

abbrev pub row_in : Option (List ℕ) → List ℕ
row_in None = []
row_in (Some ks) = ks

-- the ends of a node's edges
abbrev pub row : List (List ℕ) → ℕ → List ℕ
row t j = row_in (slice_get t j)

-- one node leads to another by one or more edges
pub data Leads (t : List (List ℕ)) : ℕ → ℕ → Type 0 where
  at_once : {j k : ℕ} → Among k (row t j) → Leads t j k
  through : {i j k : ℕ} → Among j (row t i) → Leads t j k → Leads t i k

-- one node reaches another by any number of edges, also none
pub data Reaches (t : List (List ℕ)) : ℕ → ℕ → Type 0 where
  itself : {k : ℕ} → Reaches t k k
  onward : {i j k : ℕ} → Among j (row t i) → Reaches t j k → Reaches t i k
