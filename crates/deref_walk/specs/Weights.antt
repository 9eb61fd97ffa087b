-- The weights of edges are at least -1, which stands for taking the address.
use Rattle.std.specs.Prelude.{◌≡◌, ℕ, negsuc, ◌≤ℤ◌, List, Some, slice_get}
use Rattle.deref_walk.specs.declared.graph.Edge.{Edge}

abbrev pub AreWeights : List Edge → Type 0
AreWeights edges = (k : ℕ) (e : Edge) → slice_get edges k ≡ Some e → negsuc 0 ≤ℤ e.weight
