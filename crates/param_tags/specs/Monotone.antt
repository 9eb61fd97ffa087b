-- More sites on the heap, lesser tags, finer edges, more addresses held; and one set of sites on the heap.
use Rattle.std.specs.Prelude.{◌≡◌, ℕ, negsuc, Bool, true, List, Some}
use Rattle.std.specs.List.{Contains}
use Rattle.base.specs.declared.ids.FuncId.{FuncId}
use Rattle.deref_walk.specs.declared.loc.Loc.{Loc}
use Rattle.deref_walk.specs.Flow.{IsLeast}
use Rattle.value_flows.specs.Syntax.{Program, Tags}
use Rattle.escape_graph.specs.Targets.{site}
use Rattle.escape_graph.specs.Edges.{batch_edges}
use Rattle.param_tags.specs.Heap.{outlives, IsTagged}
use Rattle.param_tags.specs.Order.{AreOrdered}
use Rattle.param_tags.specs.Whole.{IsHeapSet}

-- the tags are those under a set of sites
abbrev pub AreTags : Program → List (List FuncId) → Tags → (ℕ → Bool) → Type 0
AreTags p batches T H = (b : List FuncId) → Contains batches b → (f : FuncId) → Contains b f → IsTagged p (batch_edges p T b) H T f.0

-- where the sites of one set are among those of another, each site that the rules put on the heap under the first one is put there
-- under the second one
abbrev pub IsMonotone : Type 0
IsMonotone = (p : Program) (batches : List (List FuncId)) → AreOrdered p batches → (T U : Tags) (H K : ℕ → Bool)
    → AreTags p batches T H → AreTags p batches U K → ((l : ℕ) → H l ≡ true → K l ≡ true)
    → (b : List FuncId) → Contains batches b → (r : Loc) (l : ℕ) → outlives p H r l ≡ true → IsLeast (batch_edges p T b) r (site l) (Some (negsuc 0))
    → (outlives p K r l ≡ true) × IsLeast (batch_edges p U b) r (site l) (Some (negsuc 0))

-- two least sets of a program have the same sites
abbrev pub IsOneSet : Type 0
IsOneSet = (p : Program) (batches : List (List FuncId)) (T U : Tags) (H K : ℕ → Bool) → IsHeapSet p batches T H → IsHeapSet p batches U K
    → (l : ℕ) → H l ≡ K l
