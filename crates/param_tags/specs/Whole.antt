-- The least heap set, over the edges of all batches together.
use Rattle.std.specs.Prelude.{◌≡◌, ◌↔◌, ℕ, ℤ, negsuc, Bool, true, List, Some, slice_get}
use Rattle.std.specs.List.{Contains}
use Rattle.base.specs.declared.ids.FuncId.{FuncId}
use Rattle.deref_walk.specs.declared.loc.Loc.{Loc}
use Rattle.deref_walk.specs.declared.loc.Loc.TheVariants as loc
use Rattle.deref_walk.specs.Flow.{Reaches, IsLeast}
use Rattle.value_flows.specs.Syntax.{Program, Tags}
use Rattle.escape_graph.specs.Targets.{site}
use Rattle.escape_graph.specs.Edges.{numbers, is_own, batch_edges, whole_edges}
use Rattle.value_flows.specs.declared.placed.Known.{Known as KnownData}
use Rattle.value_flows.specs.declared.placed.Placed.{Placed}
use Rattle.value_flows.specs.declared.placed.Placed.TheVariants.{Known, Flow}
use Rattle.param_tags.specs.Heap.{placed_at, heap_of, reason_in, known, outlives, IsTagged}
use Rattle.param_tags.specs.Order.{AreOrdered, IsFormed, func_at}

-- a site is one of the functions with these numbers
abbrev pub OwnSite : Program → List ℕ → ℕ → Type 0
OwnSite p own x = (f : ℕ) × (func_at p x ≡ Some f) × (is_own own f ≡ true)

-- so is a location
abbrev pub Own : Program → List ℕ → Loc → Type 0
Own p own (loc.Site x) = OwnSite p own x.0
Own p own (loc.Result f i) = is_own own f.0 ≡ true
Own p own loc.Heap = ⊥
Own p own (loc.Carry x) = OwnSite p own x.0

-- a flow to a location of a batch goes along edges of this batch alone
abbrev pub FlowsWithin : Type 0
FlowsWithin = (p : Program) (tags : Tags) (batches : List (List FuncId)) → AreOrdered p batches → IsFormed p
    → (b : List FuncId) → Contains batches b → (r l : Loc) (d : ℤ) → Own p (numbers b) l
    → Reaches (whole_edges p tags batches) r l d → Reaches (batch_edges p tags b) r l d

-- tags and a set of sites agree on the whole graph: the tags are those under the set, and the set is closed
pub record IsClosed (p : Program) (batches : List (List FuncId)) (tags : Tags) (K : ℕ → Bool) : Type 0 where
  pub known : (l : ℕ) → known p l ≡ true → K l ≡ true
  pub tagged : (b : List FuncId) → Contains batches b → (f : FuncId) → Contains b f → IsTagged p (whole_edges p tags batches) K tags f.0
  pub closed : (r : Loc) (l : ℕ) → outlives p K r l ≡ true → IsLeast (whole_edges p tags batches) r (site l) (Some (negsuc 0)) → K l ≡ true

-- the least such set
pub record IsHeapSet (p : Program) (batches : List (List FuncId)) (tags : Tags) (H : ℕ → Bool) : Type 0 where
  pub closed : IsClosed p batches tags H
  pub least : (other : Tags) (K : ℕ → Bool) → IsClosed p batches other K → (l : ℕ) → H l ≡ true → K l ≡ true

-- tags and a home for each site, which put the least set on the heap; a site is there for a known reason exactly where it has that
-- reason, and each that is there by flow names a location that outlives it and may hold its address
pub record IsSolution (p : Program) (batches : List (List FuncId)) (tags : Tags) (placed : List Placed) : Type 0 where
  pub set : IsHeapSet p batches tags (heap_of placed)
  pub knowns : (l : ℕ) (why : KnownData) → (placed_at placed l ≡ Known why) ↔ (reason_in (slice_get p.sites l) ≡ Some why)
  pub reasons : (l : ℕ) (r : Loc) → placed_at placed l ≡ Flow r
      → (outlives p (heap_of placed) r l ≡ true) × IsLeast (whole_edges p tags batches) r (site l) (Some (negsuc 0))
