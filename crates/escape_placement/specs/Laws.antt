-- What the laws say.
use Rattle.std.specs.Prelude.{◌≡◌, ◌⊎◌, ◌↔◌, ℕ, negsuc, Bool, true, List, Some, IsSome, slice_get}
use Rattle.deref_walk.specs.declared.loc.Loc.{Loc}
use Rattle.deref_walk.specs.Flow.{IsLeast}
use Rattle.value_flows.specs.declared.placed.Placed.{Placed}
use Rattle.value_flows.specs.Syntax.{Program as FlowProgram, Tags}
use Rattle.escape_graph.specs.Targets.{site}
use Rattle.escape_graph.specs.Edges.{whole_edges}
use Rattle.param_tags.specs.Heap.{known, outlives}
use Rattle.param_tags.specs.Whole.{IsSolution}
use Rattle.typed_syntax.specs.Syntax.{Program}
use Rattle.typed_syntax.specs.Form.{IsInForm}
use Rattle.typed.specs.declared.program.Site.{Site}
use Rattle.typed_flows.specs.Flows.{flows_of}
use Rattle.base.specs.declared.ids.FuncId.{FuncId}
use Rattle.call_order.specs.Order.{IsCallOrder}
use Rattle.param_tags.specs.Order.{IsFormed, AreOrdered}
use Rattle.flow_batches.specs.Batches.{CallsAreThere, HaveAll, AreSingle, AreTogether, number_lists}
use Rattle.flow_batches.specs.Standing.{IsStanding}
use Rattle.escape_placement.specs.Placed.{placed_by}
use Rattle.escape_placement.specs.Sites.{SitesFit, HasReason, reason_by}

-- the flows of a program in form, whose sites fit it, have what the analysis asks of flows
abbrev pub FlowsAreFormed : Type 0
FlowsAreFormed = (p : Program) (sites : List Site) → IsInForm p → SitesFit p sites
    → IsFormed (flows_of p sites) × CallsAreThere (flows_of p sites) × IsStanding (flows_of p sites)

-- batches of a program's functions in the order of their calls are such batches of its flows, too: callees first, each function in one, once,
-- and two in one exactly where each reaches the other by calls
abbrev pub OrderIsKept : Type 0
OrderIsKept = (p : Program) (sites : List Site) → IsInForm p → SitesFit p sites → (batches : List (List FuncId)) → IsCallOrder p (number_lists batches)
    → AreOrdered (flows_of p sites) batches × HaveAll (flows_of p sites) batches × AreSingle batches × AreTogether (flows_of p sites) batches

-- where a set of sites holds each that is on the heap whatever flows, as the analysis has it, there are those that have a reason: of the package,
-- of too many words, or of words that are not counted, as what `append` makes and a `make` whose length or capacity is no constant
abbrev pub ReasonsCount : Type 0
ReasonsCount = (p : Program) (sites : List Site) (K : ℕ → Bool) → ((x : ℕ) → known (flows_of p sites) x ≡ true → K x ≡ true)
    → (x : ℕ) (counted : Bool) → HasReason sites counted x → ((s : Site) → slice_get sites x ≡ Some s → IsSome (reason_by s.kind s.words counted)) → K x ≡ true

-- the variables of a site live on the heap exactly where they are there whatever flows, or a location that outlives them may hold their address
abbrev pub PlacedExactly : Type 0
PlacedExactly = (p : FlowProgram) (batches : List (List FuncId)) (tags : Tags) (placed : List Placed) → IsSolution p batches tags placed
    → (x : ℕ) → ((placed_by placed).on_heap x ≡ true)
    ↔ ((known p x ≡ true) ⊎ ((r : Loc) × (outlives p (placed_by placed).on_heap r x ≡ true) × IsLeast (whole_edges p tags batches) r (site x) (Some (negsuc 0))))
