-- The walks of a batch, and which sites' addresses its locations may hold.
use Rattle.std.specs.Prelude.{◌≡◌, ◌↔◌, ◌⊎◌, ℕ, ℤ, pos, negsuc, Bool, true, List, Option, Some, None}
use Rattle.std.specs.List.{Contains}
use Rattle.deref_walk.specs.declared.loc.Loc.{Loc}
use Rattle.deref_walk.specs.declared.graph.Edge.{Edge}
use Rattle.deref_walk.specs.Flow.{Reaches, IsLeast}
use Rattle.deref_walk.specs.Found.{IsWalked}
use Rattle.deref_walk.specs.Locations.{same}
use Rattle.escape_graph.specs.Targets.{site}
use Rattle.value_flows.specs.declared.tags.ResultTag.{ResultTag}
use Rattle.value_flows.specs.Syntax.{Result}
use Rattle.param_tags.specs.Heap.{heap_roots, result_roots, IsFlow, IsAtMost, AreResultTags, listed}
use Rattle.param_tags.specs.declared.walks.Walked.{Walked}
use Rattle.param_tags.specs.declared.walks.Hold.{Hold}

-- a walk from each location that an edge goes to
pub record AreWalked (edges : List Edge) (walks : List Walked) : Type 0 where
  pub sound : (w : Walked) → Contains walks w → IsWalked edges w.root w.levels.found.items
  pub whole : (e : Edge) → Contains edges e → (w : Walked) × Contains walks w × (w.root ≡ e.to)

-- a pair of a location and a site stands in the list
abbrev pub Stands : List Hold → Loc → ℕ → Type 0
Stands holds r l = (h : Hold) × Contains holds h × (h.root ≡ r) × (h.site.0 ≡ l)

-- which locations may hold the address of which site
abbrev pub AreHolds : List Edge → List Hold → Type 0
AreHolds edges holds = (r : Loc) (l : ℕ) → Stands holds r l ↔ IsLeast edges r (site l) (Some (negsuc 0))

-- some pairs more: those of a location with the sites that these edges come from
pub record Adds (edges : List Edge) (root : Loc) (seen : List Edge) (old new : List Hold) : Type 0 where
  pub kept : (h : Hold) → Contains old h → Contains new h
  pub sound : (h : Hold) → Contains new h → Contains old h ⊎ IsLeast edges h.root (site h.site.0) (Some (negsuc 0))
  pub whole : (e : Edge) → Contains seen e → (l : ℕ) → e.from ≡ site l → IsLeast edges root (site l) (Some (negsuc 0)) → Stands new root l

-- the least flow from one location, floored at 0
pub record IsFloor (edges : List Edge) (root l : Loc) (o : Option ℕ) : Type 0 where
  pub flow : IsFlow (λ r. same root r) edges l o
  pub least : (d : ℤ) → Reaches edges root l d → IsAtMost o d

-- where the flows of a tag end: at this location, or else at the heap and the sites on it
abbrev pub roots_of : (ℕ → Bool) → Option Loc → Loc → Bool
roots_of K None = heap_roots K
roots_of K (Some l) = result_roots l

-- the least flow to those of some roots that were looked at, and to the location itself
pub record IsTagAmong (roots : Loc → Bool) (edges : List Edge) (l : Loc) (seen : List Walked) (o : Option ℕ) : Type 0 where
  pub flow : IsFlow roots edges l o
  pub itself : roots l ≡ true → IsAtMost o (pos 0)
  pub least : (w : Walked) → Contains seen w → roots w.root ≡ true → (d : ℤ) → Reaches edges w.root l d → IsAtMost o d

-- a walk more, if there is none from a location yet
pub record AddsWalk (edges : List Edge) (r : Loc) (old new : List Walked) : Type 0 where
  pub kept : (w : Walked) → Contains old w → Contains new w
  pub sound : (w : Walked) → Contains new w → Contains old w ⊎ IsWalked edges w.root w.levels.found.items
  pub there : (w : Walked) × Contains new w × (w.root ≡ r)

-- the least flows of a location to a function's results, in a list of those that are there
pub record AreListed (edges : List Edge) (l : Loc) (f : ℕ) (results : List Result) (tags : List ResultTag) : Type 0 where
  pub numbers : List (Option ℕ)
  pub are : AreResultTags edges l f 0 results numbers
  pub listed : tags ≡ listed 0 numbers
