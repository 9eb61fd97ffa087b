-- The steps by which locations hold the addresses of sites.
use Rattle.std.specs.Prelude.{◌≡◌, ◌⊎◌, ℕ, pos, negsuc, Bool, false, List, Option, Some, None, Vec, slice_index_or}
use Rattle.std.specs.declared.alloc.Global.{Global}
use Rattle.deref_walk.specs.declared.loc.Loc.{Loc}
use Rattle.deref_walk.specs.declared.graph.Edge.{Edge}
use Rattle.deref_walk.specs.declared.levels.Step.{Step}
use Rattle.deref_walk.specs.Flow.{Leads}
use Rattle.deref_walk.specs.Locations.{same}
use Rattle.escape_graph.specs.Targets.{site}
use Rattle.value_flows.specs.declared.placed.Placed.{Placed}
use Rattle.value_flows.specs.declared.placed.Placed.TheVariants.{Stack, Known, Flow}
use Rattle.param_tags.specs.declared.walks.Hold.{Hold}
use Rattle.param_tags.specs.Heap.{placed_at}
use Rattle.param_tags.specs.Walks.{Stands}

-- steps from a location by which it may hold the address of a site
abbrev pub IsPath : List Edge → Loc → ℕ → Option (Vec Step Global) → Type 0
IsPath edges r l None = ⊥
IsPath edges r l (Some steps) = Leads edges r (pos 0) steps.items (site l) (negsuc 0)

-- the path of a site
abbrev pub path_at : List (Option (Vec Step Global)) → ℕ → Option (Vec Step Global)
path_at paths l = slice_index_or paths l None

-- each site that is on the heap by flow has a path from the location that its home names
abbrev pub ArePaths : List Edge → List Placed → List (Option (Vec Step Global)) → Type 0
ArePaths edges placed paths = (l : ℕ) (r : Loc) → placed_at placed l ≡ Flow r → IsPath edges r l (path_at paths l)

-- a home names a location
abbrev pub names : Placed → Loc → Bool
names Stack r = false
names (Known why) r = false
names (Flow root) r = same root r

-- some paths more: those of the sites that are on the heap by some pairs
pub record AddsPaths (edges : List Edge) (placed : List Placed) (seen : List Hold) (old new : List (Option (Vec Step Global))) : Type 0 where
  pub paths : (l : ℕ) (r : Loc) → placed_at placed l ≡ Flow r → IsPath edges r l (path_at new l) ⊎ ((Stands seen r l → ⊥) × (path_at new l ≡ path_at old l))

-- each site that is on the heap by flow has a path by these edges, or it was there before, with the path that it has
pub record KeepsPaths (edges : List Edge) (before after : List Placed) (old new : List (Option (Vec Step Global))) : Type 0 where
  pub paths : (l : ℕ) (r : Loc) → placed_at after l ≡ Flow r → IsPath edges r l (path_at new l) ⊎ ((placed_at before l ≡ Flow r) × (path_at new l ≡ path_at old l))
