-- The locations of a graph: the heap; of each function its sites in the order of the text, each with its carry after it where the init
-- statement of a `for` declares it, and then its results without a name; and of the whole program its package variables after the heap.
use Rattle.std.specs.Prelude.{ℕ, suc, ◌-◌, Bool, false, true, if◌then◌else◌, List, [], ◌∷◌, ◌++◌, take, drop, slice_get, Option, Some, None, is_some}
use Rattle.base.specs.declared.ids.FuncId.{FuncId}
use Rattle.deref_walk.specs.declared.loc.Loc.{Loc}
use Rattle.deref_walk.specs.declared.loc.Loc.TheVariants as loc
use Rattle.deref_walk.specs.declared.graph.Location.{Location}
use Rattle.value_flows.specs.declared.program.Site.{Site}
use Rattle.value_flows.specs.Syntax.{Result, Func, Program}
use Rattle.escape_graph.specs.Targets.{site}

abbrev pub location : Loc → Option FuncId → ℕ → Bool → Location
location l f depth result = record { loc = l; func = f; depth = depth; result = result }

abbrev pub heap_location : Location
heap_location = location loc.Heap None 0 false

-- a site, and what a loop carries of it: that stands outside of the loop
abbrev pub site_locations : ℕ → Site → List Location
site_locations x s = location (site x) s.func s.depth s.result ∷ (if s.carried then location (loc.Carry (record { 0 = x })) s.func (s.depth - 1) false ∷ [] else [])

-- some sites, from the number x on
abbrev pub sites_from : ℕ → List Site → List Location
sites_from x [] = []
sites_from x (s ∷ ss) = site_locations x s ++ sites_from (suc x) ss

-- those that stand in no function
abbrev pub package_sites : ℕ → List Site → List Location
package_sites x [] = []
package_sites x (s ∷ ss) = (if is_some s.func then [] else site_locations x s) ++ package_sites (suc x) ss

-- the results without a name, from the number j on
abbrev pub unnamed : FuncId → ℕ → List Result → List Location
unnamed f j [] = []
unnamed f j (r ∷ rs) = (if is_some r.site then [] else location (loc.Result f j) (Some f) 0 true ∷ []) ++ unnamed f (suc j) rs

abbrev pub locations_in : Program → FuncId → Option Func → List Location
locations_in p f None = []
locations_in p f (Some g) = sites_from g.first (take g.count (drop g.first p.sites)) ++ unnamed f 0 g.results

abbrev pub func_locations : Program → FuncId → List Location
func_locations p f = locations_in p f (slice_get p.funcs f.0)

abbrev pub funcs_locations : Program → List FuncId → List Location
funcs_locations p [] = []
funcs_locations p (f ∷ fs) = func_locations p f ++ funcs_locations p fs

abbrev pub batch_locations : Program → List FuncId → List Location
batch_locations p batch = heap_location ∷ funcs_locations p batch

abbrev pub all_locations : Program → List (List FuncId) → List Location
all_locations p [] = []
all_locations p (b ∷ bs) = funcs_locations p b ++ all_locations p bs

abbrev pub whole_locations : Program → List (List FuncId) → List Location
whole_locations p batches = heap_location ∷ (package_sites 0 p.sites ++ all_locations p batches)
