-- What outlives what, the tags of functions, and the least set of sites on the heap (the comments of cmd/compile/internal/escape).
use Rattle.std.specs.Prelude.{◌≡◌, ℕ, suc, ◌-◌, ◌==◌, ◌&&◌, ◌||◌, nat_lt, ℤ, pos, negsuc, ◌≤ℤ◌, Bool, true, false, List, [], ◌∷◌, Option, Some, None, is_some, slice_get, slice_index_or}
use Rattle.std.specs.List.{Contains}
use Rattle.std.specs.Int.{int_max}
use Rattle.base.specs.declared.ids.FuncId.{FuncId}
use Rattle.deref_walk.specs.declared.loc.Loc.{Loc}
use Rattle.deref_walk.specs.declared.loc.Loc.TheVariants as loc
use Rattle.deref_walk.specs.declared.graph.Edge.{Edge}
use Rattle.deref_walk.specs.Locations.{same}
use Rattle.deref_walk.specs.Flow.{Reaches, IsLeast}
use Rattle.value_flows.specs.declared.placed.Known.{Known as KnownData}
use Rattle.value_flows.specs.declared.program.Site.{Site}
use Rattle.value_flows.specs.declared.tags.ResultTag.{ResultTag}
use Rattle.value_flows.specs.Syntax.{Result, Program, ParamTags, Tags}
use Rattle.value_flows.specs.declared.placed.Placed.{Placed}
use Rattle.value_flows.specs.declared.placed.Placed.TheVariants.{Stack, Known, Flow}
use Rattle.escape_graph.specs.Targets.{site, result_at}
use Rattle.escape_graph.specs.Edges.{params_of, results_of, tags_of, batch_edges}

-- ---- homes

-- a home is one of the heap
abbrev pub is_on : Placed → Bool
is_on Stack = false
is_on (Known why) = true
is_on (Flow r) = true

-- the home of a site
abbrev pub placed_at : List Placed → ℕ → Placed
placed_at placed l = slice_index_or placed l Stack

-- the sites whose homes are on the heap
abbrev pub heap_of : List Placed → ℕ → Bool
heap_of placed l = is_on (placed_at placed l)

-- ---- sites

abbrev pub reason_in : Option Site → Option KnownData
reason_in None = None
reason_in (Some s) = s.known

-- a site is on the heap whatever flows
abbrev pub known : Program → ℕ → Bool
known p l = is_some (reason_in (slice_get p.sites l))

abbrev pub result_in : Option Site → Bool
result_in None = false
result_in (Some s) = s.result

-- a site is a result of its function
abbrev pub is_result : Program → ℕ → Bool
is_result p l = result_in (slice_get p.sites l)

abbrev pub same_func : Option FuncId → Option FuncId → Bool
same_func (Some f) (Some g) = f.0 == g.0
same_func f g = false

-- one site's function is the other's, at a smaller depth, where the first one's is less by so much
abbrev pub outside_in : Option Site → ℕ → Option Site → Bool
outside_in None less o = false
outside_in (Some a) less None = false
outside_in (Some a) less (Some b) = same_func a.func b.func && nat_lt (a.depth - less) b.depth

abbrev pub outside : Program → ℕ → ℕ → ℕ → Bool
outside p m less l = outside_in (slice_get p.sites m) less (slice_get p.sites l)

-- a location outlives the variables of a site, where these sites are on the heap
abbrev pub outlives : Program → (ℕ → Bool) → Loc → ℕ → Bool
outlives p K (loc.Site m) l = K m.0 || (is_result p m.0 || outside p m.0 0 l)
outlives p K (loc.Result f i) l = true
outlives p K loc.Heap l = true
outlives p K (loc.Carry m) l = outside p m.0 1 l

-- ---- tags

-- where the flows of a tag end: at the heap or a site on it
abbrev pub heap_roots : (ℕ → Bool) → Loc → Bool
heap_roots K (loc.Site m) = K m.0
heap_roots K loc.Heap = true
heap_roots K r = false

-- or at a location
abbrev pub result_roots : Loc → Loc → Bool
result_roots l r = same l r

-- a number is there and at most that of a flow, floored at 0
abbrev pub IsAtMost : Option ℕ → ℤ → Type 0
IsAtMost None d = ⊥
IsAtMost (Some n) d = pos n ≤ℤ int_max d (pos 0)

abbrev pub IsFlow : (Loc → Bool) → List Edge → Loc → Option ℕ → Type 0
IsFlow roots edges l None = Unit {0}
IsFlow roots edges l (Some n) = (r : Loc) × (d : ℤ) × (roots r ≡ true) × Reaches edges r l d × (int_max d (pos 0) ≡ pos n)

-- the least flow, floored at 0, to any of some roots; none where nothing flows there
pub record IsTag (roots : Loc → Bool) (edges : List Edge) (l : Loc) (o : Option ℕ) : Type 0 where
  pub flow : IsFlow roots edges l o
  pub least : (r : Loc) (d : ℤ) → roots r ≡ true → Reaches edges r l d → IsAtMost o d

-- the numbers of results that are there, from the result j on
abbrev pub listed : ℕ → List (Option ℕ) → List ResultTag
listed j [] = []
listed j (None ∷ os) = listed (suc j) os
listed j (Some n ∷ os) = record { result = j; by = n } ∷ listed (suc j) os

-- those to each of a function's results, from the result j on
abbrev pub AreResultTags : List Edge → Loc → ℕ → ℕ → List Result → List (Option ℕ) → Type 0
AreResultTags edges l f j [] [] = Unit {0}
AreResultTags edges l f j (r ∷ rs) (o ∷ os) = IsTag (result_roots (result_at f j r.site)) edges l o × AreResultTags edges l f (suc j) rs os
AreResultTags edges l f j rs os = ⊥

-- a parameter without a name has no location, and nothing flows from it
pub record IsParamTagged (p : Program) (edges : List Edge) (K : ℕ → Bool) (f x : ℕ) (t : ParamTags) : Type 0 where
  pub heap : IsTag (heap_roots K) edges (site x) t.heap
  pub numbers : List (Option ℕ)
  pub results : AreResultTags edges (site x) f 0 (results_of p f) numbers
  pub listed : t.results ≡ listed 0 numbers

abbrev pub IsTaggedAt : Program → List Edge → (ℕ → Bool) → ℕ → Option ℕ → ParamTags → Type 0
IsTaggedAt p edges K f None t = t ≡ record { heap = None; results = [] }
IsTaggedAt p edges K f (Some x) t = IsParamTagged p edges K f x t

abbrev pub AreTagged : Program → List Edge → (ℕ → Bool) → ℕ → List (Option ℕ) → List ParamTags → Type 0
AreTagged p edges K f [] [] = Unit {0}
AreTagged p edges K f (o ∷ os) (t ∷ ts) = IsTaggedAt p edges K f o t × AreTagged p edges K f os ts
AreTagged p edges K f os ts = ⊥

-- the tags of a function's parameters
abbrev pub IsTagged : Program → List Edge → (ℕ → Bool) → Tags → ℕ → Type 0
IsTagged p edges K tags f = AreTagged p edges K f (params_of p f) (tags_of tags f)

-- ---- the heap set

-- tags and a set of sites agree on a batch: the tags are those under the set, and the set is closed
pub record Agree (p : Program) (tags : Tags) (K : ℕ → Bool) (b : List FuncId) : Type 0 where
  pub tagged : (f : FuncId) → Contains b f → IsTagged p (batch_edges p tags b) K tags f.0
  pub closed : (r : Loc) (l : ℕ) → outlives p K r l ≡ true → IsLeast (batch_edges p tags b) r (site l) (Some (negsuc 0)) → K l ≡ true

-- they agree on each batch
pub record AgreeOnEach (p : Program) (batches : List (List FuncId)) (tags : Tags) (K : ℕ → Bool) : Type 0 where
  pub known : (l : ℕ) → known p l ≡ true → K l ≡ true
  pub agree : (b : List FuncId) → Contains batches b → Agree p tags K b
