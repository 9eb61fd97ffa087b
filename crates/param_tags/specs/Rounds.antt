-- Rounds: sites join the heap until none does.
use Rattle.std.specs.Prelude.{◌≡◌, ◌⊎◌, ◌↔◌, ℕ, ◌<◌, Bool, true, false, not, List, length}
use Rattle.std.specs.List.{Contains, count_by}
use Rattle.value_flows.specs.declared.placed.Known.{Known as KnownData}
use Rattle.value_flows.specs.Syntax.{Program}
use Rattle.param_tags.specs.declared.walks.Hold.{Hold}
use Rattle.param_tags.specs.Heap.{is_on, placed_at, heap_of, outlives}
use Rattle.param_tags.specs.Walks.{Stands}
use Rattle.value_flows.specs.declared.placed.Placed.{Placed}
use Rattle.value_flows.specs.declared.placed.Placed.TheVariants.{Known, Flow}
use Rattle.deref_walk.specs.declared.loc.Loc.{Loc}

-- a set has the site of each pair whose location outlives it
abbrev pub Keeps : Program → List Hold → (ℕ → Bool) → Type 0
Keeps p holds K = (h : Hold) → Contains holds h → outlives p K h.root h.site.0 ≡ true → K h.site.0 ≡ true

-- some sites joined, none that a closed set has not
pub record Joins (p : Program) (holds : List Hold) (old new : List Placed) : Type 0 where
  pub size : length new ≡ length old
  pub more : (l : ℕ) → heap_of old l ≡ true → heap_of new l ≡ true
  pub least : (K : ℕ → Bool) → ((l : ℕ) → heap_of old l ≡ true → K l ≡ true) → Keeps p holds K → (l : ℕ) → heap_of new l ≡ true → K l ≡ true
  -- what is on the heap for a known reason stays so, and no other site gets such a reason
  pub knowns : (l : ℕ) (why : KnownData) → (placed_at old l ≡ Known why) ↔ (placed_at new l ≡ Known why)
  -- where one joined, a location is noted that outlives it and may hold its address
  pub reasons : (l : ℕ) (r : Loc) → placed_at new l ≡ Flow r → (placed_at old l ≡ Flow r) ⊎ (Stands holds r l × (outlives p (heap_of new) r l ≡ true))
  pub gained : (l : ℕ) → heap_of new l ≡ true → (heap_of old l ≡ true) ⊎ ((h : Hold) × Contains holds h × (h.site.0 ≡ l))

abbrev pub on_stack : List Placed → ℕ
on_stack placed = count_by (λ home. not (is_on home)) placed

-- what a look at some pairs does: a site joins, or none can
abbrev pub IsRound : Program → List Hold → List Placed → List Placed → Bool → Type 0
IsRound p seen old new true = on_stack new < on_stack old
IsRound p seen old new false = (new ≡ old) × Keeps p seen (heap_of new)

-- no site can join any more
pub record IsJoined (p : Program) (holds : List Hold) (old new : List Placed) : Type 0 where
  pub joins : Joins p holds old new
  pub keeps : Keeps p holds (heap_of new)
