-- What the solution of one batch is.
use Rattle.std.specs.Prelude.{◌≡◌, ℕ, false, List, length, map, Option, Some, None}
use Rattle.std.specs.List.{Contains}
use Rattle.base.specs.declared.ids.FuncId.{FuncId}
use Rattle.value_flows.specs.declared.placed.Known.{Known as KnownData}
use Rattle.value_flows.specs.declared.program.Site.{Site}
use Rattle.value_flows.specs.Syntax.{Program, Tags}
use Rattle.escape_graph.specs.Edges.{numbers, is_own, tags_of, batch_edges}
use Rattle.value_flows.specs.declared.placed.Placed.{Placed}
use Rattle.value_flows.specs.declared.placed.Placed.TheVariants.{Stack, Known}
use Rattle.param_tags.specs.declared.walks.Hold.{Hold}
use Rattle.param_tags.specs.Heap.{heap_of, IsTagged}
use Rattle.param_tags.specs.Walks.{AreHolds}
use Rattle.param_tags.specs.Rounds.{IsJoined}

-- the home of a site to which nothing flows yet
abbrev pub home_by : Option KnownData → Placed
home_by None = Stack
home_by (Some why) = Known why

abbrev pub first_placed : Site → Placed
first_placed s = home_by s.known

abbrev pub first_placements : List Site → List Placed
first_placements sites = map first_placed sites

-- the batch's tags are set and some sites joined, by the edges under the tags before
pub record Solves (p : Program) (b : List FuncId) (T : Tags) (H : List Placed) (T' : Tags) (H' : List Placed) : Type 0 where
  pub size : length T' ≡ length T
  pub others : (g : ℕ) → is_own (numbers b) g ≡ false → tags_of T' g ≡ tags_of T g
  pub tagged : (f : FuncId) → Contains b f → IsTagged p (batch_edges p T b) (heap_of H') T' f.0
  pub holds : List Hold
  pub are : AreHolds (batch_edges p T b) holds
  pub joined : IsJoined p holds H H'
