-- The placement that the analysis gives.
use Rattle.std.specs.Prelude.{List}
use Rattle.frames.specs.Placement.{Placement}
use Rattle.value_flows.specs.declared.placed.Placed.{Placed}
use Rattle.param_tags.specs.Heap.{heap_of}

-- a site's variables live on the heap exactly where its home is there
abbrev pub placed_by : List Placed → Placement
placed_by placed = record { on_heap = heap_of placed }
