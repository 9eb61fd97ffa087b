-- The placement of a typed program by its analysis.
use Rattle.std.specs.Prelude.{List}
use Rattle.base.specs.declared.ids.FuncId.{FuncId}
use Rattle.typed_syntax.specs.Syntax.{Program}
use Rattle.typed.specs.declared.program.Site.{Site}
use Rattle.frames.specs.Placement.{Placement}
use Rattle.value_flows.specs.Syntax.{Tags}
use Rattle.typed_flows.specs.Flows.{flows_of}
use Rattle.call_order.specs.Order.{IsCallOrder}
use Rattle.param_tags.specs.Whole.{IsHeapSet}
use Rattle.flow_batches.specs.Batches.{number_lists}

-- on the heap is the least set of the program's flows, with its functions in the order of their calls
pub record IsEscapePlacement (p : Program) (sites : List Site) (l : Placement) : Type 0 where
  pub batches : List (List FuncId)
  pub order : IsCallOrder p (number_lists batches)
  pub tags : Tags
  pub set : IsHeapSet (flows_of p sites) batches tags l.on_heap
