use Rattle.std.proofs.Common.{◌≡◌, List, map, Vec, sym, ap, ◌∙◌, subst}
use Rattle.std.specs.declared.alloc.Global.{Global}
use Rattle.std.proofs.lemmas.Result.{IfOk-weaker}
use Rattle.base.specs.declared.ids.FuncId.{FuncId}
use Rattle.frames.specs.Placement.{Placement}
use Rattle.placement.specs.Told.{placement_of}
use Rattle.value_flows.specs.Syntax.{Program as FlowProgram}
use Rattle.value_flows.specs.View.{program_of as flow_program_of, tags_of}
use Rattle.typed.specs.View.{program_of}
use Rattle.typed_flows.specs.Flows.{flows_of}
use Rattle.call_order.specs.Order.{IsCallOrder}
use Rattle.param_tags.specs.Order.{AreOrdered, IsFormed}
use Rattle.param_tags.specs.Heap.{heap_of}
use Rattle.param_tags.specs.Whole.{IsHeapSet}
use Rattle.flow_batches.specs.Batches.{number_lists}
use Rattle.escape_placement.specs.Placed.{placed_by}
use Rattle.escape_placement.specs.Whole.{IsEscapePlacement}
use Rattle.escape_placement.proofs.Functions.{flows_formed}
use Rattle.escape_placement.proofs.Ordered.{order_kept}
use Rattle.escape_placement.proofs.whole.analysed.Goals as goal

pub solve-requires : goal.solve-requires
solve-requires c =
    let program = c.args.program.now in
    let p = program_of program in
    let sites = program.sites.items in
    let is : flow_program_of c.in_ok-flows.flows ≡ flows_of p sites = c.in_ok-flows.ensures in
    let lists = λ (bs : List (Vec FuncId Global)). map (λ b. b.items) bs in
    let same : number_lists (lists c.deref.result.now) ≡ _ = ap (λ (bs : List (Vec FuncId Global)). number_lists (lists bs)) c.deref.ensures.value ∙ c.in_ok-batches.ensures in
    let order : IsCallOrder p (number_lists (lists c.deref.result.now)) = subst (IsCallOrder p) (sym same) c.in_ok-order.ensures in
    record {
      formed = subst IsFormed (sym is) (flows_formed p sites c.requires.form c.requires.sites).0;
      order = subst (λ (F : FlowProgram). AreOrdered F (lists c.deref.result.now)) (sym is) (order_kept p sites c.requires.form c.requires.sites (lists c.deref.result.now) order).0;
    }

pub returns : goal.returns
returns c =
    let program = c.args.program.now in
    let p = program_of program in
    let sites = program.sites.items in
    let is : flow_program_of c.in_ok-flows.flows ≡ flows_of p sites = c.in_ok-flows.ensures in
    let lists = λ (bs : List (Vec FuncId Global)). map (λ b. b.items) bs in
    let batches = lists c.deref.result.now in
    let same : number_lists batches ≡ _ = ap (λ (bs : List (Vec FuncId Global)). number_lists (lists bs)) c.deref.ensures.value ∙ c.in_ok-batches.ensures in
    let order : IsCallOrder p (number_lists batches) = subst (IsCallOrder p) (sym same) c.in_ok-order.ensures in
    let solved = c.in_ok-solved.solved in
    let set : IsHeapSet (flows_of p sites) batches (tags_of solved.tags) (heap_of solved.placed.items) =
    subst (λ (F : FlowProgram). IsHeapSet F batches (tags_of solved.tags) (heap_of solved.placed.items)) is c.in_ok-solved.ensures.solution.set in
    IfOk-weaker c.place.result (λ l. placement_of l ≡ placed_by solved.placed.items) (λ l. IsEscapePlacement p sites (placement_of l))
    (λ l e. record {
      batches = batches;
      order = order;
      tags = tags_of solved.tags;
      set = subst (λ (m : Placement). IsHeapSet (flows_of p sites) batches (tags_of solved.tags) m.on_heap) (sym e) set;
    })
    c.place.ensures
