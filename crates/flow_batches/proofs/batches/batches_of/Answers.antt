use Rattle.std.proofs.Common.{◌≡◌, ℕ, List, map, sym, ap, ◌∙◌, subst}
use Rattle.std.proofs.lemmas.Result.{IfOk-weaker}
use Rattle.base.specs.declared.ids.FuncId.{FuncId}
use Rattle.components.specs.Graph.{rows}
use Rattle.components.specs.Components.{AreComponents, component_lists}
use Rattle.value_flows.specs.View.{program_of}
use Rattle.param_tags.specs.Order.{AreOrdered}
use Rattle.flow_batches.specs.Called.{call_lists}
use Rattle.flow_batches.specs.Batches.{HaveAll, AreSingle, AreTogether, number_lists}
use Rattle.flow_batches.proofs.Ordered.{are_ordered, have_all, are_single, are_together}
use Rattle.flow_batches.proofs.batches.batches_of.Goals as goal

pub returns : goal.returns
returns c =
    let p = program_of c.args.program.now in
    let found = component_lists c.in_ok-found.found.components.items in
    let calls_are : rows c.deref.result.now ≡ call_lists p.funcs = ap rows c.deref.ensures.value ∙ c.in_ok-calls.ensures in
    let are : AreComponents (call_lists p.funcs) found = subst (λ (t : List (List ℕ)). AreComponents t found) calls_are c.in_ok-found.ensures in
    let listed : component_lists c.deref-2.result.now ≡ found = ap component_lists c.deref-2.ensures.value in
    let of = λ (bs : List (List FuncId)) (e : number_lists bs ≡ component_lists c.deref-2.result.now). subst (λ (ns : List (List ℕ)). AreComponents (call_lists p.funcs) ns) (sym (e ∙ listed)) are in
    record {
      ordered = IfOk-weaker c.all_batches.result _ (λ v. AreOrdered p (map (λ b. b.items) v.items)) (λ v e. are_ordered p (map (λ b. b.items) v.items) (of (map (λ b. b.items) v.items) e) c.requires.calls) c.all_batches.ensures;
      all = IfOk-weaker c.all_batches.result _ (λ v. HaveAll p (map (λ b. b.items) v.items)) (λ v e. have_all p (map (λ b. b.items) v.items) (of (map (λ b. b.items) v.items) e)) c.all_batches.ensures;
      single = IfOk-weaker c.all_batches.result _ (λ v. AreSingle (map (λ b. b.items) v.items)) (λ v e. are_single p (map (λ b. b.items) v.items) (of (map (λ b. b.items) v.items) e)) c.all_batches.ensures;
      together = IfOk-weaker c.all_batches.result _ (λ v. AreTogether p (map (λ b. b.items) v.items)) (λ v e. are_together p (map (λ b. b.items) v.items) (of (map (λ b. b.items) v.items) e)) c.all_batches.ensures;
    }
