use Rattle.std.proofs.Common.{◌≡◌, ◌<◌, ◌+◌, ℕ, List, true, length, sym, subst, ap, ◌∙◌, arith}
use Rattle.std.proofs.lemmas.Grind.{common_steps}
use Rattle.std.proofs.lemmas.Bool.{both_ways}
use Rattle.std.proofs.lemmas.List.{length-map}
use Rattle.std.specs.Prelude.{Bool}
use Rattle.components.specs.declared.component.Component.{Component}
use Rattle.components.specs.Graph.{Among, rows}
use Rattle.components.specs.Components.{component_lists}
use Rattle.components.specs.Cycles.{AreMarked}
use Rattle.components.specs.Search.{At, set_all}
use Rattle.components.proofs.Read.{component_read}
use Rattle.components.proofs.Loops.{marked_more, marked_skip, marked_all, nodes_within}
use Rattle.components.proofs.component.Components.on_cycles.Goals as goal
use Rattle.components.proofs.component.Components.on_cycles.Goals.{then-has_cycle, else-has_cycle}

pub has_cycle-requires : goal.has_cycle-requires
has_cycle-requires c = λ k among.
    let t = rows c.args.edges.now in
    let cs = component_lists c.args.self.now.components.items in
    let i = c.loop-component.component-index in
    let at : At cs i c.component-item.result.nodes.items = subst (λ (l : List Component). At (component_lists l) i c.component-item.result.nodes.items) c.deref-component-items.ensures.value (component_read c.deref-component-items.result.now i c.component-item.result c.loop-component-test.true c.component-item.is) in
    let long : length t ≡ length c.args.edges.now = length-map c.args.edges.now _ in
    subst (λ (n : ℕ). k < n) long (nodes_within t cs c.requires i c.component-item.result.nodes.items at k among)

pub mark_all-requires : goal.mark_all-requires
mark_all-requires c = λ k among.
    let t = rows c.args.edges.now in
    let cs = component_lists c.args.self.now.components.items in
    let i = c.loop-component.component-index in
    let at : At cs i c.component-item.result.nodes.items = subst (λ (l : List Component). At (component_lists l) i c.component-item.result.nodes.items) c.deref-component-items.ensures.value (component_read c.deref-component-items.result.now i c.component-item.result c.loop-component-test.true c.component-item.is) in
    let long : length c.deref_mut.result.now ≡ length t = ap length c.deref_mut.ensures.value ∙ c.loop-component.invariant.size in
    subst (λ (n : ℕ). k < n) (sym long) (nodes_within t cs c.requires i c.component-item.result.nodes.items at k (subst (λ (l : List ℕ). Among k l) c.deref.ensures.value among))

pub loop-component-preserved : goal.loop-component-preserved
loop-component-preserved c =
    let t = rows c.args.edges.now in
    let cs = component_lists c.args.self.now.components.items in
    let i = c.loop-component.component-index in
    let nodes = c.component-item.result.nodes.items in
    let marks = c.loop-component.on_cycles.items in
    let at : At cs i nodes = subst (λ (l : List Component). At (component_lists l) i nodes) c.deref-component-items.ensures.value (component_read c.deref-component-items.result.now i c.component-item.result c.loop-component-test.true c.component-item.is) in
    elim c.if-has_cycle.branch [
      | then-has_cycle w ↦ (
          let is : c.if-has_cycle.on_cycles.items ≡ set_all true marks nodes = grind (arith, common_steps, w.on_cycles-is, w.mark_all.ensures, w.deref.ensures.value, w.deref_mut.ensures.value, w.deref_mut.ensures.writes_back) in
          subst (λ (l : List Bool). AreMarked t cs (i + 1) l) (sym is) (marked_more t cs c.requires i marks nodes at (c.has_cycle.ensures.0 w.if-has_cycle.true) c.loop-component.invariant)
          )
      | else-has_cycle w ↦ (
          let is : c.if-has_cycle.on_cycles.items ≡ marks = grind (arith, common_steps, w.on_cycles-is) in
          subst (λ (l : List Bool). AreMarked t cs (i + 1) l) (sym is) (marked_skip t cs c.requires i marks nodes at (λ has. both_ways _ w.if-has_cycle.false (c.has_cycle.ensures.1 has)) c.loop-component.invariant)
          )
    ]

pub returns : goal.returns
returns c =
    let t = rows c.args.edges.now in
    let cs = component_lists c.args.self.now.components.items in
    let many : length cs ≡ length c.args.self.now.components.items = length-map c.args.self.now.components.items _ in
    let seen : length c.args.self.now.components.items ≡ length c.deref-component-items.result.now = sym (ap length c.deref-component-items.ensures.value) in
    marked_all t cs c.requires c.loop-component.component-index c.loop-component.on_cycles.items (omega (arith, many, seen, c.loop-component-test.false)) c.loop-component.invariant
