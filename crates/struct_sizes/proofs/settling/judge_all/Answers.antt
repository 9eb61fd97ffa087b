use Rattle.std.proofs.Common.{◌≡◌, ◌++◌, ℕ, List, take, drop, length, replicate, ap, ap₂, ◌∙◌, subst, arith}
use Rattle.std.proofs.lemmas.Grind.{common_steps}
use Rattle.std.proofs.lemmas.List.{length-map, length-replicate}
use Rattle.components.specs.declared.component.Component.{Component}
use Rattle.components.specs.Graph.{Among, rows}
use Rattle.components.specs.Components.{component_lists}
use Rattle.components.specs.Search.{At}
use Rattle.components.proofs.Read.{component_read}
use Rattle.components.proofs.Loops.{nodes_within}
use Rattle.struct_sizes.specs.declared.verdicts.Verdict.TheVariants.{Sized}
use Rattle.struct_sizes.specs.Filling.{judged, judged_all}
use Rattle.struct_sizes.proofs.Steps.{judged_length, judged_more}
use Rattle.struct_sizes.proofs.settling.judge_all.Goals as goal

pub judge-requires : goal.judge-requires
judge-requires c = λ k among.
    let t = rows c.args.mentions.now in
    let cs = component_lists c.args.components.now.components.items in
    let i = c.loop-component.component-index in
    let nodes = c.component-item.result.nodes.items in
    let at : At cs i nodes = subst (λ (l : List Component). At (component_lists l) i nodes) c.deref-component-items.ensures.value (component_read c.deref-component-items.result.now i c.component-item.result c.loop-component-test.true c.component-item.is) in
    let small = nodes_within t cs c.requires i nodes at k (subst (λ (l : List ℕ). Among k l) c.deref.ensures.value among) in
    let begun = replicate (length c.args.mentions.now) (Sized 0) in
    let long : length c.deref_mut.result.now ≡ length c.args.mentions.now = ap length c.deref_mut.ensures.value ∙ ap length c.loop-component.invariant ∙ judged_length t c.args.flaws.now c.args.table.now begun (take i cs) ∙ length-replicate (length c.args.mentions.now) (Sized 0) in
    let rows_long : length t ≡ length c.args.mentions.now = length-map c.args.mentions.now _ in
    omega (arith, small, long, rows_long)

pub loop-component-preserved : goal.loop-component-preserved
loop-component-preserved c =
    let t = rows c.args.mentions.now in
    let cs = component_lists c.args.components.now.components.items in
    let i = c.loop-component.component-index in
    let nodes = c.component-item.result.nodes.items in
    let at : At cs i nodes = subst (λ (l : List Component). At (component_lists l) i nodes) c.deref-component-items.ensures.value (component_read c.deref-component-items.result.now i c.component-item.result c.loop-component-test.true c.component-item.is) in
    let begun = replicate (length c.args.mentions.now) (Sized 0) in
    let now : take c.loop-component.verdicts.len (c.judge.new.verdicts ++ drop (length c.judge.new.verdicts) c.loop-component.verdicts.items) ≡ c.judge.new.verdicts = grind (arith, common_steps) in
    let is : c.judge.new.verdicts ≡ judged t c.args.flaws.now c.args.table.now (judged_all t c.args.flaws.now c.args.table.now begun (take i cs)) nodes
    = c.judge.ensures ∙ ap₂ (judged t c.args.flaws.now c.args.table.now) (c.deref_mut.ensures.value ∙ c.loop-component.invariant) c.deref.ensures.value in
    now ∙ is ∙ judged_more t c.args.flaws.now c.args.table.now begun cs i nodes at
