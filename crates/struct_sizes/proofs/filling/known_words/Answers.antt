use Rattle.std.proofs.Common.{◌≡◌, ◌<◌, ◌+◌, ◌++◌, ℕ, List, Option, None, take, drop, length, replicate, sym, ap, ◌∙◌, subst, arith}
use Rattle.std.proofs.lemmas.Grind.{common_steps}
use Rattle.std.proofs.lemmas.List.{length-map}
use Rattle.components.specs.declared.component.Component.{Component}
use Rattle.components.specs.Graph.{Among}
use Rattle.components.specs.Components.{component_lists}
use Rattle.components.specs.Search.{At}
use Rattle.components.proofs.Read.{component_read}
use Rattle.components.proofs.Loops.{nodes_within}
use Rattle.struct_sizes.specs.Structs.{structs_of, holds}
use Rattle.struct_sizes.specs.Kept.{AgreeAll}
use Rattle.struct_sizes.specs.Filling.{filled, filled_all}
use Rattle.struct_sizes.proofs.Sums.{holds_length}
use Rattle.struct_sizes.proofs.Steps.{filled_all_more}
use Rattle.struct_sizes.proofs.filling.known_words.Goals as goal

pub fill-requires-clause-declared : goal.fill-requires-clause-declared
fill-requires-clause-declared c = λ k among.
    let ss = structs_of c.args.structs.now in
    let cs = component_lists c.args.components.now.components.items in
    let i = c.loop-component.component-index in
    let nodes = c.component-item.result.nodes.items in
    let at : At cs i nodes = subst (λ (l : List Component). At (component_lists l) i nodes) c.deref-component-items.ensures.value (component_read c.deref-component-items.result.now i c.component-item.result c.loop-component-test.true c.component-item.is) in
    subst (λ (n : ℕ). k < n) (holds_length ss ∙ length-map c.args.structs.now _) (nodes_within (holds ss) cs c.requires i nodes at k (subst (λ (l : List ℕ). Among k l) c.deref.ensures.value among))

pub loop-component-preserved : goal.loop-component-preserved
loop-component-preserved c =
    let ss = structs_of c.args.structs.now in
    let cycles = c.args.on_cycles.now in
    let cs = component_lists c.args.components.now.components.items in
    let i = c.loop-component.component-index in
    let nodes = c.component-item.result.nodes.items in
    let at : At cs i nodes = subst (λ (l : List Component). At (component_lists l) i nodes) c.deref-component-items.ensures.value (component_read c.deref-component-items.result.now i c.component-item.result c.loop-component-test.true c.component-item.is) in
    let begun : List (Option ℕ) = replicate (length c.args.structs.now) None in
    let before = filled_all ss cycles begun (take i cs) in
    let now : take c.loop-component.table.len (c.fill.new.table ++ drop (length c.fill.new.table) c.loop-component.table.items) ≡ c.fill.new.table = grind (arith, common_steps) in
    let same : AgreeAll c.deref_mut.result.now before = subst (λ (l : List (Option ℕ)). AgreeAll l before) (sym c.deref_mut.ensures.value) c.loop-component.invariant.1 in
    let after : AgreeAll c.fill.new.table (filled ss cycles before nodes) = subst (λ (l : List ℕ). AgreeAll c.fill.new.table (filled ss cycles before l)) c.deref.ensures.value (c.fill.ensures before same) in (
      ap length now ∙ c.fill.auto.table ∙ ap length c.deref_mut.ensures.value ∙ c.loop-component.invariant.0,
      subst (λ (l : List (Option ℕ)). AgreeAll l (filled_all ss cycles begun (take (i + 1) cs))) (sym now)
          (subst (λ (l : List (Option ℕ)). AgreeAll c.fill.new.table l) (filled_all_more ss cycles begun cs i nodes at) after),
    )
