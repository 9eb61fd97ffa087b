use Rattle.std.proofs.Common.{◌≡◌, ◌⊎◌, ◌+◌, ◌<◌, ℕ, List, map, drop, get_or, length, subst, sym, ◌∙◌, inl, inr, arith, length-set}
use Rattle.std.specs.List.{Contains}
use Rattle.std.proofs.lemmas.List.{drop_all}
use Rattle.base.specs.declared.ids.FuncId.{FuncId}
use Rattle.value_flows.specs.Syntax.{Tags}
use Rattle.value_flows.specs.View.{param_tags_of, program_of}
use Rattle.value_flows.specs.View.{tags_of as view_of}
use Rattle.escape_graph.specs.Edges.{tags_of}
use Rattle.param_tags.specs.Heap.{heap_of, IsTagged}
use Rattle.param_tags.proofs.Lists.{contains_nil}
use Rattle.param_tags.proofs.Setting.{others_more, tagged_more, view_set}
use Rattle.param_tags.proofs.tags.set_tags.Goals as goal

pub loop-f-preserved : goal.loop-f-preserved
loop-f-preserved c =
    let batch = c.args.batch.now in
    let i = c.loop-f.f-index in
    let d : FuncId = record { 0 = 0 } in
    let old = view_of c.loop-f.tags in
    let ts = map param_tags_of c.in_ok-tags.field-0.items in
    let here : ℕ = (get_or batch i d).0 in
    let inside : here < length old = (let h = c.requires i d c.loop-f-test.true in omega (arith, c.loop-f.invariant.size)) in
    let seen = sym (view_set c.loop-f.tags.funcs.items here c.in_ok-tags.field-0) in
    record {
      size = subst (λ (T : Tags). length T ≡ length (view_of c.args.tags.now)) seen (length-set old here ts ∙ c.loop-f.invariant.size);
      others = λ g other. subst (λ (T : Tags). tags_of T g ≡ tags_of (view_of c.args.tags.now) g) seen (others_more batch i d c.loop-f-test.true old ts (view_of c.args.tags.now) c.loop-f.invariant.others g other);
      tagged = λ edges walked f among. subst (λ (T : Tags). Contains (drop (i + 1) batch) f ⊎ IsTagged (program_of c.args.program.now) edges (heap_of c.args.placed.now) T f.0) seen (tagged_more batch i d c.loop-f-test.true old ts (program_of c.args.program.now) edges (heap_of c.args.placed.now) inside (c.in_ok-tags.ensures edges walked) f (c.loop-f.invariant.tagged edges walked f among));
    }

pub returns-clause-tagged : goal.returns-clause-tagged
returns-clause-tagged c = λ edges walked f among. elim (c.loop-f.invariant.tagged edges walked f among) [
  | inl waits ↦ absurd (contains_nil f (subst (λ (xs : List FuncId). Contains xs f) (drop_all c.loop-f.f-index c.args.batch.now c.loop-f-test.false) waits))
  | inr right ↦ right
]
