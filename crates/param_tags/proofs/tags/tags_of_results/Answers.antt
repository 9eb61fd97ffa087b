use Rattle.std.proofs.Common.{◌≡◌, ◌+◌, rules, List, map, take, subst, sym}
use Rattle.deref_walk.specs.declared.loc.Loc.{Loc}
use Rattle.value_flows.specs.declared.tags.ResultTag.{ResultTag}
use Rattle.value_flows.specs.View.{result_of}
use Rattle.escape_graph.specs.Targets.{site}
use Rattle.param_tags.specs.Heap.{IsTag, result_roots}
use Rattle.param_tags.specs.Walks.{AreListed}
use Rattle.param_tags.proofs.Tagged.{listed_step}
use Rattle.param_tags.proofs.tags.tags_of_results.Goals as goal

pub loop-place-preserved : goal.loop-place-preserved
loop-place-preserved c =
    let i = c.loop-place.place in
    let xs = c.results_of-which-items.result.now in
    let l = site c.args.l.0 in
    let by = c.flow_to-by.result in
    let place : c.in_ok-j.j ≡ i = search rules in
    λ edges walked.
    let tag = subst (λ (r : Loc). IsTag (result_roots r) edges l by) c.result_at.ensures (c.flow_to-by.ensures edges walked) in
    subst (λ (ts : List ResultTag). AreListed edges l c.args.f.0 (map result_of (take (i + 1) xs)) ts) (sym c.in_ok-add_number.ensures) (listed_step edges l c.args.f.0 xs c.loop-place.tags.items i c.in_ok-j.j _ by c.loop-place-test.true place tag (c.loop-place.invariant edges walked))
