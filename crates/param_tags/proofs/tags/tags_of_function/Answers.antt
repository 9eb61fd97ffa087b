use Rattle.std.proofs.Common.{◌+◌, List, map, take, subst, sym}
use Rattle.std.specs.Option.{option_map}
use Rattle.base.specs.declared.ids.SiteId.{SiteId}
use Rattle.value_flows.specs.declared.tags.ParamTags.{ParamTags as ParamTagsData}
use Rattle.value_flows.specs.View.{param_tags_of, program_of}
use Rattle.param_tags.specs.Heap.{heap_of, AreTagged}
use Rattle.param_tags.proofs.Tagged.{tagged_step}
use Rattle.param_tags.proofs.tags.tags_of_function.Goals as goal

pub loop-param-preserved : goal.loop-param-preserved
loop-param-preserved c =
    let i = c.loop-param.param-index in
    let xs = c.params_of-param-items.result.now in
    let p = program_of c.args.program.now in
    let K = heap_of c.args.placed.now in
    λ edges walked.
    subst (λ (ts : List ParamTagsData). AreTagged p edges K c.args.f.0 (map (option_map (λ (x : SiteId). x.0)) (take (i + 1) xs)) (map param_tags_of ts)) (sym {A = List ParamTagsData} c.in_ok-push.ensures.items) (tagged_step p edges K c.args.f.0 xs c.loop-param.tags.items i _ c.in_ok-tags_of_param.field-0 c.loop-param-test.true (c.in_ok-tags_of_param.ensures edges walked) (c.loop-param.invariant edges walked))
