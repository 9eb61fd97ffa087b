use Rattle.std.proofs.Common.{◌≡◌, ◌<◌, ◌≤◌, ◌^◌, ◌++◌, length, sym, ap, subst, ◌∙◌, slice_get, arith, List, Option}
use Rattle.base.specs.declared.ids.SiteId.{SiteId}
use Rattle.value_flows.specs.declared.tags.ParamTags.{ParamTags}
use Rattle.value_flows.specs.declared.program.Func.{Func}
use Rattle.explain.specs.Lines.{params_lines, tags_in, text_of}
use Rattle.explain.specs.Passing.{AreFit}
use Rattle.explain.proofs.Texts.{funcs_turn, funcs_fit}
use Rattle.explain.proofs.tags.put_funcs.Goals as goal

pub loop-func-preserved : goal.loop-func-preserved
loop-func-preserved c =
    let f = c.loop-func.func in
    let g = c.index-funcs-func.result in
    let funcs = c.args.funcs.now in
    let tags = c.args.tags.now.funcs.items in
    let own = tags_in (slice_get tags f) in
    let old = c.loop-func.invariant in
    let params : c.deref.result.now ≡ g.params.items = c.deref.ensures.value ∙ ap (λ (x : Func). x.params.items) (sym c.index-funcs-func.is) in
    let put : c.put_params.new.text.items ≡ c.loop-func.text.items ++ text_of (params_lines f 0 g.params.items own) = cc (params, c.tags_of-own.ensures, c.in_ok-put_params.ensures.text) in
    let fits : f < 2 ^ 32 → length g.params.items ≤ 2 ^ 32 → AreFit (params_lines f 0 g.params.items own) =
    subst (λ (os : List (Option SiteId)). f < 2 ^ 32 → length os ≤ 2 ^ 32 → AreFit (params_lines f 0 os own)) params
    (subst (λ (ts : List ParamTags). f < 2 ^ 32 → length c.deref.result.now ≤ 2 ^ 32 → AreFit (params_lines f 0 c.deref.result.now ts)) c.tags_of-own.ensures c.in_ok-put_params.ensures.fits) in
    record {
      text = funcs_turn funcs tags f g c.loop-func.text.items c.put_params.new.text.items _ c.index-funcs-func.is c.loop-func-test.true put old.text;
      fits = λ few most left. old.fits few most (funcs_fit funcs tags f g c.index-funcs-func.is c.loop-func-test.true (fits (omega arith) (most g (f, c.loop-func-test.true, sym c.index-funcs-func.is))) left);
    }
