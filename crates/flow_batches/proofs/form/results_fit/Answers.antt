use Rattle.std.proofs.Common.{rules, tests, ◌≡◌, sym, ◌∙◌}
use Rattle.std.proofs.lemmas.Iterator.{YieldsList-from_slice}
use Rattle.std.proofs.lemmas.Iterator.Search.{all_from_yields_List}
use Rattle.std.specs.List.{list_all}
use Rattle.std.proofs.lemmas.List.Folds.{list_all-map}
use Rattle.value_flows.specs.View.{result_of, program_of}
use Rattle.flow_batches.specs.Form.{may_be_of}
use Rattle.flow_batches.proofs.form.results_fit.Goals as goal

pub returns : goal.returns
returns c =
    let p = program_of c.args.program.now in
    let by : c.all.result ≡ list_all (λ r. may_be_of p c.args.f (result_of r).site) c.args.results.now = all_from_yields_List (λ r. may_be_of p c.args.f (result_of r).site) _ _ c.all.result c.all.ensures.ran (YieldsList-from_slice c.args.results.now cc) (λ x b q k. search (rules, tests)) in
    by ∙ sym (list_all-map (λ r. may_be_of p c.args.f r.site) result_of c.args.results.now)
