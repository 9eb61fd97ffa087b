use Rattle.std.proofs.Common.{rules, tests, ◌≡◌, sym, ◌∙◌}
use Rattle.std.proofs.lemmas.Iterator.{YieldsList-from_slice}
use Rattle.std.proofs.lemmas.Iterator.Search.{all_from_yields_List}
use Rattle.std.specs.List.{list_all}
use Rattle.std.proofs.lemmas.List.Folds.{list_all-map}
use Rattle.value_flows.specs.View.{act_of, program_of}
use Rattle.flow_batches.specs.Tested.{act_stands}
use Rattle.flow_batches.proofs.standing.acts_stand.Goals as goal

pub returns : goal.returns
returns c =
    let p = program_of c.args.program.now in
    let by : c.all.result ≡ list_all (λ a. act_stands p (act_of a)) c.args.acts.now = all_from_yields_List (λ a. act_stands p (act_of a)) _ _ c.all.result c.all.ensures.ran (YieldsList-from_slice c.args.acts.now cc) (λ x b q k. search (rules, tests)) in
    by ∙ sym (list_all-map (act_stands p) act_of c.args.acts.now)
