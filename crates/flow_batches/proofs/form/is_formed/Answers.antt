use Rattle.std.proofs.Common.{arith, ◌≡◌, false, true}
use Rattle.std.proofs.lemmas.Grind.{common_steps}
use Rattle.std.proofs.lemmas.Bool.Decides.{Decides-at}
use Rattle.value_flows.specs.View.{program_of}
use Rattle.flow_batches.specs.Form.{is_formed}
use Rattle.flow_batches.proofs.Formed.{formed_decides}
use Rattle.flow_batches.proofs.form.is_formed.Goals as goal

pub returns-then-not-func_fits : goal.returns-then-not-func_fits
returns-then-not-func_fits c =
    let p = program_of c.args.program.now in
    let is : false ≡ is_formed p = grind (arith, common_steps) in
    Decides-at false (is_formed p) is (formed_decides p)

pub returns : goal.returns
returns c =
    let p = program_of c.args.program.now in
    let is : true ≡ is_formed p = grind (arith, common_steps) in
    Decides-at true (is_formed p) is (formed_decides p)
