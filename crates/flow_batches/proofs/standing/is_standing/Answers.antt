use Rattle.std.proofs.Common.{arith, ◌≡◌}
use Rattle.std.proofs.lemmas.Grind.{common_steps}
use Rattle.std.proofs.lemmas.Bool.Decides.{Decides-at}
use Rattle.value_flows.specs.View.{program_of}
use Rattle.flow_batches.specs.Tested.{is_standing}
use Rattle.flow_batches.proofs.Stood.{standing_decides}
use Rattle.flow_batches.proofs.standing.is_standing.Goals as goal

pub returns-then-are_right : goal.returns-then-are_right
returns-then-are_right c =
    let p = program_of c.args.program.now in
    let is : c.funcs_stand.result ≡ is_standing p = grind (arith, common_steps) in
    Decides-at c.funcs_stand.result (is_standing p) is (standing_decides p)

pub returns-else-are_right : goal.returns-else-are_right
returns-else-are_right c =
    let p = program_of c.args.program.now in
    let is : c.are_right.result ≡ is_standing p = grind (arith, common_steps) in
    Decides-at c.are_right.result (is_standing p) is (standing_decides p)
