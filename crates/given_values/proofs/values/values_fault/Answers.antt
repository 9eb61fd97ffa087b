use Rattle.std.proofs.Common.{sym, ◌∙◌}
use Rattle.given_values.specs.Given.{many}
use Rattle.given_values.specs.Passing.{seens}
use Rattle.given_values.proofs.Places.{values_least}
use Rattle.given_values.proofs.values.values_fault.Goals as goal

pub returns-in-None : goal.returns-in-None
returns-in-None c =
    let os = seens c.args.items.now in
    values_least (many os) os c.singles_fault.result (search (Rattle.std.proofs.Common.rules)) c.singles_fault.ensures
