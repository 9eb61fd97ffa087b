use Rattle.std.proofs.Common.{◌≡◌, ◌++◌, drop, map}
use Rattle.typed.specs.View.{program_of, site_numbers}
use Rattle.value_flows.specs.View.{act_of}
use Rattle.typed_flows.specs.Flows.{carried}
use Rattle.typed_flows.proofs.statements.add_carried.Given as goal

abbrev pub invariant-loop-site : goal.invariant-loop-site
invariant-loop-site l =
    map act_of l.acts.items ++ carried (program_of l.context.program.now) (site_numbers (drop l.site-index l.sites))
    ≡ map act_of l.fn.acts.items ++ carried (program_of l.context.program.now) (site_numbers l.sites)
