use Rattle.std.proofs.Common.{◌≡◌, ◌++◌, drop, map}
use Rattle.typed_flows.specs.Flows.{site_flows}
use Rattle.typed_flows.proofs.program.sites.Given as goal

abbrev pub invariant-loop-one : goal.invariant-loop-one
invariant-loop-one l = l.sites.items ++ map site_flows (drop l.one-index l.all) ≡ map site_flows l.all
