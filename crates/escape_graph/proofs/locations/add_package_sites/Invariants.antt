use Rattle.std.proofs.Common.{◌≡◌, ◌++◌, drop}
use Rattle.escape_graph.specs.Locations.{package_sites}
use Rattle.escape_graph.proofs.locations.add_package_sites.Given as goal

abbrev pub invariant-loop-site : goal.invariant-loop-site
invariant-loop-site l = l.locations.items ++ package_sites l.x (drop l.site-index l.sites) ≡ l.fn.locations.items ++ package_sites 0 l.sites
