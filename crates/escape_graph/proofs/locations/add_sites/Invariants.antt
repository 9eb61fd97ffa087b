use Rattle.std.proofs.Common.{◌≡◌, ◌++◌, drop}
use Rattle.escape_graph.specs.Locations.{sites_from}
use Rattle.escape_graph.proofs.locations.add_sites.Given as goal

abbrev pub invariant-loop-site : goal.invariant-loop-site
invariant-loop-site l = l.locations.items ++ sites_from l.x (drop l.site-index l.sites) ≡ l.fn.locations.items ++ sites_from l.first l.sites
