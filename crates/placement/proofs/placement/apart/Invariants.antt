use Rattle.std.proofs.Common.{◌≡◌, ◌++◌, drop, map}
use Rattle.typed.specs.Trees.{trees}
use Rattle.placement.specs.Told.{is_apart}
use Rattle.placement.proofs.placement.apart.Given as goal

abbrev pub invariant-loop-site : goal.invariant-loop-site
invariant-loop-site l = l.bits.items ++ map (is_apart (trees l.program.types)) (drop l.site-index l.sites) ≡ map (is_apart (trees l.program.types)) l.sites
