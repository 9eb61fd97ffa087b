use Rattle.std.proofs.Common.{◌≡◌, ◌++◌, drop}
use Rattle.param_tags.specs.Solved.{first_placements}
use Rattle.param_tags.proofs.solving.first_placements.Given as goal

abbrev pub invariant-loop-site : goal.invariant-loop-site
invariant-loop-site l = l.placed.items ++ first_placements (drop l.site-index l.program.sites.items) ≡ first_placements l.program.sites.items
