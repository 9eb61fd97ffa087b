use Rattle.std.proofs.Common.{◌≡◌, ◌++◌, drop, map}
use Rattle.typed.specs.View.{site_in}
use Rattle.signatures.proofs.entries.sites_of.Given as goal
use Rattle.signatures.specs.Entries.{sites_of}

abbrev pub invariant-loop-entry : goal.invariant-loop-entry
invariant-loop-entry l = sites_of (map site_in l.entries) ≡ map (λ site. site.0) l.sites.items ++ sites_of (map site_in (drop l.entry-index l.entries))
