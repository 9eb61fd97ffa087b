use Rattle.std.proofs.Common.{◌≡◌, ◌++◌, drop}
use Rattle.heap_bump.specs.Words.{first_address}
use Rattle.expression_code.specs.Frame.{addresses, sites_in}
use Rattle.expression_code.proofs.PackageVariables.{sites_of}
use Rattle.expression_code.proofs.slots.global_addresses.Given as goal

abbrev pub invariant-loop-global : goal.invariant-loop-global
invariant-loop-global l =
    let sites = sites_in l.program in
    addresses sites (sites_of sites l.globals) first_address ≡ l.all.items ++ addresses sites (sites_of sites (drop l.global-index l.globals)) l.next
