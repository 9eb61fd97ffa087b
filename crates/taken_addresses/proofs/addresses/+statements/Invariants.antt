use Rattle.std.proofs.Common.{◌≡◌, ◌++◌, drop}
use Rattle.typed.specs.View.{sts_of}
use Rattle.taken_addresses.specs.Takes.{taken_by_all}
use Rattle.taken_addresses.proofs.addresses.+statements.Given as goal

abbrev pub invariant-add_stmts-loop-s : goal.invariant-add_stmts-loop-s
invariant-add_stmts-loop-s l = l.sites.items ++ taken_by_all (sts_of (drop l.s-index l.ss)) ≡ l.fn.sites.items ++ taken_by_all (sts_of l.ss)
