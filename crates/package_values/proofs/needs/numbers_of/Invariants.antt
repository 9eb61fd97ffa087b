use Rattle.std.proofs.Common.{◌≡◌, ◌++◌, drop}
use Rattle.names.specs.Scope.{scope_of}
use Rattle.package_values.specs.Needs.{numbers_of}
use Rattle.package_values.proofs.needs.numbers_of.Given as goal

abbrev pub invariant-loop-name : goal.invariant-loop-name
invariant-loop-name l = numbers_of l.text (scope_of l.scope) l.names ≡ l.numbers.items ++ numbers_of l.text (scope_of l.scope) (drop l.name-index l.names)
