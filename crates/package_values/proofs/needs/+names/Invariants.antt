use Rattle.std.proofs.Common.{◌≡◌, ◌++◌, drop}
use Rattle.syntax.specs.Expressions.{exs_of, elements_of}
use Rattle.package_values.specs.Needs.{names_in_each, names_in_elements}
use Rattle.package_values.proofs.needs.+names.Given as goal

abbrev pub invariant-add_names_in_each-loop-e : goal.invariant-add_names_in_each-loop-e
invariant-add_names_in_each-loop-e l = l.fn.names.items ++ names_in_each (exs_of l.es) ≡ l.names.items ++ names_in_each (exs_of (drop l.e-index l.es))

abbrev pub invariant-add_names_in_elements-loop-element : goal.invariant-add_names_in_elements-loop-element
invariant-add_names_in_elements-loop-element l = l.fn.names.items ++ names_in_elements (elements_of l.list) ≡ l.names.items ++ names_in_elements (elements_of (drop l.element-index l.list))
