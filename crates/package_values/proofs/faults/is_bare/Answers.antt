use Rattle.std.proofs.Common.{sym, ◌∙◌}
use Rattle.syntax.specs.Expressions.{ex_of}
use Rattle.package_values.proofs.ItemLists.{bare_is}
use Rattle.package_values.proofs.faults.is_bare.Goals as goal

pub returns-in-Some : goal.returns-in-Some
returns-in-Some c = rw (c.in-Some.is) (c.is_empty.ensures ∙ sym (bare_is (ex_of c.in-Some.field-0) c.args.values.now))
