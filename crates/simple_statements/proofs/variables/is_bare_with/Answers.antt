use Rattle.std.proofs.Common.{sym, ◌∙◌}
use Rattle.syntax.specs.Expressions.{ex_of}
use Rattle.simple_statements.proofs.variables.is_bare_with.Goals as goal
use Rattle.simple_statements.proofs.Items.{bare_is}

pub returns-in-Some : goal.returns-in-Some
returns-in-Some c = rw (c.in-Some.is) (c.is_empty.ensures ∙ sym (bare_is (ex_of c.in-Some.field-0) c.args.values.now))
