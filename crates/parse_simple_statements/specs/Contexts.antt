-- Where a simple statement stands, from what lies in memory.
use Rattle.std.specs.Prelude.{List, Option, Some, None}
use Rattle.std.specs.Global.{Vec}
use Rattle.syntax.specs.declared.expression.Name.{Name}
use Rattle.syntax.specs.Expressions.{exs_of}
use Rattle.parse_simple_statements.specs.declared.context.Context.{Context as CodeContext}
use Rattle.parse_simple_statements.specs.declared.context.Listed.{Listed as CodeListed}
use Rattle.parse_simple_statements.specs.declared.context.Listed.TheVariants as listed
use Rattle.parse_simple_statements.specs.Simples.{Context, Listed, to_assign, to_update, to_define}

abbrev pub context_of : CodeContext → Context
context_of p = record { depth = p.depth; literals = p.literals; defines = p.defines; ranges = p.ranges }

abbrev pub listed_of : CodeListed → Listed
listed_of (listed.Assign ls pos) = to_assign (exs_of ls.items) pos
listed_of (listed.Update ls pos op) = to_update (exs_of ls.items) pos op
listed_of (listed.Define xs pos) = to_define xs.items pos

-- names, if there are any
abbrev pub names_of : Option (Vec Name) → Option (List Name)
names_of None = None
names_of (Some xs) = Some xs.items
