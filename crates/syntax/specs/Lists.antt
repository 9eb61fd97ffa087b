-- Lists of the tree, one after the other.
use Rattle.std.specs.Prelude.{Option}
use Rattle.syntax.specs.declared.expression.Name.{Name}
use Rattle.syntax.specs.Expressions.{Ex, Exs, none, some, Elements, no_elements, element}
use Rattle.syntax.specs.Statements.{Stm, Stms, nil, cons}

abbrev pub appended : Exs → Exs → Exs
appended none b = b
appended (some e a) b = some e (appended a b)

abbrev pub with_ex : Exs → Ex → Exs
with_ex es e = appended es (some e none)

abbrev pub elements_joined : Elements → Elements → Elements
elements_joined no_elements b = b
elements_joined (element key e a) b = element key e (elements_joined a b)

abbrev pub with_element : Elements → Option Name → Ex → Elements
with_element es key e = elements_joined es (element key e no_elements)

abbrev pub joined : Stms → Stms → Stms
joined nil b = b
joined (cons s a) b = cons s (joined a b)

abbrev pub one : Stm → Stms
one s = cons s nil
