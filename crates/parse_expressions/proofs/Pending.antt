-- Heights of what is not closed yet.
use Rattle.std.proofs.Common.{◌≡◌, suc, max, Option, arith}
use Rattle.syntax.specs.declared.expression.Name.{Name}
use Rattle.syntax.specs.Expressions.{Ex, Elements, no_elements, element}
use Rattle.syntax.specs.Heights.{height}
use Rattle.syntax.specs.Lists.{with_element}
use Rattle.syntax.proofs.Rows.{elements_higher}
use Rattle.parse_expressions.specs.Frames.{Container, of_type, of_element}
use Rattle.parse_expressions.specs.Containers.{in_braces}

-- the height of a literal with an element more
pub higher_braces : (c : Container) (es : Elements) (key : Option Name) (e : Ex) → height (in_braces c (with_element es key e)) ≡ max (height (in_braces c es)) (suc (height e))
higher_braces (of_type t) es key e = omega (arith, elements_higher es key e)
higher_braces (of_element pos) no_elements key e = omega arith
higher_braces (of_element pos) (element k x es) key e = omega (arith, elements_higher es key e)
