-- What elements in braces belong to.
use Rattle.std.specs.Prelude.{Bool, true, false}
use Rattle.syntax.specs.Expressions.{Ex, literal, elements, Elements, ex_of}
use Rattle.parse_expressions.specs.declared.container.Container.{Container as CodeContainer}
use Rattle.parse_expressions.specs.declared.container.Container.TheVariants as container
use Rattle.parse_expressions.specs.Frames.{Container, of_type, of_element}

-- from what lies in memory
abbrev pub container_of : CodeContainer → Container
container_of (container.Typed t) = of_type (ex_of t)
container_of (container.Untyped pos) = of_element pos

-- the literal, or the element without a type, that has these elements
abbrev pub in_braces : Container → Elements → Ex
in_braces (of_type t) es = literal t es
in_braces (of_element pos) es = elements pos es

abbrev pub is_typed : Container → Bool
is_typed (of_type t) = true
is_typed (of_element pos) = false
