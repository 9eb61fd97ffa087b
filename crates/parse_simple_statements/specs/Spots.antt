-- Where a declaration stands, from what lies in memory.
use Rattle.syntax.specs.Statements.{value_specs_of}
use Rattle.parse_simple_statements.specs.declared.spot.Declares.{Declares as CodeDeclares}
use Rattle.parse_simple_statements.specs.declared.spot.Declares.TheVariants as declares
use Rattle.parse_simple_statements.specs.declared.spot.Spot.{Spot as CodeSpot}
use Rattle.parse_simple_statements.specs.declared.spot.Spot.TheVariants as spot
use Rattle.parse_simple_statements.specs.Grammar.{Declares, of_constants, of_variables}
use Rattle.parse_simple_statements.specs.ValueSpecs.{Spot, alone_here, in_group}

abbrev pub declares_of : CodeDeclares → Declares
declares_of declares.Constants = of_constants
declares_of declares.Variables = of_variables

abbrev pub spot_of : CodeSpot → Spot
spot_of spot.Alone = alone_here
spot_of (spot.Group specs) = in_group (value_specs_of specs.items)
