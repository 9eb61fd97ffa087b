-- Where a struct type stands, and its fields so far, from what lies in memory.
use Rattle.syntax.specs.Declarations.{fields_of, type_specs_of}
use Rattle.parse_go.specs.declared.type_spot.TypeSpot.{TypeSpot}
use Rattle.parse_go.specs.declared.type_spot.TypeSpot.TheVariants as spot
use Rattle.parse_go.specs.declared.type_spot.StructFields.{StructFields}
use Rattle.parse_go.specs.TypeSpecs.{Spot, alone_here, in_group, Fields}

abbrev pub spot_of : TypeSpot → Spot
spot_of spot.Alone = alone_here
spot_of (spot.Group specs) = in_group (type_specs_of specs.items)

abbrev pub struct_of : StructFields → Fields
struct_of s = record { spot = spot_of s.spot; name = s.name; fields = fields_of s.fields.items }
