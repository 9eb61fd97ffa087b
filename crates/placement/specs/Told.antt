-- What a placement says.
use Rattle.std.specs.Prelude.{Bool, false, ◌||◌, nat_lt, List, get_or}
use Rattle.typed_syntax.specs.Types.{TypeTree, width}
use Rattle.typed_syntax.specs.Syntax.{type_in}
use Rattle.frames.specs.Placement.{Placement, most_words}
use Rattle.typed.specs.declared.program.Site.{Site}
use Rattle.placement.specs.declared.placement.Placement.{Placement as PlacementData}

-- sites past its end live in frames
abbrev pub placement_of : PlacementData → Placement
placement_of l = record { on_heap = λ site. get_or l.on_heap.items site false }

-- whether a site's variables are on the heap in a coarse placement, even where they aren't those of the package
abbrev pub is_apart : List TypeTree → Site → Bool
is_apart types site = site.address_taken || nat_lt most_words (width (type_in types site.type_id.0))
