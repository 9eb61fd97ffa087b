-- Where a statement stands, from what lies in memory.
use Rattle.syntax.specs.Expressions.{ex_in}
use Rattle.syntax.specs.Statements.{simple_in, stms_of}
use Rattle.parse_statements.specs.declared.blocks.Blocks.{Blocks as CodeBlocks}
use Rattle.parse_statements.specs.declared.blocks.SimpleSpot.{SimpleSpot}
use Rattle.parse_statements.specs.declared.blocks.SimpleSpot.TheVariants as spot
use Rattle.parse_statements.specs.Outer.{Blocks, around}
use Rattle.parse_statements.specs.Outers.{branches_of, outers_of}
use Rattle.parse_statements.specs.Bodies.{Spot, in_body, in_if, in_for, in_post}

abbrev pub blocks_of : CodeBlocks → Blocks
blocks_of b = around (outers_of b.outer.items) (stms_of b.done.items)

-- the blocks around a simple statement, and where in them it stands
abbrev pub blocks_at : SimpleSpot → Blocks
blocks_at (spot.Body b) = blocks_of b
blocks_at (spot.If h) = blocks_of h.blocks
blocks_at (spot.For b pos) = blocks_of b
blocks_at (spot.Post b pos i c) = blocks_of b

abbrev pub spot_at : SimpleSpot → Spot
spot_at (spot.Body b) = in_body
spot_at (spot.If h) = in_if (branches_of h.branches.items) h.pos
spot_at (spot.For b pos) = in_for pos
spot_at (spot.Post b pos i c) = in_post pos (simple_in i) (ex_in c)
