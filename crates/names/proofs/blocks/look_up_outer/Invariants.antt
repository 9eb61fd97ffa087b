use Rattle.std.proofs.Common.{◌≡◌, ◌≤◌, take, vec_len}
use Rattle.names.specs.Blocks.{lookup, outer_of}
use Rattle.names.proofs.blocks.look_up_outer.Given as goal

abbrev pub invariant-outwards : goal.invariant-outwards
invariant-outwards l = (l.open ≤ vec_len l.tables) × (lookup (outer_of (take l.open l.tables.items)) l.name ≡ lookup (outer_of l.tables.items) l.name)

abbrev pub decreases-outwards : goal.decreases-outwards
decreases-outwards l = l.open
