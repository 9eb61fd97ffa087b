use Rattle.std.proofs.Common.{◌≡◌, ℕ, List, Option, take, length}
use Rattle.struct_sizes.specs.Structs.{structs_of}
use Rattle.struct_sizes.specs.Kept.{AgreeAll}
use Rattle.struct_sizes.specs.Filling.{filled}
use Rattle.struct_sizes.proofs.filling.fill.Given as goal

abbrev pub invariant-loop-node : goal.invariant-loop-node
invariant-loop-node l = (length l.table ≡ length l.fn.table) × ((exact : List (Option ℕ)) → AgreeAll l.fn.table exact → AgreeAll l.table (filled (structs_of l.structs) l.on_cycles exact (take l.node-index l.nodes)))
