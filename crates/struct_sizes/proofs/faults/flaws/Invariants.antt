use Rattle.std.proofs.Common.{◌≡◌, length}
use Rattle.struct_sizes.specs.Structs.{structs_of}
use Rattle.struct_sizes.specs.Filling.{AreFlaws}
use Rattle.struct_sizes.proofs.faults.flaws.Given as goal

abbrev pub invariant-loop-index : goal.invariant-loop-index
invariant-loop-index l = (length l.flaws.items ≡ l.index) × AreFlaws l.table (structs_of l.structs) l.on_cycles l.flaws.items
