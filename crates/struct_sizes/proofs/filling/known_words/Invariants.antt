use Rattle.std.proofs.Common.{◌≡◌, None, take, length, replicate}
use Rattle.struct_sizes.specs.Structs.{structs_of}
use Rattle.struct_sizes.specs.Kept.{AgreeAll}
use Rattle.struct_sizes.specs.Filling.{filled_all}
use Rattle.components.specs.Components.{component_lists}
use Rattle.struct_sizes.proofs.filling.known_words.Given as goal

abbrev pub invariant-loop-component : goal.invariant-loop-component
invariant-loop-component l = (length l.table.items ≡ length l.structs) × AgreeAll l.table.items (filled_all (structs_of l.structs) l.on_cycles (replicate (length l.structs) None) (take l.component-index (component_lists l.components.components.items)))
