use Rattle.std.proofs.Common.{◌≡◌, take}
use Rattle.struct_sizes.specs.Structs.{structs_of, mentions}
use Rattle.components.specs.Graph.{rows}
use Rattle.struct_sizes.proofs.graphs.mentions.Given as goal

abbrev pub invariant-loop-declared : goal.invariant-loop-declared
invariant-loop-declared l = rows l.all.items ≡ mentions (structs_of (take l.declared-index l.structs))
