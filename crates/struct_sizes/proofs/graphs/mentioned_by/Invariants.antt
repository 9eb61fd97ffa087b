use Rattle.std.proofs.Common.{◌≡◌, take, map}
use Rattle.std.specs.List.{flat_map}
use Rattle.struct_sizes.specs.Structs.{field_of, mentioned_in}
use Rattle.struct_sizes.proofs.graphs.mentioned_by.Given as goal

abbrev pub invariant-loop-field : goal.invariant-loop-field
invariant-loop-field l = l.ends.items ≡ flat_map mentioned_in (map field_of (take l.field-index l.declared.fields.items))
