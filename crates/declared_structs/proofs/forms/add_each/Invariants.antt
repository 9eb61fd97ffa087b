use Rattle.std.proofs.Common.{◌≡◌, ◌++◌, drop, map}
use Rattle.std.specs.Option.{option_map}
use Rattle.struct_sizes.specs.Structs.{prefixed_of}
use Rattle.declared_structs.specs.Passing.{views}
use Rattle.declared_structs.proofs.forms.add_each.Given as goal

abbrev pub invariant-loop : goal.invariant-loop
invariant-loop l =
    views l.fn.fields.items ++ map (λ n. option_map prefixed_of l.value_type) l.names ≡ views l.fields.items ++ map (λ n. option_map prefixed_of l.value_type) (drop l.index l.names)
