use Rattle.std.proofs.Common.{◌≡◌, drop}
use Rattle.signatures.proofs.structs.add_field_names.Given as goal
use Rattle.signatures.specs.Structs.{with_field_names}

abbrev pub invariant-loop-name : goal.invariant-loop-name
invariant-loop-name l = with_field_names l.text l.fn.noted l.names ≡ with_field_names l.text l.noted (drop l.name-index l.names)
