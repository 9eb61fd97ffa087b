use Rattle.std.proofs.Common.{◌≡◌, drop}
use Rattle.syntax.specs.Declarations.{fields_of}
use Rattle.signatures.proofs.structs.add_fields.Given as goal
use Rattle.signatures.specs.Structs.{with_fields}

abbrev pub invariant-loop-field : goal.invariant-loop-field
invariant-loop-field l = with_fields l.text l.fn.noted (fields_of l.fields) ≡ with_fields l.text l.noted (fields_of (drop l.field-index l.fields))
