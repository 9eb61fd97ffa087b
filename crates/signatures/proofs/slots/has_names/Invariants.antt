use Rattle.std.proofs.Common.{◌≡◌, drop, length}
use Rattle.std.specs.Prelude.{◌==◌, not, ◌||◌}
use Rattle.syntax.specs.Declarations.{fields_of}
use Rattle.signatures.proofs.slots.has_names.Given as goal
use Rattle.signatures.specs.Signatures.{named_params}

abbrev pub invariant-loop-field : goal.invariant-loop-field
invariant-loop-field l = not (length (named_params (fields_of l.fields)) == 0) ≡ (l.some || not (length (named_params (fields_of (drop l.field-index l.fields))) == 0))
