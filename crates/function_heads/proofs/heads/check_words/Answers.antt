use Rattle.std.proofs.Common.{◌≡◌}
use Rattle.std.specs.Option.{option_map}
use Rattle.syntax.specs.Declarations.{function_of}
use Rattle.type_faults.proofs.Leasts.{leaf}
use Rattle.names.specs.Scope.{scope_of, signature_of}
use Rattle.function_heads.proofs.heads.check_words.Goals as goal
use Rattle.function_heads.specs.HeadTypes.{signature_in}
use Rattle.signatures.specs.SignatureFaults.{size_fault}

pub returns-clause-fault : goal.returns-clause-fault
returns-clause-fault c =
    let heads = scope_of c.args.heads.now in
    let g = function_of c.args.f.now in
    let sig : option_map signature_of c.in_ok-signature.signature ≡ signature_in c.args.text.now heads g = c.in_ok-signature.ensures in
    rw (c.size_fault.ensures, sig) (leaf (size_fault heads.types (signature_in c.args.text.now heads g) g.name.pos))
