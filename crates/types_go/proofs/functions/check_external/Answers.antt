use Rattle.std.proofs.Common.{◌⊎◌}
use Rattle.syntax.specs.Declarations.{function_of}
use Rattle.type_faults.specs.Faults.{IsFault}
use Rattle.type_faults.proofs.Leasts.{least_join, leaf}
use Rattle.names.specs.Scope.{scope_of}
use Rattle.function_heads.specs.HeadTypes.{signature_in}
use Rattle.function_heads.specs.HeadFaults.{FailsInHead, FailsInWords, external_fault, missing_body_fault}
use Rattle.types_go.proofs.functions.check_external.Goals as goal

pub returns-clause-fault : goal.returns-clause-fault
returns-clause-fault c =
    let text = c.args.text.now in
    let heads = scope_of c.args.heads.now in
    let g = function_of c.args.f.now in
    let own = missing_body_fault (signature_in text heads g) (external_fault g) in
    rw (c.lesser-2.ensures, c.lesser.ensures, c.in_ok-own.ensures)
    (least_join (λ f. FailsInHead text (scope_of c.args.scope.now) c.args.number g f ⊎ FailsInWords text heads g f) (IsFault own) _ own
    (least_join (FailsInHead text (scope_of c.args.scope.now) c.args.number g) (FailsInWords text heads g) c.check_head-head.result.fault c.in_ok-words.words.fault c.check_head-head.ensures.fault c.in_ok-words.ensures.fault)
    (leaf own))
