use Rattle.type_faults.proofs.Leasts.{if_ok}
use Rattle.syntax.specs.Declarations.{function_of}
use Rattle.names.specs.Scope.{scope_of}
use Rattle.function_heads.proofs.Open.{alone}
use Rattle.function_heads.proofs.open_heads.function_open.Goals as goal

pub returns : goal.returns
returns c =
    let heads = scope_of c.args.heads.now in
    let is_it = c.in_ok-is_external.field-0 in
    if_ok _ _ c.head_open.result
    (λ r e. alone c.args.text.now heads (function_of c.args.f.now) is_it r c.in_ok-is_external.ensures c.if-branch.false e)
    c.head_open.ensures
