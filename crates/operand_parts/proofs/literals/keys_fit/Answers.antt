use Rattle.std.proofs.Common.{[], ◌∷◌, ◌∙◌}
use Rattle.syntax.specs.Expressions.{elements_of}
use Rattle.names.specs.Scope.{scope_of}
use Rattle.operand_parts.proofs.Keys.{keys_none, turned}
use Rattle.operand_parts.proofs.literals.keys_fit.Goals as goal

pub returns : goal.returns
returns c =
    turned c.in_ok-keys_fault.field-0 c.is_none.result c.is_none.ensures
    ∙ keys_none c.args.text.now (scope_of c.args.scope.now) c.args.whole ([] ∷ []) (elements_of c.args.elements.now) c.in_ok-keys_fault.field-0 c.in_ok-keys_fault.ensures
