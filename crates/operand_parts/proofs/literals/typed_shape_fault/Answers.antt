use Rattle.syntax.specs.Expressions.{elements_of}
use Rattle.names.specs.Scope.{scope_of}
use Rattle.operand_parts.proofs.Keys.{struct_least}
use Rattle.operand_parts.proofs.literals.typed_shape_fault.Goals as goal

pub returns-in_ok-keys-in-Struct : goal.returns-in_ok-keys-in-Struct
returns-in_ok-keys-in-Struct c =
    rw (c.lesser.ensures, c.form_fault-form.ensures)
    (struct_least c.args.text.now (scope_of c.args.scope.now) c.args.first_pos c.args.whole c.in-Struct.field-0 (elements_of c.args.elements.now) c.in_ok-keys-in-Struct.keys c.in-Struct.is c.in_ok-keys-in-Struct.ensures)
