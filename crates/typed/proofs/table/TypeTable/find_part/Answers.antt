-- The fields of a struct, and the elements of an array.
use Rattle.std.proofs.Common.{sym, subst}
use Rattle.typed.proofs.PartTrees.{IsPart, basic_part, leading_part, untold_part, field_part, element_part}
use Rattle.typed.proofs.table.TypeTable.find_part.Goals as goal

pub returns-in-Int-clause-part : goal.returns-in-Int-clause-part
returns-in-Int-clause-part c = basic_part c.args.self.now c.type_at.ensures.formed c.args.id.0 c.args.index c.type_at.result c.in-Int.is c.type_at.ensures.is

pub returns-in-Pointer-clause-part : goal.returns-in-Pointer-clause-part
returns-in-Pointer-clause-part c = leading_part c.args.self.now c.type_at.ensures.formed c.args.id.0 c.args.index c.type_at.result c.in-Pointer.is c.type_at.ensures.is

pub returns-in_err-fields-in-Struct-clause-part : goal.returns-in_err-fields-in-Struct-clause-part
returns-in_err-fields-in-Struct-clause-part c =
    subst (IsPart c.args.self.now c.args.id.0 c.args.index) (sym c.from_residual.ensures)
    (untold_part c.args.self.now c.in-Struct.ensures.formed c.args.id.0 c.args.index c.in-Struct.struct_id c.in-Struct.ensures.is c.in_err-fields-in-Struct.ensures)

pub returns-in_ok-fields-in-Struct-clause-part : goal.returns-in_ok-fields-in-Struct-clause-part
returns-in_ok-fields-in-Struct-clause-part c =
    let found = c.get.ensures.lookup in
    subst (IsPart c.args.self.now c.args.id.0 c.args.index) (sym c.copied.ensures)
    (field_part c.args.self.now c.in-Struct.ensures.formed c.args.id.0 c.args.index c.in-Struct.struct_id c.in_ok-fields-in-Struct.field-0.now c.get.result c.in-Struct.ensures.is c.in_ok-fields-in-Struct.ensures found.0 found.1)

pub returns-in-Array-clause-part : goal.returns-in-Array-clause-part
returns-in-Array-clause-part c =
    subst (IsPart c.args.self.now c.args.id.0 c.args.index) (sym c.then_some.ensures)
    (element_part c.args.self.now c.in-Array.ensures.formed c.args.id.0 c.args.index c.in-Array.length c.from.result c.in-Array.element c.in-Array.ensures.is c.from.ensures)
