-- The words in front of a field, and of elements.
use Rattle.std.proofs.Common.{ap, min, ◌∙◌}
use Rattle.std.specs.Option.{unwrap_or}
use Rattle.typed.proofs.PartTrees.{basic_before, leading_before, field_before, element_before}
use Rattle.typed.proofs.table.TypeTable.part_offset.Goals as goal

pub returns-in-Int : goal.returns-in-Int
returns-in-Int c = basic_before c.args.self.now c.type_at.ensures.formed c.args.id.0 c.args.index c.type_at.result c.in-Int.is c.type_at.ensures.is

pub returns-in-Struct : goal.returns-in-Struct
returns-in-Struct c =
    c.from.ensures ∙ c.field_offset.ensures ∙ field_before c.args.self.now c.in-Struct.ensures.formed c.args.id.0 c.args.index c.in-Struct.struct_id c.in-Struct.ensures.is

pub returns-in-Array : goal.returns-in-Array
returns-in-Array c =
    element_before c.args.self.now c.in-Array.ensures.formed c.args.id.0 c.args.index c.in-Array.length c.in-Array.element c.min-before.result c.from-in-Array-2.result c.in-Array.ensures.is
    (c.min-before.ensures ∙ ap (λ i. min i c.in-Array.length) c.from-in-Array.ensures) (c.from-in-Array-2.ensures ∙ c.unwrap_or.ensures ∙ ap (λ o. unwrap_or o 0) c.words_at.ensures)

pub returns-in-Pointer : goal.returns-in-Pointer
returns-in-Pointer c = leading_before c.args.self.now c.type_at.ensures.formed c.args.id.0 c.args.index c.type_at.result c.in-Pointer.is c.type_at.ensures.is
