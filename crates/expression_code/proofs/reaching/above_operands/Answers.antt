use Rattle.std.proofs.Common.{◌≡◌, ◌+◌, ◌≤◌, subst, arith}
use Rattle.typed.proofs.Rows.{expr_rows}
use Rattle.typed_syntax.specs.Syntax.{Pl, indirect, slice_element}
use Rattle.typed.specs.Positions.{position}
use Rattle.typed.specs.View.{ex_of, place_of, steps_of}
use Rattle.program_code.specs.Code.{place_above}
use Rattle.expression_code.proofs.Steps.{above_least}
use Rattle.expression_code.proofs.reaching.above_operands.Goals as goal

pub overflow_add-h : goal.overflow_add-h
overflow_add-h c =
    let steps = steps_of c.in-Indirect.steps.items in
    let shape : place_of c.args.place.now ≡ indirect (position c.in-Indirect.field-0) (ex_of c.in-Indirect.field-1.value) c.in-Indirect.field-2.0 steps = grind (arith, expr_rows) in
    let room = subst (λ (q : Pl). place_above q c.args.h ≤ 65535) shape c.requires in
    let least = above_least (c.args.h + 1) steps in omega (arith, room, least)

pub overflow_add-h-in-SliceElement : goal.overflow_add-h-in-SliceElement
overflow_add-h-in-SliceElement c =
    let v = c.in-SliceElement in let steps = steps_of v.steps.items in
    let shape : place_of c.args.place.now ≡ slice_element (position v.field-0) (ex_of v.field-1.value) (ex_of v.field-2.value) v.field-3.0 steps = grind (arith, expr_rows) in
    let room = subst (λ (q : Pl). place_above q c.args.h ≤ 65535) shape c.requires in
    let least = above_least (c.args.h + 4) steps in omega (arith, room, least)
