use Rattle.std.proofs.Common.{◌≡◌, ◌+◌, ◌≤◌, subst, arith}
use Rattle.typed.proofs.Rows.{expr_rows}
use Rattle.typed_syntax.specs.Syntax.{Pl, indirect, slice_element}
use Rattle.typed.specs.Positions.{position}
use Rattle.typed.specs.View.{ex_of, place_of, steps_of}
use Rattle.program_code.specs.Code.{place_above}
use Rattle.expression_code.proofs.Steps.{above_least}
use Rattle.expression_code.proofs.reaching.indices_from.Goals as goal

pub overflow_add-result : goal.overflow_add-result
overflow_add-result c =
    let steps = steps_of c.in-Indirect.field-3.items in
    let shape : place_of c.args.place.now ≡ indirect (position c.in-Indirect.field-0) (ex_of c.in-Indirect.field-1.value) c.in-Indirect.field-2.0 steps = grind (arith, expr_rows) in
    let room = subst (λ (q : Pl). place_above q c.args.first ≤ 65535) shape c.requires in
    let least = above_least (c.args.first + 1) steps in omega (arith, room, least)

pub overflow_add-result-in-SliceElement : goal.overflow_add-result-in-SliceElement
overflow_add-result-in-SliceElement c =
    let v = c.in-SliceElement in let steps = steps_of v.field-4.items in
    let shape : place_of c.args.place.now ≡ slice_element (position v.field-0) (ex_of v.field-1.value) (ex_of v.field-2.value) v.field-3.0 steps = grind (arith, expr_rows) in
    let room = subst (λ (q : Pl). place_above q c.args.first ≤ 65535) shape c.requires in
    let least = above_least (c.args.first + 4) steps in omega (arith, room, least)
