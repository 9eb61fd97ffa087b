use Rattle.std.proofs.Common.{◌≡◌, ◌+◌, ◌≤◌, subst, arith}
use Rattle.typed.proofs.Rows.{expr_rows}
use Rattle.typed_syntax.specs.Syntax.{Pl, slice_element}
use Rattle.typed.specs.Positions.{position}
use Rattle.typed.specs.View.{ex_of, place_of, program_of, steps_of}
use Rattle.program_code.specs.Code.{place_above}
use Rattle.program_code.proofs.Rooms.{place_from}
use Rattle.expression_code.proofs.Steps.{above_least}
use Rattle.expression_code.proofs.reaching.emit_root.Goals as goal

pub temp-b-requires : goal.temp-b-requires
temp-b-requires c = let least = place_from (program_of c.args.program.now) c.args.first (place_of c.args.place.now) in omega (arith, least, c.requires.operands, c.requires.frame.0)

pub temp-b-requires-in-SliceElement : goal.temp-b-requires-in-SliceElement
temp-b-requires-in-SliceElement c = let least = place_from (program_of c.args.program.now) c.args.first (place_of c.args.place.now) in omega (arith, least, c.requires.operands, c.requires.frame.0)

-- the header of a slice has three words
pub overflow_add-first : goal.overflow_add-first
overflow_add-first c =
    let v = c.in-SliceElement in let steps = steps_of v.field-4.items in
    let shape : place_of c.args.place.now ≡ slice_element (position v.field-0) (ex_of v.field-1.value) (ex_of v.field-2.value) v.id.0 steps = grind (arith, expr_rows) in
    let room = subst (λ (q : Pl). place_above q c.args.first ≤ c.args.frame.now.temps) shape c.requires.operands in
    let least = above_least (c.args.first + 4) steps in omega (arith, room, least, c.requires.frame.0)

pub temp-c-requires : goal.temp-c-requires
temp-c-requires c =
    let v = c.in-SliceElement in let steps = steps_of v.field-4.items in
    let shape : place_of c.args.place.now ≡ slice_element (position v.field-0) (ex_of v.field-1.value) (ex_of v.field-2.value) v.id.0 steps = grind (arith, expr_rows) in
    let room = subst (λ (q : Pl). place_above q c.args.first ≤ c.args.frame.now.temps) shape c.requires.operands in
    let least = above_least (c.args.first + 4) steps in omega (arith, room, least, c.requires.frame.0)
