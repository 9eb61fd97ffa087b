use Rattle.std.proofs.Common.{◌≡◌, ◌+◌, ◌∷◌, [], ◌∙◌, ap, sym, arith}
use Rattle.typed_syntax.specs.Types.{width}
use Rattle.typed_syntax.specs.Syntax.{type_named}
use Rattle.typed.specs.View.{left_of, program_of}
use Rattle.program_code.specs.Code.{lefts_above, sliced_element_code}
use Rattle.expression_code.specs.Frame.{slots_in}
use Rattle.codegen.proofs.Above.{above_two}
use Rattle.codegen.proofs.Pairs.{pair_emitted}
use Rattle.codegen.proofs.slices.emit_sliced_pair.Goals as goal

pub overflow_add-first : goal.overflow_add-first
overflow_add-first c =
    let two = above_two (left_of c.args.key.now) (left_of c.args.value.now) (c.args.h + 4) in
    let a = two.1 in let b = two.2 in let room = c.requires.room in let small = c.requires.frame in omega (arith, a, b, room, small)

pub above_left-second-requires : goal.above_left-second-requires
above_left-second-requires c =
    let two = above_two (left_of c.args.key.now) (left_of c.args.value.now) (c.args.h + 4) in
    let b = two.2 in let room = c.requires.room in let small = c.requires.frame in omega (arith, b, room, small)

pub emit_element-requires-clause-temps : goal.emit_element-requires-clause-temps
emit_element-requires-clause-temps c =
    let key = left_of c.args.key.now in let value = left_of c.args.value.now in
    let two = above_two key value (c.args.h + 4) in let a = two.1 in let b = two.2 in let room = c.requires.room in
    let v : c.above_left-v.result ≡ lefts_above (key ∷ value ∷ []) (c.args.h + 4) = c.above_left-v.ensures ∙ ap (lefts_above (value ∷ [])) c.above_left-second.ensures ∙ sym two.0 in
    (omega (arith, a, b, room), omega (arith, v, room))

pub emit_left-requires-clause-operands : goal.emit_left-requires-clause-operands
emit_left-requires-clause-operands c =
    let two = above_two (left_of c.args.key.now) (left_of c.args.value.now) (c.args.h + 4) in
    let b = two.2 in let room = c.requires.room in omega (arith, b, room)

pub returns : goal.returns
returns c =
    let p = program_of c.args.program.now in let slots = slots_in c.args.program.now c.args.frame.now in let w = width (type_named p c.args.type_id.0) in
    pair_emitted p slots (sliced_element_code slots w c.args.h) w (c.args.h + 4) (left_of c.args.key.now) (left_of c.args.value.now) c.args.code.now.items _ _ _ _ _ _ _ _
    c.above_left-second.ensures c.above_left-v.ensures (ap (λ n. c.above_left-v.result + 1 + n) c.type_words.ensures.is) c.in_ok-ready_left.ensures c.in_ok-ready_left-2.ensures c.in_ok-emit_element.ensures c.in_ok-emit_left.ensures c.in_ok-emit_left-2.ensures
