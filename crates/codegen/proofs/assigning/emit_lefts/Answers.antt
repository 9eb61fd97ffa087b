use Rattle.std.proofs.Common.{◌≡◌, ◌+◌, drop, map, ap, subst, sym, arith}
use Rattle.std.specs.Prelude.{slice_index}
use Rattle.typed_syntax.specs.Syntax.{value_widths}
use Rattle.typed.specs.View.{exs_of_values, left_of, program_of}
use Rattle.expression_code.specs.Frame.{slots_in}
use Rattle.codegen.specs.Temps.{LeftsFitIn}
use Rattle.codegen.proofs.Above.{above_next, above_one}
use Rattle.codegen.proofs.Emitted.{left_emitted, lefts_split}
use Rattle.codegen.proofs.assigning.emit_lefts.Goals as goal

pub emit_left-requires-clause-temp : goal.emit_left-requires-clause-temp
emit_left-requires-clause-temp c =
    let ns = value_widths (program_of c.args.program.now) (exs_of_values c.args.values.now) in
    let fit = lefts_split (slots_in c.args.program.now c.args.frame.now) c.args.frame.now.sites c.args.at c.loop-i.next ns c.args.ls.now c.loop-i.i c.index-ls-i.result c.loop-i-test.true c.index-ls-i.is c.loop-i.invariant.1 in
    let room = fit.0 in omega (arith, room)

pub emit_left-requires-clause-operands : goal.emit_left-requires-clause-operands
emit_left-requires-clause-operands c =
    let one = above_one c.args.ls.now c.loop-i.i c.index-ls-i.result c.loop-i.operands c.loop-i-test.true c.index-ls-i.is in let room = c.loop-i.invariant.2 in omega (arith, one, room)

pub above_left-operands-requires : goal.above_left-operands-requires
above_left-operands-requires c =
    let one = above_one c.args.ls.now c.loop-i.i c.index-ls-i.result c.loop-i.operands c.loop-i-test.true c.index-ls-i.is in
    let room = c.loop-i.invariant.2 in let small = c.requires.frame in omega (arith, one, room, small)

pub overflow_cast-next : goal.overflow_cast-next
overflow_cast-next c =
    let ns = value_widths (program_of c.args.program.now) (exs_of_values c.args.values.now) in
    let fit = lefts_split (slots_in c.args.program.now c.args.frame.now) c.args.frame.now.sites c.args.at c.loop-i.next ns c.args.ls.now c.loop-i.i c.index-ls-i.result c.loop-i-test.true c.index-ls-i.is c.loop-i.invariant.1 in
    let room = fit.0 in let wide = c.in_ok-next.ensures in omega (arith, room, wide)

pub loop-i-preserved : goal.loop-i-preserved
loop-i-preserved c =
    let slots = slots_in c.args.program.now c.args.frame.now in let ns = value_widths (program_of c.args.program.now) (exs_of_values c.args.values.now) in
    let ls = c.args.ls.now in let i = c.loop-i.i in let at = c.args.at in let x = c.index-ls-i.result in let l = c.loop-i-test.true in let is = c.index-ls-i.is in
    let after : c.loop-i.next + c.in_ok-next.field-0 ≡ c.loop-i.next + slice_index ns i = ap (λ n. c.loop-i.next + n) c.in_ok-next.ensures in
    let above = c.above_left-operands.ensures in
    let fit = lefts_split slots c.args.frame.now.sites at c.loop-i.next ns ls i x l is c.loop-i.invariant.1 in (
      left_emitted slots _ _ _ ns ls i x c.loop-i.operands _ at c.loop-i.next _ l is after above c.loop-i.invariant.0 c.in_ok-emit_left.ensures,
      subst (λ k. LeftsFitIn slots c.args.frame.now.sites at k (drop (i + 1) ns) (map left_of (drop (i + 1) ls))) (sym after) fit.2,
      (let e = above_next ls i x c.loop-i.operands _ l is above in let room = c.loop-i.invariant.2 in omega (arith, e, room)),
    )
