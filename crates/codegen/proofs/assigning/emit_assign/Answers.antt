use Rattle.std.proofs.Common.{◌≡◌, ◌+◌, ap, map}
use Rattle.typed_syntax.specs.Syntax.{all_wide}
use Rattle.typed.specs.View.{exs_of_values, left_of, program_of}
use Rattle.expression_code.specs.Frame.{slots_in}
use Rattle.codegen.proofs.Emitted.{assign_emitted}
use Rattle.codegen.proofs.assigning.emit_assign.Goals as goal

pub returns : goal.returns
returns c =
    let p = program_of c.args.program.now in let s = slots_in c.args.program.now c.args.frame.now in let ls = map left_of c.args.ls.now in let es = exs_of_values c.args.values.now in
    let first = c.above_lefts-first.result in
    let behind : first + c.in_ok-behind.field-0 ≡ first + all_wide p es = ap (λ n. first + n) c.in_ok-behind.ensures in
    assign_emitted p s c.args.code.now.items c.ready_lefts.new.code.items c.emit_values.new.code.items c.emit_lefts.new.code.items ls es c.args.h first (first + c.in_ok-behind.field-0) c.above_lefts-first.ensures behind c.in_ok-ready_lefts.ensures c.in_ok-emit_values.ensures c.in_ok-emit_lefts.ensures
