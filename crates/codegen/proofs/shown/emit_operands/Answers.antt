use Rattle.typed.specs.View.{program_of}
use Rattle.expression_code.specs.Frame.{slots_in}
use Rattle.codegen.proofs.Emitted.{operand_emitted, operand_fits, others_fit}
use Rattle.codegen.proofs.shown.emit_operands.Goals as goal

pub emit_operand-requires-clause-fits : goal.emit_operand-requires-clause-fits
emit_operand-requires-clause-fits c =
    operand_fits (program_of c.args.program.now) (slots_in c.args.program.now c.args.frame.now) c.args.frame.now.sites c.args.ps.now c.loop-p.p-index c.p-item.result c.loop-p.next c.loop-p-test.true c.p-item.is c.loop-p.invariant.1

pub loop-p-preserved : goal.loop-p-preserved
loop-p-preserved c =
    let p = program_of c.args.program.now in let slots = slots_in c.args.program.now c.args.frame.now in let ps = c.args.ps.now in let i = c.loop-p.p-index in let x = c.p-item.result in (
      operand_emitted p slots _ _ _ ps i x c.loop-p.next _ c.loop-p-test.true c.p-item.is c.in_ok-next.ensures.next c.loop-p.invariant.0 c.in_ok-next.ensures.code,
      others_fit p slots c.args.frame.now.sites ps i x c.loop-p.next _ c.loop-p-test.true c.p-item.is c.in_ok-next.ensures.next c.loop-p.invariant.1,
    )
