use Rattle.typed.specs.View.{ex_of, place_of, program_of}
use Rattle.expression_code.specs.Frame.{slots_in}
use Rattle.codegen.proofs.Emitted.{update_emitted}
use Rattle.codegen.proofs.assigning.emit_update.Goals as goal

pub returns : goal.returns
returns c =
    update_emitted (program_of c.args.program.now) (slots_in c.args.program.now c.args.frame.now) c.args.code.now.items _ _ _ (place_of c.args.place.now) c.args.h _ _ c.above_operands-at.ensures c.above_address-value.ensures
    c.in_ok-emit_place.ensures c.in_ok-emit_address.ensures c.in_ok-emit_fetch.ensures _ _ _ c.args.op (ex_of c.args.e.now) c.in_ok-emit_expr.ensures c.in_ok-emit_operation.ensures c.in_ok-emit_land.ensures
