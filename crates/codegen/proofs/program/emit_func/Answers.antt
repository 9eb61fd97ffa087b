use Rattle.std.proofs.Common.{rules, ◌≡◌, ◌++◌, length}
use Rattle.typed_syntax.specs.Syntax.{argument_words, each_width}
use Rattle.typed.specs.View.{program_of}
use Rattle.placement.specs.Told.{placement_of}
use Rattle.program_code.specs.Code.{params_code, zeros_code, sts_code, leave_code}
use Rattle.expression_code.specs.Frame.{func_in, slots_in}
use Rattle.codegen.proofs.Whole.{func_emitted}
use Rattle.codegen.proofs.program.emit_func.Goals as goal

pub returns : goal.returns
returns c =
    let p = program_of c.args.program.now in let f = func_in c.args.program.now c.args.func.now in let slots = slots_in c.args.program.now c.args.frame.now in
    let e1 : c.emit_params.new.code.items ≡ c.args.code.now.items ++ params_code slots (each_width f.param_types) f.params 0 = search rules in
    let e2 : c.emit_zeros.new.code.items ≡ c.emit_params.new.code.items ++ zeros_code slots f.named = search rules in
    let e3 : c.emit_stmts.new.code.items ≡ c.emit_zeros.new.code.items ++ sts_code p (argument_words f) f.named slots f.body 0 0 0 (length c.emit_zeros.new.code.items) = search rules in
    let e4 : c.emit_leave.new.code.items ≡ c.emit_stmts.new.code.items ++ leave_code slots (argument_words f) f.named = search rules in
    func_emitted p (placement_of c.args.frame.now.homes.placement) f slots c.args.code.now.items _ _ _ _ c.requires.slots e1 e2 e3 e4
