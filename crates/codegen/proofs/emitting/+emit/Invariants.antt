use Rattle.std.proofs.Common.{◌≡◌, ◌++◌, length, drop}
use Rattle.typed_syntax.specs.Syntax.{argument_words, result_words}
use Rattle.typed.specs.View.{program_of, sts_of}
use Rattle.codegen.specs.Temps.{StsFitIn}
use Rattle.program_code.specs.Code.{sts_code}
use Rattle.expression_code.specs.Frame.{func_in, slots_in}
use Rattle.codegen.proofs.emitting.+emit.Given as goal

abbrev pub invariant-emit_stmts-loop-s : goal.invariant-emit_stmts-loop-s
invariant-emit_stmts-loop-s l =
    (l.fn.code.items ++ sts_code (program_of l.program) (argument_words (func_in l.program l.func)) (func_in l.program l.func).named (slots_in l.program l.frame) (sts_of l.ss) l.h l.goals.out l.goals.again (length l.fn.code.items)
    ≡ l.code.items ++ sts_code (program_of l.program) (argument_words (func_in l.program l.func)) (func_in l.program l.func).named (slots_in l.program l.frame) (sts_of (drop l.s-index l.ss)) l.h l.goals.out l.goals.again (length l.code.items))
    × StsFitIn (program_of l.program) (slots_in l.program l.frame) l.frame.sites (result_words (func_in l.program l.func)) (func_in l.program l.func).named l.h (sts_of (drop l.s-index l.ss))
