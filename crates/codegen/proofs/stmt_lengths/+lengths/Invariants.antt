use Rattle.std.proofs.Common.{◌≡◌, ◌+◌, drop}
use Rattle.typed_syntax.specs.Syntax.{argument_words}
use Rattle.typed.specs.View.{program_of, sts_of}
use Rattle.program_code.specs.Code.{sts_size}
use Rattle.expression_code.specs.Frame.{func_in}
use Rattle.codegen.proofs.stmt_lengths.+lengths.Given as goal

abbrev pub invariant-stmts_len-loop-s : goal.invariant-stmts_len-loop-s
invariant-stmts_len-loop-s l =
    l.total + sts_size (program_of l.program) (argument_words (func_in l.program l.func)) (func_in l.program l.func).named (sts_of (drop l.s-index l.ss))
    ≡ sts_size (program_of l.program) (argument_words (func_in l.program l.func)) (func_in l.program l.func).named (sts_of l.ss)
