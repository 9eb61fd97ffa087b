use Rattle.std.proofs.Common.{◌≡◌, ◌∷◌, [], arith}
use Rattle.typed.specs.View.{left_of, program_of}
use Rattle.program_code.specs.Code.{lefts_sized}
use Rattle.codegen.proofs.Sized.{sized_next}
use Rattle.codegen.proofs.stmt_lengths.ready_len.Goals as goal

pub loop-left-preserved : goal.loop-left-preserved
loop-left-preserved c =
    let p = program_of c.args.program.now in
    let one = sized_next p c.args.ls.now c.loop-left.left-index c.left-item.result c.loop-left-test.true c.left-item.is in
    let own : c.in_ok-n.n ≡ lefts_sized p (left_of c.left-item.result ∷ []) 0 = c.in_ok-n.ensures in
    let inv = c.loop-left.invariant in let sum = c.in_ok-total.ensures in
    omega (arith, one, own, inv, sum)
