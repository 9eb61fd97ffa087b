use Rattle.std.proofs.Common.{◌≡◌, ◌+◌, ◌∷◌, [], IfOk, subst, arith}
use Rattle.typed.specs.View.{left_of, program_of}
use Rattle.program_code.specs.Code.{index_round_size, lefts_size, lefts_sized}
use Rattle.codegen.proofs.Sized.{lefts_total}
use Rattle.codegen.proofs.stmt_lengths.key_len.Goals as goal

pub returns : goal.returns
returns c =
    let p = program_of c.args.program.now in let key = left_of c.args.key.now in
    let whole : index_round_size p key ≡ lefts_sized p (key ∷ []) 0 + lefts_size (key ∷ []) = lefts_total p (key ∷ []) (lefts_size (key ∷ [])) in
    let operands : c.in_ok-operands.operands ≡ lefts_sized p (key ∷ []) 0 = c.in_ok-operands.ensures in
    let written : c.in_ok-write.write ≡ lefts_size (key ∷ []) = c.in_ok-write.ensures in
    subst (λ k. IfOk c.plus.result (λ n. n ≡ k)) (omega (arith, operands, written, whole)) c.plus.ensures
