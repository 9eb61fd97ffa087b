use Rattle.std.proofs.Common.{◌≡◌, ◌+◌, IfOk, subst, arith}
use Rattle.typed.specs.View.{place_of, program_of}
use Rattle.program_code.specs.Code.{address_size, place_size}
use Rattle.program_code.proofs.Sizes.{place_sum}
use Rattle.codegen.proofs.stmt_lengths.reached_len.Goals as goal

pub returns : goal.returns
returns c =
    let p = program_of c.args.program.now in let q = place_of c.args.place.now in
    let operands : c.in_ok-operands.operands ≡ place_size p q 0 = c.in_ok-operands.ensures in
    let address : c.in_ok-address.address ≡ address_size q = c.in_ok-address.ensures in
    let both : c.in_ok-reached.reached ≡ c.in_ok-operands.operands + c.in_ok-address.address = c.in_ok-reached.ensures in
    let whole : place_size p q (address_size q + c.args.more) ≡ place_size p q 0 + (address_size q + c.args.more) = place_sum p q (address_size q + c.args.more) in
    subst (λ k. IfOk c.plus-2.result (λ n. n ≡ k)) (omega (arith, operands, address, both, whole)) c.plus-2.ensures
