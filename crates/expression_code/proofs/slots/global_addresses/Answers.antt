use Rattle.std.proofs.Common.{arith}
use Rattle.expression_code.proofs.PackageVariables.{addresses_done}
use Rattle.expression_code.proofs.slots.global_addresses.Goals as goal

pub returns : goal.returns
returns c =
    addresses_done c.args.program.now c.as_slice-globals.result.now c.as_slice-globals.ensures.value c.loop-global.global-index (omega (arith, c.loop-global-test.false)) c.loop-global.all.items c.loop-global.next c.loop-global.invariant
