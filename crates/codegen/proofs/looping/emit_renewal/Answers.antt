use Rattle.expression_code.specs.Frame.{slots_in}
use Rattle.codegen.proofs.Emitted.{moves_room}
use Rattle.codegen.proofs.looping.emit_renewal.Goals as goal

pub fetch_variable-requires-clause-temp : goal.fetch_variable-requires-clause-temp
fetch_variable-requires-clause-temp c = moves_room (slots_in c.args.program.now c.args.frame.now) c.args.h c.args.sites.now c.loop-site.site-index c.loop-site-test.true c.loop-site.invariant.2
