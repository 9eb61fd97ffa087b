use Rattle.parse_simple_statements.proofs.NamesIn.{found_first, found_more, found_none, found_all}
use Rattle.parse_simple_statements.proofs.simple.names_in.Goals as goal

pub loop-value-init : goal.loop-value-init
loop-value-init c = rw c.new-names.ensures.items (found_first c.args.values.now)

pub loop-value-preserved : goal.loop-value-preserved
loop-value-preserved c = rw c.in_ok-push-in-Name.ensures.items (found_more c.args.values.now c.loop-value.value-index c.value-item.result c.in-Name.name c.loop-value.names.items c.loop-value-test.true c.value-item.is c.in-Name.is c.loop-value.invariant)

pub returns-in_default : goal.returns-in_default
returns-in_default c = found_none c.args.values.now c.loop-value.value-index c.value-item.result c.loop-value.names.items c.loop-value-test.true c.value-item.is c.in_default.not-Name c.loop-value.invariant

pub returns : goal.returns
returns c = found_all c.args.values.now c.loop-value.value-index c.loop-value.names.items c.loop-value-test.false c.loop-value.invariant
