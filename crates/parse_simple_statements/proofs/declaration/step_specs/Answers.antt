use Rattle.parse_simple_statements.specs.Spots.{declares_of}
use Rattle.parse_simple_statements.proofs.declaration.step_specs.Goals as goal

pub returns-in-First : goal.returns-in-First
returns-in-First c = rw c.in-First.is (c.first.ensures (declares_of c.args.kind))

pub returns-in-Spec : goal.returns-in-Spec
returns-in-Spec c = rw c.in-Spec.is (c.spec.ensures (declares_of c.args.kind))

pub returns-in-NextName : goal.returns-in-NextName
returns-in-NextName c = rw c.in-NextName.is (c.next_name.ensures (declares_of c.args.kind))
