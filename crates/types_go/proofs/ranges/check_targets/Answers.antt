use Rattle.std.proofs.Common.{sym}
use Rattle.types_go.proofs.ranges.check_targets.Goals as goal

pub returns-in-Assign-clause-fault : goal.returns-in-Assign-clause-fault
returns-in-Assign-clause-fault c = rw (c.in-Assign.is, sym c.deref.ensures.value) c.check_assigned.ensures.fault

pub returns-in-Define-clause-fault : goal.returns-in-Define-clause-fault
returns-in-Define-clause-fault c = rw (c.in-Define.is, sym c.deref-in-Define.ensures.value) c.check_defined.ensures.fault
