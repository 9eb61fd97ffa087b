use Rattle.std.proofs.Common.{sym}
use Rattle.types_go.proofs.ranges.given_faults.Goals as goal

pub returns-in-Some : goal.returns-in-Some
returns-in-Some c = rw (c.in-Some.is, sym c.deref.ensures.value) c.each_fault.ensures
