use Rattle.std.proofs.Common.{sym}
use Rattle.simple_statements.proofs.statements.check_simple.Goals as goal

pub returns-in-Express-clause-fault : goal.returns-in-Express-clause-fault
returns-in-Express-clause-fault c = rw (c.in-Express.is) c.check_express.ensures.fault

pub returns-in-Assign-clause-fault : goal.returns-in-Assign-clause-fault
returns-in-Assign-clause-fault c = rw (c.in-Assign.is, sym c.deref.ensures.value, sym c.deref-in-Assign.ensures.value) c.check_assign.ensures.fault

pub returns-in-Update-clause-fault : goal.returns-in-Update-clause-fault
returns-in-Update-clause-fault c = rw (c.in-Update.is, sym c.deref-in-Update.ensures.value, sym c.deref-in-Update-2.ensures.value) c.check_update.ensures.fault

pub returns-in-Define-clause-fault : goal.returns-in-Define-clause-fault
returns-in-Define-clause-fault c = rw (c.in-Define.is, sym c.deref-in-Define.ensures.value, sym c.deref-in-Define-2.ensures.value) c.check_define.ensures.fault

pub returns-in-Increment-clause-fault : goal.returns-in-Increment-clause-fault
returns-in-Increment-clause-fault c = rw (c.in-Increment.is) c.check_step.ensures.fault

pub returns-in-Decrement-clause-fault : goal.returns-in-Decrement-clause-fault
returns-in-Decrement-clause-fault c = rw (c.in-Decrement.is) c.check_step-in-Decrement.ensures.fault

pub returns-in-Define-clause-statement : goal.returns-in-Define-clause-statement
returns-in-Define-clause-statement c = rw (c.in-Define.is, sym c.deref-in-Define.ensures.value, sym c.deref-in-Define-2.ensures.value) c.check_define.ensures.statement
