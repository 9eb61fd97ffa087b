use Rattle.gostk.proofs.reporting.put_answer.Goals as goal

pub returns-in-Refused-clause-part : goal.returns-in-Refused-clause-part
returns-in-Refused-clause-part g c = let h = c.put_refusal.ensures.part in rw c.in-Refused.is h

pub returns-in-ReadFault-clause-whole : goal.returns-in-ReadFault-clause-whole
returns-in-ReadFault-clause-whole g c = rw c.in-ReadFault.is c.put_text-in-ReadFault.ensures.whole

pub returns-in-NoMemory-clause-whole : goal.returns-in-NoMemory-clause-whole
returns-in-NoMemory-clause-whole g c = rw c.in-NoMemory.is c.put_text-in-NoMemory.ensures.whole

pub returns-in-StackLimit-clause-whole : goal.returns-in-StackLimit-clause-whole
returns-in-StackLimit-clause-whole g c = rw c.in-StackLimit.is c.put_limit.ensures.whole

pub returns-in-HeapLimit-clause-whole : goal.returns-in-HeapLimit-clause-whole
returns-in-HeapLimit-clause-whole g c = rw c.in-HeapLimit.is c.put_limit-in-HeapLimit.ensures.whole
