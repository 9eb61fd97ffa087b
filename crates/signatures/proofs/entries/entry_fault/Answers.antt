use Rattle.signatures.proofs.entries.entry_fault.Goals as goal

pub returns-in-Some : goal.returns-in-Some
returns-in-Some c = rw (c.in-Some.is) c.named_fault.ensures
