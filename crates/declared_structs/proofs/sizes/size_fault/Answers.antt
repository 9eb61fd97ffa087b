use Rattle.declared_structs.proofs.sizes.size_fault.Goals as goal

pub returns-in-Some : goal.returns-in-Some
returns-in-Some c = rw (c.in-Some.is) c.refusal_fault.ensures
