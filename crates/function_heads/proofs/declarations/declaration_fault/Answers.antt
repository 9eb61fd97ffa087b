use Rattle.function_heads.proofs.declarations.declaration_fault.Goals as goal

pub returns-in-Func : goal.returns-in-Func
returns-in-Func c = rw (c.in-Func.is) c.function_fault.ensures
