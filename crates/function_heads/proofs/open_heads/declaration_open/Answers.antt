use Rattle.function_heads.proofs.open_heads.declaration_open.Goals as goal

pub returns-in-Func : goal.returns-in-Func
returns-in-Func c = rw (c.in-Func.is) c.function_open.ensures
