use Rattle.demo_gen.proofs.programs.put_function.Goals as goal

pub returns : goal.returns
returns c = rw c.kept_line-kept.ensures at c.write.ensures.bytes
