use Rattle.codegen.proofs.Whole.{solid_types}
use Rattle.codegen.proofs.program.tell_solid.Goals as goal

pub returns : goal.returns
returns c = solid_types c.args.program.now.types c.type_at.ensures.formed
