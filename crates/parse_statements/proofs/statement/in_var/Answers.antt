use Rattle.parse_statements.specs.BlocksInMemory.{blocks_of}
use Rattle.parse_simple_statements.specs.SpecStates.{specs_of}
use Rattle.parse_statements.proofs.Failures.{var_fails}
use Rattle.parse_statements.proofs.statement.in_var.Goals as goal

pub returns-in-Err : goal.returns-in-Err
returns-in-Err c = var_fails (blocks_of c.args.blocks) c.args.pos (specs_of c.args.specs) c.args.token c.in-Err.fault _ c.requires c.in-Err.ensures
