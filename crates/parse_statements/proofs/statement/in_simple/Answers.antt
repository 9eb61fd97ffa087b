use Rattle.std.proofs.Common.{◌≡◌}
use Rattle.syntax.specs.Statements.{targets_of}
use Rattle.parse_simple_statements.specs.Simples as simples
use Rattle.parse_statements.specs.BlocksInMemory.{blocks_at, spot_at}
use Rattle.parse_simple_statements.specs.SimpleStates.{simples_of, context_at}
use Rattle.parse_statements.proofs.Failures.{simple_statement_fails}
use Rattle.parse_statements.proofs.Ranges.{range_steps}
use Rattle.parse_statements.proofs.statement.in_simple.Goals as goal

pub returns-in-Err : goal.returns-in-Err
returns-in-Err c = simple_statement_fails (blocks_at c.args.spot) (spot_at c.args.spot) (simples_of c.args.simples) c.args.token c.in-Err.fault _ c.requires c.in-Err.ensures

pub returns-in-Ok-Ranges : goal.returns-in-Ok-Ranges
returns-in-Ok-Ranges c =
    let q = simples_of c.args.simples in
    let found = rw c.in-Ok-Ranges.field-0-is at c.in-Ok-Ranges.ensures in
    let is : simples.step (context_at c.args.simples) q c.args.token ≡ simples.ranges (targets_of c.in-Ok-Ranges.targets) c.in-Ok-Ranges.range_pos = found.0 in
    range_steps (blocks_at c.args.spot) (spot_at c.args.spot) q c.args.token (targets_of c.in-Ok-Ranges.targets) c.in-Ok-Ranges.range_pos c.ranges-in-Ok-Ranges.result _ c.requires is c.ranges-in-Ok-Ranges.ensures
