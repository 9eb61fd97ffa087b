use Rattle.std.proofs.Common.{ap}
use Rattle.clap.specs.Simple.{app_of_fields}
use Rattle.gostk.proofs.command.wanting_command.Goals as goal

pub returns : goal.returns
returns c = ap app_of_fields c.subcommand_required.ensures
