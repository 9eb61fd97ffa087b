use Rattle.std.proofs.Common.{sym, ◌∙◌}
use Rattle.param_tags.proofs.Steps.{path_set, path_kept}
use Rattle.param_tags.proofs.paths.add_path.Goals as goal

pub returns-in_ok-paths-clause-paths : goal.returns-in_ok-paths-clause-paths
returns-in_ok-paths-clause-paths c = λ edges walked least. path_set edges c.args.placed.now c.args.hold.now c.in_ok-paths.field-0 c.args.paths.now c.requires (sym c.is_reason.ensures ∙ c.if-is_reason.true) (c.in_ok-paths.ensures edges walked least)

pub returns-else-is_reason-clause-paths : goal.returns-else-is_reason-clause-paths
returns-else-is_reason-clause-paths c = λ edges walked least. path_kept edges c.args.placed.now c.args.hold.now c.args.paths.now (sym c.is_reason.ensures ∙ c.if-is_reason.false)
