use Rattle.std.proofs.Common.{◌∙◌, ap, ap₂}
use Rattle.clap.specs.Words.{App, with_subcommand}
use Rattle.gostk.specs.Command.{gostk_app, wanting}
use Rattle.gostk.proofs.command.command_line.Goals as goal

pub returns : goal.returns
unfolding gostk_app
returns c =
    let top = c.wanting_command-top.ensures ∙ ap wanting c.new_command.ensures.app in
    c.in_ok-all.ensures ∙ ap₂ with_subcommand top (ap (λ (a : App). a.top) c.in_ok-running_command.ensures.app)
