use Rattle.std.proofs.Common.{◌∙◌, ap₂}
use Rattle.clap.specs.Words.{with_rule}
use Rattle.gostk.proofs.command.running_command.Goals as goal

pub returns-clause-app : goal.returns-clause-app
returns-clause-app c =
    c.in_ok-five.ensures.app ∙ ap₂ with_rule
    (c.in_ok-four.ensures.app ∙ ap₂ with_rule
    (c.in_ok-three.ensures.app ∙ ap₂ with_rule
    (c.in_ok-two.ensures.app ∙ ap₂ with_rule
    (c.in_ok-one.ensures.app ∙ ap₂ with_rule c.new_command.ensures.app c.number_option.ensures.rule)
    c.number_option-2.ensures.rule) c.number_option-3.ensures.rule) c.number_option-4.ensures.rule) c.file.ensures.rule

pub returns-clause-local : goal.returns-clause-local
returns-clause-local c =
    c.in_ok-five.ensures.local ∙ c.in_ok-four.ensures.local ∙ c.in_ok-three.ensures.local ∙ c.in_ok-two.ensures.local
    ∙ c.in_ok-one.ensures.local ∙ c.new_command.ensures.local
