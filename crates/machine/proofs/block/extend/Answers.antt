use Rattle.std.proofs.Common.{◌≡◌, ◌-◌, ◌++◌, replicate, drop, ap, ◌∙◌}
use Rattle.std.proofs.lemmas.List.{take_rest}
use Rattle.machine.proofs.Words.{behind_zeros}
use Rattle.machine.proofs.block.extend.Goals as goal

pub returns-clause-words : goal.returns-clause-words
returns-clause-words c =
    let below = c.min-long.result - (c.len.result - c.args.base) in
    let wide : c.in_ok-wide.wide.items ≡ replicate below 0 ++ drop c.args.base c.args.block.now.items = c.in_ok-wide.ensures ∙ ap (λ l. replicate below 0 ++ l) (take_rest c.deref.result.now c.args.base ∙ ap (λ l. drop c.args.base l) c.deref.ensures.value) in
    ap (λ l. drop below l) wide ∙ behind_zeros below (drop c.args.base c.args.block.now.items)
