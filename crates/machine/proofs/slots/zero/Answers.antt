use Rattle.std.proofs.Common.{◌-◌, ◌++◌, take, drop, replicate, ap, ◌∙◌}
use Rattle.std.proofs.lemmas.List.{with_items_is}
use Rattle.machine.proofs.slots.zero.Goals as goal

pub returns-clause-is : goal.returns-clause-is
returns-clause-is c =
    with_items_is c.args.words.now c.zero_words.new.words (c.zero_words.ensures.length ∙ c.as_mut_slice.ensures.len) ∙ c.zero_words.ensures.is
    ∙ ap (λ l. take c.args.from l ++ replicate (c.args.to - c.args.from) 0 ++ drop c.args.to l) c.as_mut_slice.ensures.value
