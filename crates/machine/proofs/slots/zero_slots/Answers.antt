use Rattle.std.proofs.Common.{◌≡◌, ◌+◌, ◌-◌, ◌++◌, drop, take, replicate, arith, ap, ◌∙◌}
use Rattle.machine.proofs.Words.{cleared}
use Rattle.machine.proofs.slots.zero_slots.Goals as goal

pub returns-clause-words : goal.returns-clause-words
returns-clause-words c =
    let count : c.args.base + c.args.from + c.args.count - (c.args.base + c.args.from) ≡ c.args.count = omega arith in
    ap (λ l. drop c.args.base l) (c.zero.ensures.is ∙ ap (λ n. take (c.args.base + c.args.from) c.args.words.now.items ++ replicate n 0 ++ drop (c.args.base + c.args.from + c.args.count) c.args.words.now.items) count)
    ∙ cleared c.args.words.now.items c.args.base c.args.from c.args.count (omega arith)
