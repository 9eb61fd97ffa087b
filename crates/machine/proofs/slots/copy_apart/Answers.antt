use Rattle.std.proofs.Common.{ap, ◌∙◌, arith, drop}
use Rattle.machine.proofs.Words.{copied}
use Rattle.machine.proofs.slots.copy_apart.Goals as goal

pub returns-clause-words : goal.returns-clause-words
returns-clause-words c = ap (λ l. drop c.args.base l) c.copy_block.ensures.is ∙ copied c.args.words.now.items c.args.base c.args.from c.args.to c.args.count (omega arith)
