use Rattle.std.proofs.Common.{◌-◌, drop, arith}
use Rattle.struct_sizes.specs.Words.{base_words}
use Rattle.struct_sizes.proofs.Steps.{at_level, next_agrees}
use Rattle.struct_sizes.proofs.words.words_by.Goals as goal

pub loop-level-preserved : goal.loop-level-preserved
loop-level-preserved c =
    let ps = c.args.t.now.prefixes.items in
    let level = c.loop-level.level in
    let p = c.index.result.now in
    let base = base_words c.args.table.now c.args.t.now.base in
    let here = at_level ps level p (omega arith) (omega arith) c.index.ensures in
    (omega arith, next_agrees (drop (level - 1) ps) (drop level ps) p here base c.loop-level.words c.prefix_words-words.result c.prefix_words-words.ensures c.loop-level.invariant.1)
