use Rattle.std.proofs.Common.{arith}
use Rattle.expression_code.proofs.slots.Frame.width_of.Goals as goal

pub overflow_cast-result : goal.overflow_cast-result
overflow_cast-result c = let small = c.requires.frame.1.words c.args.site.0 in omega (arith, small, c.site_words.ensures)
