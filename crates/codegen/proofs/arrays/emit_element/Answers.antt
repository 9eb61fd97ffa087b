use Rattle.std.proofs.Common.{arith}
use Rattle.codegen.proofs.arrays.emit_element.Goals as goal

pub overflow_cast-len : goal.overflow_cast-len
overflow_cast-len c = let own = c.requires.frame.1.words c.args.site.0 in let few = c.requires.count in omega (arith, own, few)
