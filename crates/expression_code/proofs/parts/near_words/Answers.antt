use Rattle.std.proofs.Common.{◌∙◌, arith}
use Rattle.typed.specs.View.{place_of}
use Rattle.expression_code.proofs.Reached.{near_small, words_near}
use Rattle.expression_code.proofs.parts.near_words.Goals as goal

pub overflow_cast-result : goal.overflow_cast-result
overflow_cast-result c =
    let q = place_of c.args.place.now in
    let small = near_small c.args.program.now c.args.frame.now q c.requires.frame c.requires.place in
    let is = c.place_words.ensures ∙ words_near c.args.program.now c.args.frame.now q in omega (arith, small, is)

pub returns : goal.returns
returns c = c.place_words.ensures ∙ words_near c.args.program.now c.args.frame.now (place_of c.args.place.now)
