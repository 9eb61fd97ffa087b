use Rattle.gostk.specs.Words.{texts_of}
use Rattle.gostk.proofs.Contract.{answers}
use Rattle.gostk.proofs.top.gostk.Goals as goal

pub returns : goal.returns
returns g c = answers (texts_of c.args.words.now) c.report.result _ _ _ c.carry_out-answer.result c.carry_out-answer.ensures.allowed c.report.ensures c.carry_out-answer.ensures.contents c.carry_out-answer.ensures.input
