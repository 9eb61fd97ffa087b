use Rattle.std.proofs.lemmas.Bool.Decides.{Decides-eqb}
use Rattle.std.proofs.lemmas.Slice.Eq.{strip_prefix_is}
use Rattle.report_checks.proofs.Cutting.{answered}
use Rattle.report_checks.proofs.cuts.after.Goals as goal

pub returns : goal.returns
returns c = answered c.args.beginning.now c.args.text.now c.strip_prefix.result (strip_prefix_is Decides-eqb c.args.text.now c.args.beginning.now c.strip_prefix.result c.strip_prefix.ensures.cases)
