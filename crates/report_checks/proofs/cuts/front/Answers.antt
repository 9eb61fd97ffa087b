use Rattle.std.proofs.Common.{take, ap}
use Rattle.report_checks.specs.Cuts.{front}
use Rattle.report_checks.proofs.Cutting.{length_front}
use Rattle.report_checks.proofs.cuts.front.Goals as goal

pub slice_bounds-result-end : goal.slice_bounds-result-end
slice_bounds-result-end c = length_front c.front_length.result c.args.text.now c.front_length.ensures.within

pub returns : goal.returns
unfolding front
returns c = ap (λ n. take n c.args.text.now) c.front_length.ensures.is
