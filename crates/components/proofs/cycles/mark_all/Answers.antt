use Rattle.std.proofs.Common.{◌≡◌, take, get_or, length, ap, ◌∙◌, arith, true}
use Rattle.std.proofs.lemmas.Option.{slice_get-get_or}
use Rattle.components.proofs.Lists.{at_among}
use Rattle.components.proofs.Settings.{all_length, all_more}
use Rattle.components.proofs.cycles.mark_all.Goals as goal

pub bounds-marks-node : goal.bounds-marks-node
bounds-marks-node c =
    let ks = c.args.nodes.now in
    let i = c.loop-node.node-index in
    let within = c.requires (get_or ks i 0) (at_among (get_or ks i 0) ks i (slice_get-get_or ks i 0 c.loop-node-test.true)) in
    let long : length c.loop-node.marks ≡ length c.args.marks.now = ap length c.loop-node.invariant ∙ all_length true c.args.marks.now (take i ks) in
    omega (arith, within, long)

pub loop-node-preserved : goal.loop-node-preserved
loop-node-preserved c = all_more true c.args.marks.now c.loop-node.marks c.args.nodes.now c.loop-node.node-index c.loop-node-test.true c.loop-node.invariant
