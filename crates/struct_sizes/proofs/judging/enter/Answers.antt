use Rattle.std.proofs.Common.{◌≡◌, ℕ, None, take, get_or, length, ap, ap₂, ◌∙◌, arith}
use Rattle.std.specs.Prelude.{slice_index_or, slice_set}
use Rattle.std.proofs.lemmas.Grind.{common_steps}
use Rattle.std.proofs.lemmas.Option.{slice_get-get_or}
use Rattle.struct_sizes.specs.declared.verdicts.Verdict.{Verdict}
use Rattle.struct_sizes.specs.Filling.{flaw_at, verdict}
use Rattle.components.proofs.Lists.{at_among}
use Rattle.struct_sizes.proofs.Each.{each_length, each_more}
use Rattle.struct_sizes.proofs.judging.enter.Goals as goal

pub bounds-verdicts-node : goal.bounds-verdicts-node
bounds-verdicts-node c =
    let ks = c.args.nodes.now in
    let i = c.loop-node.node-index in
    let g = λ (k : ℕ). verdict c.args.ruling (flaw_at c.args.flaws.now k) (slice_index_or c.args.table.now k None) in
    let within = c.requires (get_or ks i 0) (at_among (get_or ks i 0) ks i (slice_get-get_or ks i 0 c.loop-node-test.true)) in
    let long : length c.loop-node.verdicts ≡ length c.args.verdicts.now = ap length c.loop-node.invariant ∙ each_length g c.args.verdicts.now (take i ks) in
    omega (arith, within, long)

pub loop-node-preserved : goal.loop-node-preserved
loop-node-preserved c =
    let ks = c.args.nodes.now in
    let i = c.loop-node.node-index in
    let k = get_or ks i 0 in
    let g = λ (k : ℕ). verdict c.args.ruling (flaw_at c.args.flaws.now k) (slice_index_or c.args.table.now k None) in
    let words : c.unwrap_or-words.result ≡ slice_index_or c.args.table.now k None = grind (arith, common_steps) in
    let is : c.verdict.result ≡ g k = c.verdict.ensures ∙ ap₂ (verdict c.args.ruling) c.flaw_at.ensures words in
    ap (λ (v : Verdict). slice_set c.loop-node.verdicts k v) is ∙ each_more g c.args.verdicts.now c.loop-node.verdicts ks i c.loop-node-test.true c.loop-node.invariant
