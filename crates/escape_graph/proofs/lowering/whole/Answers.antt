use Rattle.std.proofs.Common.{◌≡◌, map, subst, sym}
use Rattle.deref_walk.specs.Weights.{AreWeights}
use Rattle.value_flows.specs.View.{program_of, tags_of as tags_of_data}
use Rattle.escape_graph.specs.Edges.{whole_edges}
use Rattle.escape_graph.proofs.Weights.{weights_whole}
use Rattle.escape_graph.proofs.lowering.whole.Goals as goal

pub invariant_of-result : goal.invariant_of-result
invariant_of-result c =
    let p = program_of c.args.program.now in
    let tags = tags_of_data c.args.tags.now in
    let all : c.add_batches.new.edges.items ≡ whole_edges p tags (map (λ b. b.items) c.args.batches.now) = rw c.new-edges.ensures.items at c.in_ok-add_batches.ensures in
    record { weights = subst AreWeights (sym all) (weights_whole p tags (map (λ b. b.items) c.args.batches.now)) }
