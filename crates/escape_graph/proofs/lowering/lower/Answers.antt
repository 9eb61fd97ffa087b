use Rattle.std.proofs.Common.{◌≡◌, subst, sym}
use Rattle.deref_walk.specs.Weights.{AreWeights}
use Rattle.value_flows.specs.View.{program_of, tags_of as tags_of_data}
use Rattle.escape_graph.specs.Edges.{batch_edges}
use Rattle.escape_graph.proofs.Weights.{weights_batch}
use Rattle.escape_graph.proofs.lowering.lower.Goals as goal

pub invariant_of-result : goal.invariant_of-result
invariant_of-result c =
    let p = program_of c.args.program.now in
    let tags = tags_of_data c.args.tags.now in
    let all : c.add_batch.new.edges.items ≡ batch_edges p tags c.args.batch.now = rw c.new-edges.ensures.items at c.in_ok-add_batch.ensures in
    record { weights = subst AreWeights (sym all) (weights_batch p tags c.args.batch.now) }
