use Rattle.std.proofs.Common.{rules, ◌≡◌, length, arith}
use Rattle.std.proofs.lemmas.Grind.{common_steps}
use Rattle.std.proofs.lemmas.List.{length-map}
use Rattle.components.specs.Graph.{rows}
use Rattle.components.specs.Search.{search_of}
use Rattle.components.proofs.Whole.{all_found}
use Rattle.components.proofs.searching.strong_components.Goals as goal

pub returns : goal.returns
returns c =
    let t = rows c.args.edges.now in
    let counted : length c.args.edges.now ≡ c.in_ok-count.count = first_of (search rules, grind (arith, common_steps)) in
    let long : length t ≡ length c.args.edges.now = length-map c.args.edges.now _ in
    all_found t (search_of c.loop-node.search) c.loop-node.node c.loop-node.invariant (omega (arith, counted, long, c.loop-node-test.false))
