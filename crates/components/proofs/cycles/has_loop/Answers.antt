use Rattle.std.proofs.Common.{◌≡◌, ℕ, List, sym, ap, ◌∙◌}
use Rattle.std.specs.Prelude.{◌==◌}
use Rattle.std.specs.List.{list_any}
use Rattle.components.specs.Graph.{row, rows}
use Rattle.components.proofs.Read.{row_read, any_among, among_any}
use Rattle.components.proofs.cycles.has_loop.Goals as goal

pub returns : goal.returns
returns c =
    let k = c.args.node in
    let is : row (rows c.args.edges.now) k ≡ c.index-edges-node.result.items = row_read c.args.edges.now k c.index-edges-node.result c.requires c.index-edges-node.is in
    let found : c.contains.result ≡ list_any (λ y. y == k) (row (rows c.args.edges.now) k) = c.contains.ensures.value ∙ ap (λ (l : List ℕ). list_any (λ y. y == k) l) (c.deref.ensures.value ∙ sym is) in
    (λ so. any_among k (row (rows c.args.edges.now) k) (sym found ∙ so), λ among. found ∙ among_any k (row (rows c.args.edges.now) k) among)
