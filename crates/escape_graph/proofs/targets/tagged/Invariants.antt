use Rattle.std.proofs.Common.{◌≡◌, [], drop, map}
use Rattle.escape_graph.specs.Targets.{tagged}
use Rattle.escape_graph.proofs.targets.tagged.Given as goal

abbrev pub invariant-loop-tag : goal.invariant-loop-tag
invariant-loop-tag l = tagged l.targets.items (drop l.tag-index l.tags) (map (λ ts. ts.items) l.lists) ≡ tagged [] l.tags (map (λ ts. ts.items) l.lists)
