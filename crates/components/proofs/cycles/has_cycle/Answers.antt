use Rattle.std.proofs.Common.{ℕ, List, get_or, subst}
use Rattle.std.proofs.lemmas.Option.{slice_get-get_or}
use Rattle.components.specs.Graph.{Among}
use Rattle.components.proofs.Lists.{at_among}
use Rattle.components.proofs.cycles.has_cycle.Goals as goal

pub has_loop-requires : goal.has_loop-requires
has_loop-requires c =
    let nodes = c.as_slice.result.now in
    c.requires (get_or nodes 0 0) (subst (λ (l : List ℕ). Among (get_or nodes 0 0) l) c.as_slice.ensures.value (at_among (get_or nodes 0 0) nodes 0 (slice_get-get_or nodes 0 0 c.in-len1.len_at_least)))
