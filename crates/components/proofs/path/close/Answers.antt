use Rattle.std.proofs.Common.{◌<◌, ℕ, List, drop, length, sym, subst, ap, ◌∙◌}
use Rattle.std.proofs.lemmas.List.{take_rest}
use Rattle.components.specs.Graph.{Among}
use Rattle.components.proofs.Lists.{among_drop}
use Rattle.components.proofs.path.close.Goals as goal

pub place_all-requires : goal.place_all-requires
place_all-requires c = λ k among.
    let path = c.args.search.now.path.items in
    let is = c.deref-2.ensures.value ∙ c.in_ok-nodes.ensures.items ∙ take_rest c.deref.result.now c.args.first ∙ ap (drop c.args.first) c.deref.ensures.value in
    let small = c.requires.nodes k (among_drop k c.args.first path (subst (λ (l : List ℕ). Among k l) is among)) in
    subst (λ (n : ℕ). k < n) (sym (ap length c.deref_mut.ensures.value)) small
