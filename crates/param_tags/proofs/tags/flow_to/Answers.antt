use Rattle.std.proofs.Common.{ℕ, ◌+◌, [], take, List, Option, subst, sym, ◌∙◌}
use Rattle.std.proofs.lemmas.List.{take_all}
use Rattle.param_tags.specs.declared.walks.Walked.{Walked}
use Rattle.param_tags.specs.Heap.{heap_of}
use Rattle.escape_graph.specs.Targets.{site}
use Rattle.param_tags.specs.Walks.{IsTagAmong, roots_of}
use Rattle.param_tags.proofs.Roots.{among_some, among_none, among_all, step_root, step_skip}
use Rattle.param_tags.proofs.tags.flow_to.Goals as goal
use Rattle.param_tags.proofs.tags.flow_to.Goals.{then-is_root, else-is_root, then-is_root-2, else-is_root-2}

pub loop-w-init : goal.loop-w-init
loop-w-init c =
    let R = roots_of (heap_of c.args.placed.now) c.args.end in
    let l = site c.args.l.0 in
    λ edges walked. elim c.if-is_root.branch [
      | then-is_root w ↦ subst (λ (o : Option ℕ). IsTagAmong R edges l [] o) (sym w.lowest-is) (among_some R edges l (sym c.is_root.ensures ∙ w.if-is_root.true))
      | else-is_root w ↦ subst (λ (o : Option ℕ). IsTagAmong R edges l [] o) (sym w.lowest-is) (among_none R edges l (sym c.is_root.ensures ∙ w.if-is_root.false))
    ]

pub loop-w-preserved : goal.loop-w-preserved
loop-w-preserved c =
    let R = roots_of (heap_of c.args.placed.now) c.args.end in
    let l = site c.args.l.0 in
    let walks = c.args.walks.now in
    let i = c.loop-w.w-index in
    let w = c.w-item.result in
    λ edges walked. elim c.if-is_root-2.branch [
      | then-is_root-2 v ↦ subst (λ (o : Option ℕ). IsTagAmong R edges l (take (i + 1) walks) o) (sym v.lowest-is) (step_root R edges l walks i w c.loop-w.lowest v.floored.result v.lesser-lowest.result c.loop-w-test.true c.w-item.is (sym c.is_root-in-loop-w.ensures ∙ v.if-is_root-2.true) (c.loop-w.invariant edges walked) (v.floored.ensures edges w.root (walked.sound w (i, c.loop-w-test.true, sym c.w-item.is))) v.lesser-lowest.ensures.first v.lesser-lowest.ensures.second v.lesser-lowest.ensures.either)
      | else-is_root-2 v ↦ subst (λ (o : Option ℕ). IsTagAmong R edges l (take (i + 1) walks) o) (sym v.lowest-is) (step_skip R edges l walks i w c.loop-w.lowest c.loop-w-test.true c.w-item.is (sym c.is_root-in-loop-w.ensures ∙ v.if-is_root-2.false) (c.loop-w.invariant edges walked))
    ]

pub returns : goal.returns
returns c =
    let R = roots_of (heap_of c.args.placed.now) c.args.end in
    let l = site c.args.l.0 in
    λ edges walked. among_all R edges c.args.walks.now l c.loop-w.lowest walked (subst (λ (xs : List Walked). IsTagAmong R edges l xs c.loop-w.lowest) (take_all c.loop-w.w-index c.args.walks.now c.loop-w-test.false) (c.loop-w.invariant edges walked))
