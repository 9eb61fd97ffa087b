use Rattle.std.proofs.Common.{◌≡◌, ℕ, ◌+◌, ◌==◌, ◌||◌, List, get_or, ap, sym, subst, ◌∙◌, arith}
use Rattle.std.proofs.lemmas.Grind.{common_steps}
use Rattle.frames.specs.Placement.{Placement}
use Rattle.value_flows.specs.declared.placed.Placed.{Placed}
use Rattle.value_flows.specs.declared.placed.Placed.TheVariants.{Stack}
use Rattle.placement.specs.declared.placement.Placement.{Placement as PlacementData}
use Rattle.placement.specs.Told.{placement_of}
use Rattle.escape_placement.proofs.Told.{told_below, none_below, told_on, told_off}
use Rattle.escape_placement.proofs.placing.place.Goals.{then-is_on+in_ok-number+in_ok-put_on_heap, else-is_on}
use Rattle.escape_placement.proofs.placing.place.Goals as goal

pub loop-site-init : goal.loop-site-init
loop-site-init c = λ site. ap (λ (l : Placement). l.on_heap site) c.new-placement.ensures ∙ none_below c.args.solved.now.placed.items site

pub loop-site-preserved : goal.loop-site-preserved
loop-site-preserved c =
    let placed = c.args.solved.now.placed.items in
    let n = c.loop-site.site in
    let home = get_or c.deref-home-items.result.now n Stack in
    let same : home ≡ get_or placed n Stack = ap (λ (xs : List Placed). get_or xs n Stack) c.deref-home-items.ensures.value in
    λ site. elim c.if-is_on.branch [
      | then-is_on+in_ok-number+in_ok-put_on_heap w ↦
          ap (λ (l : PlacementData). (placement_of l).on_heap site) w.placement-is
          ∙ ap (λ (l : Placement). l.on_heap site) w.in_ok-put_on_heap.ensures
          ∙ (
          let number : w.in_ok-number.number ≡ n = grind (arith, common_steps) in
          subst (λ (k : ℕ). (k == site) || (placement_of c.loop-site.placement).on_heap site ≡ told_below (n + 1) placed site) (sym number)
          (told_on placed n site home ((placement_of c.loop-site.placement).on_heap site) same (sym c.is_on.ensures ∙ w.if-is_on.true) (c.loop-site.invariant site))
          )
      | else-is_on w ↦
          ap (λ (l : PlacementData). (placement_of l).on_heap site) w.placement-is
          ∙ told_off placed n site home ((placement_of c.loop-site.placement).on_heap site) same (sym c.is_on.ensures ∙ w.if-is_on.false) (c.loop-site.invariant site)
    ]
