use Rattle.std.proofs.Common.{◌≡◌, [], ◌∷◌, ◌+◌, List, drop, arith, subst}
use Rattle.std.specs.Option.{option_map}
use Rattle.type_faults.specs.Faults.{IsFault}
use Rattle.type_faults.proofs.Leasts.{Kept, kept_start, kept_more, kept_end, leaf}
use Rattle.given_values.specs.declared.gives.Item.{Item}
use Rattle.given_values.specs.GivenFaults.{PartsFail, part_fault}
use Rattle.given_values.specs.Passing.{gives_of, seens}
use Rattle.type_faults.proofs.Lists.{from_one, nothing_left}
use Rattle.given_values.proofs.values.parts_fault.Goals as goal

pub loop-item-init : goal.loop-item-init
loop-item-init c = kept_start _

pub loop-item-preserved : goal.loop-item-preserved
loop-item-preserved c =
    let xs = c.args.items.now in
    let item : Item = c.item-item.result in
    let k = c.loop-item.item-index in
    let here : drop k xs ≡ item ∷ drop (k + 1) xs = from_one xs k item c.loop-item-test.true c.item-item.is in
    let kept = subst (λ (l : List Item). Kept (PartsFail (seens xs)) (PartsFail (seens l)) c.loop-item.fault) here c.loop-item.invariant in
    rw (c.lesser-fault.ensures, c.part_fault.ensures) (kept_more (PartsFail (seens xs)) (IsFault (part_fault (option_map gives_of item.gives))) (PartsFail (seens (drop (k + 1) xs))) c.loop-item.fault _ kept (leaf (part_fault (option_map gives_of item.gives))))

pub returns : goal.returns
returns c =
    let xs = c.args.items.now in
    let k = c.loop-item.item-index in
    let none : drop k xs ≡ [] = nothing_left xs k (λ l. absurd (omega (arith, l, c.loop-item-test.false))) in
    kept_end (PartsFail (seens xs)) (PartsFail (seens (drop k xs))) c.loop-item.fault (λ g h. subst (λ (l : List Item). PartsFail (seens l) g) none h) c.loop-item.invariant
