use Rattle.std.proofs.Common.{◌≡◌, [], ◌∷◌, ◌+◌, List, drop, arith, subst}
use Rattle.std.specs.Option.{option_map}
use Rattle.type_faults.specs.Faults.{IsFault}
use Rattle.type_faults.proofs.Leasts.{Kept, kept_start, kept_more, kept_end, leaf}
use Rattle.given_values.specs.declared.gives.Item.{Item}
use Rattle.given_values.specs.GivenFaults.{SinglesFail, single_fault}
use Rattle.given_values.specs.Passing.{gives_of, seens}
use Rattle.type_faults.proofs.Lists.{from_one, nothing_left}
use Rattle.given_values.proofs.values.singles_fault.Goals as goal

pub loop-item-init : goal.loop-item-init
loop-item-init c = kept_start _

pub loop-item-preserved : goal.loop-item-preserved
loop-item-preserved c =
    let xs = c.args.items.now in
    let item : Item = c.item-item.result in
    let k = c.loop-item.item-index in
    let here : drop k xs ≡ item ∷ drop (k + 1) xs = from_one xs k item c.loop-item-test.true c.item-item.is in
    let kept = subst (λ (l : List Item). Kept (SinglesFail (seens xs)) (SinglesFail (seens l)) c.loop-item.fault) here c.loop-item.invariant in
    rw (c.lesser-fault.ensures, c.single_fault.ensures) (kept_more (SinglesFail (seens xs)) (IsFault (single_fault (option_map gives_of item.gives))) (SinglesFail (seens (drop (k + 1) xs))) c.loop-item.fault _ kept (leaf (single_fault (option_map gives_of item.gives))))

pub returns : goal.returns
returns c =
    let xs = c.args.items.now in
    let k = c.loop-item.item-index in
    let none : drop k xs ≡ [] = nothing_left xs k (λ l. absurd (omega (arith, l, c.loop-item-test.false))) in
    kept_end (SinglesFail (seens xs)) (SinglesFail (seens (drop k xs))) c.loop-item.fault (λ g h. subst (λ (l : List Item). SinglesFail (seens l) g) none h) c.loop-item.invariant
