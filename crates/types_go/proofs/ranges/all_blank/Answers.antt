use Rattle.std.proofs.Common.{◌≡◌, [], ◌∷◌, ◌+◌, List, drop, get_or, sym, ap, ◌∙◌, refl, arith}
use Rattle.std.specs.Prelude.{◌&&◌}
use Rattle.syntax.specs.declared.expression.Name.{Name}
use Rattle.type_faults.proofs.Lists.{from_there, nothing_left, and_true}
use Rattle.names.proofs.Places.{no_name}
use Rattle.types_go.proofs.ranges.all_blank.Goals as goal
use Rattle.types_go.specs.Ranges.{all_blank}

pub loop-name-init : goal.loop-name-init
loop-name-init c = refl

pub loop-name-preserved : goal.loop-name-preserved
loop-name-preserved c =
    let text = c.args.text.now in
    let xs = c.args.names.now in
    let n : Name = get_or xs c.loop-name.name-index no_name in
    let k = c.loop-name.name-index in
    let here : drop k xs ≡ n ∷ drop (k + 1) xs = from_there xs k no_name c.loop-name-test.true in
    let kept : all_blank text xs ≡ (c.loop-name.all && all_blank text (n ∷ drop (k + 1) xs)) = c.loop-name.invariant ∙ ap (λ (l : List Name). c.loop-name.all && all_blank text l) here in
    grind (arith, kept)

pub returns : goal.returns
returns c =
    let text = c.args.text.now in
    let xs = c.args.names.now in
    let k = c.loop-name.name-index in
    let none : drop k xs ≡ [] = nothing_left xs k (λ l. absurd (omega (arith, l, c.loop-name-test.false))) in
    sym (c.loop-name.invariant ∙ ap (λ (l : List Name). c.loop-name.all && all_blank text l) none ∙ and_true c.loop-name.all)
