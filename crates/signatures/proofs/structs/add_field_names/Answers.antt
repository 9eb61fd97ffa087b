use Rattle.std.proofs.Common.{◌≡◌, [], ◌∷◌, ◌+◌, List, drop, get_or, sym, ap, ◌∙◌, arith}
use Rattle.syntax.specs.declared.expression.Name.{Name}
use Rattle.type_faults.proofs.Lists.{from_there, nothing_left}
use Rattle.names.proofs.Places.{no_name}
use Rattle.signatures.proofs.structs.add_field_names.Goals as goal
use Rattle.signatures.specs.Structs.{with_field_names}

pub loop-name-preserved : goal.loop-name-preserved
loop-name-preserved c =
    let text = c.args.text.now in
    let xs = c.args.names.now in
    let k = c.loop-name.name-index in
    let x : Name = get_or xs k no_name in
    let here : drop k xs ≡ x ∷ drop (k + 1) xs = from_there xs k no_name c.loop-name-test.true in
    rw (c.in_ok-add_field_name.ensures) (c.loop-name.invariant ∙ ap (λ (l : List Name). with_field_names text c.loop-name.noted l) here)

pub returns : goal.returns
returns c =
    let text = c.args.text.now in
    let xs = c.args.names.now in
    let k = c.loop-name.name-index in
    let none : drop k xs ≡ [] = nothing_left xs k (λ l. absurd (omega (arith, l, c.loop-name-test.false))) in
    sym (c.loop-name.invariant ∙ ap (λ (l : List Name). with_field_names text c.loop-name.noted l) none)
