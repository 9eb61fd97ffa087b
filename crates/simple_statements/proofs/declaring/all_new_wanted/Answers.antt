use Rattle.std.proofs.Common.{◌≡◌, [], ◌∷◌, ◌+◌, ◌++◌, List, drop, get_or, sym, ap, ◌∙◌, append_assoc, append-nil, arith}
use Rattle.syntax.specs.declared.expression.Name.{Name}
use Rattle.names.specs.Scope.{scope_of}
use Rattle.type_faults.proofs.Lists.{from_there, nothing_left}
use Rattle.names.proofs.Places.{no_name}
use Rattle.simple_statements.proofs.declaring.all_new_wanted.Goals as goal
use Rattle.simple_statements.specs.SimpleStatements.{new_wanted, all_new_wanted}

pub loop-name-preserved : goal.loop-name-preserved
loop-name-preserved c =
    let text = c.args.text.now in
    let s = scope_of c.args.scope.now in
    let xs = c.args.names.now in
    let k = c.loop-name.name-index in
    let n : Name = get_or xs k no_name in
    let so_far = c.loop-name.all.items in
    let here : drop k xs ≡ n ∷ drop (k + 1) xs = from_there xs k no_name c.loop-name-test.true in
    rw (c.in_ok-push.ensures.items, c.in_ok-wanted.ensures)
    (c.loop-name.invariant ∙ ap (λ (l : List Name). so_far ++ all_new_wanted text s l) here ∙ sym (append_assoc so_far (new_wanted text s n ∷ []) (all_new_wanted text s (drop (k + 1) xs))))

pub returns : goal.returns
returns c =
    let text = c.args.text.now in
    let s = scope_of c.args.scope.now in
    let xs = c.args.names.now in
    let k = c.loop-name.name-index in
    let so_far = c.loop-name.all.items in
    let none : drop k xs ≡ [] = nothing_left xs k (λ l. absurd (omega (arith, l, c.loop-name-test.false))) in
    sym (c.loop-name.invariant ∙ ap (λ (l : List Name). so_far ++ all_new_wanted text s l) none ∙ append-nil so_far)
