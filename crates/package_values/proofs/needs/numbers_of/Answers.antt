use Rattle.std.proofs.Common.{◌≡◌, ℕ, [], ◌∷◌, ◌+◌, ◌++◌, List, Option, drop, get_or, sym, ap, ◌∙◌, append_assoc, append-nil, arith}
use Rattle.syntax.specs.declared.expression.Name.{Name}
use Rattle.syntax.specs.Expressions.{spelled}
use Rattle.names.specs.Scope.{scope_of, declaration}
use Rattle.type_faults.proofs.Lists.{from_there, nothing_left}
use Rattle.names.proofs.Places.{no_name}
use Rattle.package_values.specs.Needs.{value_number, also, numbers_of}
use Rattle.package_values.proofs.needs.numbers_of.Goals as goal
use Rattle.package_values.proofs.needs.numbers_of.Goals.{in-Some+in_ok-push-in-Some, in-None}

pub loop-name-preserved : goal.loop-name-preserved
loop-name-preserved c =
    let text = c.args.text.now in
    let s = scope_of c.args.scope.now in
    let xs = c.args.names.now in
    let k = c.loop-name.name-index in
    let n : Name = get_or xs k no_name in
    let so_far = c.loop-name.numbers.items in
    let rest = numbers_of text s (drop (k + 1) xs) in
    let here : drop k xs ≡ n ∷ drop (k + 1) xs = from_there xs k no_name c.loop-name-test.true in
    let number : value_number (declaration s (spelled text n)) ≡ c.value_number.result =
    sym (c.value_number.ensures ∙ ap value_number (c.declaration.ensures ∙ ap (λ (b : List ℕ). declaration s b) c.spelled.ensures)) in
    let front : numbers_of text s xs ≡ so_far ++ also c.value_number.result rest =
    c.loop-name.invariant ∙ ap (λ (l : List Name). so_far ++ numbers_of text s l) here ∙ ap (λ (o : Option ℕ). so_far ++ also o rest) number in
    elim c.match-value_number.branch [
      | in-Some+in_ok-push-in-Some w ↦ let items : c.match-value_number.numbers.items ≡ so_far ++ w.in-Some.number ∷ [] = ap (λ v. v.items) w.numbers-is ∙ w.in_ok-push-in-Some.ensures.items in front ∙ ap (λ (o : Option ℕ). so_far ++ also o rest) w.in-Some.is ∙ sym (append_assoc so_far (w.in-Some.number ∷ []) rest) ∙ ap (λ l. l ++ rest) (sym items)
      | in-None w ↦ front ∙ ap (λ (o : Option ℕ). so_far ++ also o rest) w.in-None.is ∙ ap (λ l. l ++ rest) (sym (ap (λ v. v.items) w.numbers-is))
    ]

pub returns : goal.returns
returns c =
    let text = c.args.text.now in
    let s = scope_of c.args.scope.now in
    let xs = c.args.names.now in
    let k = c.loop-name.name-index in
    let so_far = c.loop-name.numbers.items in
    let none : drop k xs ≡ [] = nothing_left xs k (λ l. absurd (omega (arith, l, c.loop-name-test.false))) in
    sym (c.loop-name.invariant ∙ ap (λ (l : List Name). so_far ++ numbers_of text s l) none ∙ append-nil so_far)
