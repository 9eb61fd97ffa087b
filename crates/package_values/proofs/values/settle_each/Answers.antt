use Rattle.std.proofs.Common.{◌≡◌, ℕ, [], ◌∷◌, ◌+◌, List, Option, drop, get_or, sym, ap, ◌∙◌, arith}
use Rattle.names.specs.declared.scope.Known.{Known}
use Rattle.names.specs.Scope.{Scope, scope_of, with_known}
use Rattle.type_faults.proofs.Lists.{from_there, nothing_left}
use Rattle.package_values.specs.Passing.{item_views, each_given, with_given}
use Rattle.package_values.proofs.values.settle_each.Goals as goal

pub loop-number-preserved : goal.loop-number-preserved
loop-number-preserved c =
    let text = c.args.text.now in
    let is = item_views c.args.items.now in
    let s = scope_of c.loop-number.scope in
    let xs = c.args.numbers.now in
    let k = c.loop-number.number-index in
    let x = get_or xs k 0 in
    let here : drop k xs ≡ x ∷ drop (k + 1) xs = from_there xs k 0 c.loop-number-test.true in
    let given : scope_of c.set_known.new.self ≡ with_given text is s x = c.set_known.ensures ∙ ap (λ (o : Option Known). with_known s x o) c.in_ok-known.ensures in
    c.loop-number.invariant ∙ ap (λ (l : List ℕ). each_given text is s l) here ∙ ap (λ (r : Scope). each_given text is r (drop (k + 1) xs)) (sym given)

pub returns : goal.returns
returns c =
    let text = c.args.text.now in
    let is = item_views c.args.items.now in
    let s = scope_of c.loop-number.scope in
    let xs = c.args.numbers.now in
    let k = c.loop-number.number-index in
    let none : drop k xs ≡ [] = nothing_left xs k (λ l. absurd (omega (arith, l, c.loop-number-test.false))) in
    sym (c.loop-number.invariant ∙ ap (λ (l : List ℕ). each_given text is s l) none)
