use Rattle.std.proofs.Common.{◌≡◌, [], ◌∷◌, ◌++◌, ◌+◌, List, drop, map, sym, ap, ◌∙◌, refl, arith, append-nil}
use Rattle.typed.specs.declared.stmt.Left.{Left}
use Rattle.typed.specs.View.{left_of, site_numbers}
use Rattle.type_faults.proofs.Lists.{from_one, nothing_left}
use Rattle.types_go.proofs.blocks.new_in.Goals as goal
use Rattle.types_go.specs.Statements.{new_in}
use Rattle.types_go.proofs.StatementSites.{new_more}

pub loop-left-init : goal.loop-left-init
loop-left-init c = rw (c.new-sites.ensures.items) refl

pub loop-left-preserved : goal.loop-left-preserved
loop-left-preserved c =
    let xs = c.args.lefts.now in
    let k = c.loop-left.left-index in
    let l1 : Left = c.left-item.result in
    let so_far = site_numbers c.loop-left.sites.items in
    let here : drop k xs ≡ l1 ∷ drop (k + 1) xs = from_one xs k l1 c.loop-left-test.true c.left-item.is in
    rw (c.in_ok-sites.ensures) (c.loop-left.invariant ∙ ap (λ (l : List Left). so_far ++ new_in (map left_of l)) here ∙ new_more so_far (left_of l1) (map left_of (drop (k + 1) xs)))

pub returns : goal.returns
returns c =
    let xs = c.args.lefts.now in
    let k = c.loop-left.left-index in
    let so_far = site_numbers c.loop-left.sites.items in
    let none : drop k xs ≡ [] = nothing_left xs k (λ l. absurd (omega (arith, l, c.loop-left-test.false))) in
    sym (c.loop-left.invariant ∙ ap (λ (l : List Left). so_far ++ new_in (map left_of l)) none ∙ append-nil so_far)
