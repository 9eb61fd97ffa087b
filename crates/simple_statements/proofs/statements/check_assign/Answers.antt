use Rattle.std.proofs.Common.{◌≡◌, List, map, ap, ◌∙◌, subst}
use Rattle.std.specs.Prelude.{option_and_then}
use Rattle.std.specs.Option.{option_map}
use Rattle.syntax.specs.Expressions.{exs_of}
use Rattle.typed.specs.View.{left_of}
use Rattle.type_faults.specs.Least.{IsLeast}
use Rattle.names.specs.Scope.{scope_of}
use Rattle.given_values.specs.declared.wants.Wanted.{Wanted}
use Rattle.given_values.specs.declared.gives.Item.{Item}
use Rattle.given_values.specs.Given.{count}
use Rattle.given_values.specs.GivenFaults.{PlacedFail}
use Rattle.given_values.specs.Passing.{seens}
use Rattle.simple_statements.proofs.statements.check_assign.Goals as goal
use Rattle.simple_statements.proofs.LeastSimple.{assign_least}

pub returns-clause-fault : goal.returns-clause-fault
returns-clause-fault c =
    let text = c.args.text.now in
    let s = scope_of c.args.scope.now in
    let ns = exs_of c.args.places.now in
    let es = exs_of c.args.es.now in
    let listed = c.in_ok-listed.listed in
    let items = listed.items.items in
    let ps = c.in_ok-left.left.wanted.items in
    let ls = option_map (λ v. map left_of v.items) c.in_ok-left.left.lefts in
    let counted : c.count_where-counted.result ≡ option_and_then (λ l. count (seens items)) ls =
    c.count_where-counted.ensures ∙ ap (λ (l : List Item). option_and_then (λ k. count (seens l)) ls) c.deref.ensures.value in
    let placed0 : IsLeast (PlacedFail c.deref-2.result.now (seens items)) c.placed_fault.result =
    subst (λ (l : List Item). IsLeast (PlacedFail c.deref-2.result.now (seens l)) c.placed_fault.result) c.deref-3.ensures.value c.placed_fault.ensures in
    let placed : IsLeast (PlacedFail ps (seens items)) c.placed_fault.result =
    subst (λ (l : List Wanted). IsLeast (PlacedFail l (seens items)) c.placed_fault.result) c.deref-2.ensures.value placed0 in
    rw (c.lesser-2.ensures, c.lesser.ensures, c.lesser-values_fault.ensures, c.count_fault.ensures, counted, c.place_count.ensures, c.lefts_pos.ensures)
    (assign_least text s ns c.args.pos es ls ps (seens items) c.in_ok-left.left.fault listed.fault c.placed_fault.result c.in_ok-left.ensures.lefts c.in_ok-left.ensures.wanted c.in_ok-listed.ensures.seen
    c.in_ok-left.ensures.fault c.in_ok-listed.ensures.fault placed)
