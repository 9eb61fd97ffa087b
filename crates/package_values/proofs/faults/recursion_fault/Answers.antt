use Rattle.std.proofs.lemmas.List.{length-map}
use Rattle.std.proofs.Common.{rules, List, Bool, ℕ, ◌≡◌, ◌⊎◌, ◌+◌, ◌≤◌, Some, length, map, ap, ◌∙◌, subst, sym, arith}
use Rattle.std.specs.Prelude.{slice_get, IsTrue, ◌↔◌}
use Rattle.type_faults.specs.Least.{IsLeast}
use Rattle.type_faults.proofs.Leasts.{kept_start, kept_more, kept_end}
use Rattle.names.specs.Scope.{scope_of}
use Rattle.package_values.specs.declared.items.Item.{Item as ItemData}
use Rattle.package_values.specs.Needs.{needed}
use Rattle.package_values.specs.ValueFaults.{Recurs}
use Rattle.components.specs.Graph.{rows, Leads}
use Rattle.package_values.specs.Passing.{item_of, item_views, RecursAt, is_marked}
use Rattle.components.specs.Components.{AreOnCycles}
use Rattle.package_values.proofs.ItemLists.{many_views}
use Rattle.package_values.proofs.Rules.{recursion_least, on_cycle, kept_as, place_of, RecursFrom, recurs_all, recurs_none, recurs_split, recurs_behind, item_there}
use Rattle.package_values.proofs.faults.recursion_fault.Goals as goal

pub loop-index-init : goal.loop-index-init
loop-index-init c =
    let text = c.args.text.now in
    let s = scope_of c.args.scope.now in
    let is = item_views c.args.items.now in
    kept_as (Recurs text s is) (Recurs text s is) (RecursFrom text s is 0) _ (λ g h. recurs_all text s is g h) (λ g h. h.recurs) (kept_start (Recurs text s is))

pub loop-index-preserved : goal.loop-index-preserved
loop-index-preserved c =
    let text = c.args.text.now in
    let s = scope_of c.args.scope.now in
    let xs = c.args.items.now in
    let is = item_views xs in
    let k = c.loop-index.index in
    let x : ItemData = c.index-items-index.result in
    let i = item_of x in
    let t = rows c.in_ok-needs.needs.items in
    let own = c.item_recursion-own.result in
    let b = c.is_marked-needs_itself.result in
    let marks = c.in_ok-on_cycles.on_cycles.items in
    let all = Recurs text s is in
    let t_is : t ≡ map (needed text s) is = c.in_ok-needs.ensures in
    let has : slice_get is k ≡ Some i = item_there xs k x c.loop-index-test.true c.index-items-index.is in
    let at : c.cycle_pos.result ≡ place_of i = c.cycle_pos.ensures in
    let are : AreOnCycles t marks = search rules in
    let b_is : b ≡ is_marked marks k = search rules in
    let many : length t ≡ length is = ap (λ (l : List (List ℕ)). length l) t_is ∙ length-map is (needed text s) in
    let cycles : IsTrue b ↔ Leads t k k = subst (λ (x : Bool). IsTrue x ↔ Leads t k k) (sym b_is) (on_cycle t marks are k (omega (arith, many, c.loop-index-test.true, many_views item_of xs))) in
    let here : IsLeast (RecursAt t k (place_of i)) own = rw (c.item_recursion-own.ensures, at) (recursion_least t k (place_of i) b cycles) in
    let split = kept_as all (RecursFrom text s is k) (λ g. RecursAt t k (place_of i) g ⊎ RecursFrom text s is (k + 1) g) c.loop-index.fault (λ g h. recurs_split text s is t k i t_is has g h) (λ g h. recurs_behind text s is t k i t_is has g h) c.loop-index.invariant in
    rw (c.lesser-fault.ensures) (kept_more all (RecursAt t k (place_of i)) (RecursFrom text s is (k + 1)) c.loop-index.fault own split here)

pub returns : goal.returns
returns c =
    let text = c.args.text.now in
    let s = scope_of c.args.scope.now in
    let xs = c.args.items.now in
    let is = item_views xs in
    let k = c.loop-index.index in
    let le : length is ≤ k = omega (arith, c.loop-index-test.false, many_views item_of xs) in
    kept_end (Recurs text s is) (RecursFrom text s is k) c.loop-index.fault (λ g h. recurs_none text s is k g le h) c.loop-index.invariant
