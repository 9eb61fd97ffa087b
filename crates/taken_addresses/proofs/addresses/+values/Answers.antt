use Rattle.std.proofs.Common.{◌≡◌, ◌++◌, arith}
use Rattle.std.proofs.lemmas.Result.{on_ok_weaker}
use Rattle.typed.proofs.Rows.{expr_rows}
use Rattle.typed.specs.View.{ex_of, exs_of, place_of, steps_of}
use Rattle.taken_addresses.specs.Takes.{taken, taken_all, taken_in_place, taken_in_steps}
use Rattle.taken_addresses.proofs.Chained.{two_lists, three_lists}
use Rattle.taken_addresses.proofs.addresses.+values.Goals as goal

pub add_expr-returns-in_ok-add_expr-in-Append : goal.add_expr-returns-in_ok-add_expr-in-Append
add_expr-returns-in_ok-add_expr-in-Append t c =
    let first = taken (ex_of c.deref-a.result.now) in
    let rest = taken_all (exs_of c.in-Append.es.items) in
    let whole : taken (ex_of c.args.e.now) ≡ first ++ rest = grind (arith, expr_rows) in
    let second = rw c.deref-in-Append.ensures.value at c.add_exprs-in-Append.ensures in
    on_ok_weaker c.add_exprs-in-Append.result (λ last. two_lists c.args.sites.now.items c.add_expr.new.sites.items c.add_exprs-in-Append.new.sites.items first rest (taken (ex_of c.args.e.now)) c.in_ok-add_expr-in-Append.ensures last whole) second

pub add_place-returns-in_ok-add_steps-in-Indirect : goal.add_place-returns-in_ok-add_steps-in-Indirect
add_place-returns-in_ok-add_steps-in-Indirect t c =
    let steps = taken_in_steps (steps_of c.in-Indirect.steps.items) in
    let root = taken (ex_of c.deref-e.result.now) in
    let whole : taken_in_place (place_of c.args.place.now) ≡ steps ++ root = grind (arith, expr_rows) in
    let first = rw c.deref-in-Indirect.ensures.value at c.in_ok-add_steps-in-Indirect.ensures in
    on_ok_weaker c.add_expr.result (λ last. two_lists c.args.sites.now.items c.add_steps-in-Indirect.new.sites.items c.add_expr.new.sites.items steps root (taken_in_place (place_of c.args.place.now)) first last whole) c.add_expr.ensures

pub add_place-returns-in_ok-add_expr-in-SliceElement : goal.add_place-returns-in_ok-add_expr-in-SliceElement
add_place-returns-in_ok-add_expr-in-SliceElement t c =
    let steps = taken_in_steps (steps_of c.in-SliceElement.steps.items) in
    let root = taken (ex_of c.deref-e-in-SliceElement.result.now) in
    let index = taken (ex_of c.deref-index.result.now) in
    let whole : taken_in_place (place_of c.args.place.now) ≡ steps ++ (root ++ index) = grind (arith, expr_rows) in
    let first = rw c.deref-in-SliceElement.ensures.value at c.in_ok-add_steps-in-SliceElement.ensures in
    on_ok_weaker c.add_expr-in-SliceElement-2.result (λ last. three_lists c.args.sites.now.items c.add_steps-in-SliceElement.new.sites.items c.add_expr-in-SliceElement.new.sites.items c.add_expr-in-SliceElement-2.new.sites.items steps root index (taken_in_place (place_of c.args.place.now)) first c.in_ok-add_expr-in-SliceElement.ensures last whole) c.add_expr-in-SliceElement-2.ensures
