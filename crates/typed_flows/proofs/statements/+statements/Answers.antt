use Rattle.std.proofs.Common.{◌≡◌, [], ◌∷◌, ◌++◌, map, arith}
use Rattle.std.proofs.lemmas.Result.{on_ok_weaker}
use Rattle.typed.proofs.Rows.{stmt_rows}
use Rattle.typed_syntax.specs.Syntax.{blank, over_int, over_copy, over_slice}
use Rattle.typed.specs.View.{ex_of, left_of, program_of, site_numbers, st_of, sts_of, test_of}
use Rattle.value_flows.specs.View.{act_of}
use Rattle.typed_flows.specs.Values.{value}
use Rattle.typed_flows.specs.Flows.{acts, all_acts, evaluated, for_head, lefts_values, range_head}
use Rattle.typed_flows.proofs.Chained.{two_lists, three_lists}
use Rattle.typed_flows.proofs.statements.+statements.Goals as goal

pub add_stmt-returns-in_ok-add_stmts-in-If : goal.add_stmt-returns-in_ok-add_stmts-in-If
add_stmt-returns-in_ok-add_stmts-in-If t c =
    let p = program_of c.args.context.program.now in
    let first = evaluated (value p (ex_of c.in-If.e) ∷ []) ∷ [] in
    let a = all_acts p c.args.returned.now (sts_of c.in-If.a.items) in
    let b = all_acts p c.args.returned.now (sts_of c.in-If.b.items) in
    let all = acts p c.args.returned.now (st_of c.args.s.now) in
    let whole : all ≡ first ++ (a ++ b) = grind (arith, stmt_rows) in
    let second = rw c.deref-in-If.ensures.value at c.in_ok-add_stmts-in-If.ensures in
    let third = rw c.deref-in-If-2.ensures.value at c.add_stmts-in-If-2.ensures in
    on_ok_weaker c.add_stmts-in-If-2.result (λ last. three_lists (map act_of c.args.acts.now.items) (map act_of c.evaluate_expr.new.acts.items) (map act_of c.add_stmts-in-If.new.acts.items) (map act_of c.add_stmts-in-If-2.new.acts.items) first a b all c.in_ok-evaluate_expr-in-If.ensures second last whole) third

pub add_stmt-returns-in_ok-add_stmts-in-For : goal.add_stmt-returns-in_ok-add_stmts-in-For
add_stmt-returns-in_ok-add_stmts-in-For t c =
    let p = program_of c.args.context.program.now in
    let first = for_head p (site_numbers c.in-For.sites.items) (test_of c.in-For.test) in
    let a = all_acts p c.args.returned.now (sts_of c.in-For.post.items) in
    let b = all_acts p c.args.returned.now (sts_of c.in-For.body.items) in
    let all = acts p c.args.returned.now (st_of c.args.s.now) in
    let whole : all ≡ first ++ (a ++ b) = grind (arith, stmt_rows) in
    let second = rw c.deref-in-For-2.ensures.value at c.in_ok-add_stmts-in-For.ensures in
    let third = rw c.deref-in-For-3.ensures.value at c.add_stmts-in-For-2.ensures in
    on_ok_weaker c.add_stmts-in-For-2.result (λ last. three_lists (map act_of c.args.acts.now.items) (map act_of c.add_for_head.new.acts.items) (map act_of c.add_stmts-in-For.new.acts.items) (map act_of c.add_stmts-in-For-2.new.acts.items) first a b all (rw c.deref-in-For.ensures.value at c.in_ok-add_for_head-in-For.ensures) second last whole) third

pub add_stmt-returns-in_ok-add_count-in-Count : goal.add_stmt-returns-in_ok-add_count-in-Count
add_stmt-returns-in_ok-add_count-in-Count t c =
    let p = program_of c.args.context.program.now in
    let first = range_head p (over_int (ex_of c.in-Count.e)) (left_of c.in-Count.key) blank in
    let body = all_acts p c.args.returned.now (sts_of c.in-Count.body.items) in
    let all = acts p c.args.returned.now (st_of c.args.s.now) in
    let whole : all ≡ first ++ body = grind (arith, stmt_rows) in
    let second = rw c.deref-in-Count.ensures.value at c.add_stmts-in-Count.ensures in
    on_ok_weaker c.add_stmts-in-Count.result (λ last. two_lists (map act_of c.args.acts.now.items) (map act_of c.add_count.new.acts.items) (map act_of c.add_stmts-in-Count.new.acts.items) first body all c.in_ok-add_count-in-Count.ensures last whole) second

pub add_stmt-returns-in_ok-add_elements-in-Elements : goal.add_stmt-returns-in_ok-add_elements-in-Elements
add_stmt-returns-in_ok-add_elements-in-Elements t c =
    let p = program_of c.args.context.program.now in
    let first = range_head p (over_copy c.in-Elements.site.0 (ex_of c.in-Elements.e) 0) (left_of c.in-Elements.key) (left_of c.in-Elements.element) in
    let body = all_acts p c.args.returned.now (sts_of c.in-Elements.body.items) in
    let all = acts p c.args.returned.now (st_of c.args.s.now) in
    let whole : all ≡ first ++ body = grind (arith, stmt_rows) in
    let second = rw c.deref-in-Elements.ensures.value at c.add_stmts-in-Elements.ensures in
    on_ok_weaker c.add_stmts-in-Elements.result (λ last. two_lists (map act_of c.args.acts.now.items) (map act_of c.add_elements.new.acts.items) (map act_of c.add_stmts-in-Elements.new.acts.items) first body all c.in_ok-add_elements-in-Elements.ensures last whole) second

pub add_stmt-returns-in_ok-add_elements_behind-in-SliceElements : goal.add_stmt-returns-in_ok-add_elements_behind-in-SliceElements
add_stmt-returns-in_ok-add_elements_behind-in-SliceElements t c =
    let p = program_of c.args.context.program.now in
    let first = range_head p (over_slice (ex_of c.in-SliceElements.e) c.in-SliceElements.id.0) (left_of c.in-SliceElements.key) (left_of c.in-SliceElements.element) in
    let body = all_acts p c.args.returned.now (sts_of c.in-SliceElements.body.items) in
    let all = acts p c.args.returned.now (st_of c.args.s.now) in
    let whole : all ≡ first ++ body = grind (arith, stmt_rows) in
    let second = rw c.deref-in-SliceElements.ensures.value at c.add_stmts-in-SliceElements.ensures in
    on_ok_weaker c.add_stmts-in-SliceElements.result (λ last. two_lists (map act_of c.args.acts.now.items) (map act_of c.add_elements_behind.new.acts.items) (map act_of c.add_stmts-in-SliceElements.new.acts.items) first body all c.in_ok-add_elements_behind-in-SliceElements.ensures last whole) second

pub add_stmt-returns-in_ok-evaluate_pair-in-Indices : goal.add_stmt-returns-in_ok-evaluate_pair-in-Indices
add_stmt-returns-in_ok-evaluate_pair-in-Indices t c =
    let p = program_of c.args.context.program.now in
    let first = evaluated (lefts_values p (left_of c.in-Indices.key ∷ blank ∷ [])) ∷ [] in
    let body = all_acts p c.args.returned.now (sts_of c.in-Indices.body.items) in
    let all = acts p c.args.returned.now (st_of c.args.s.now) in
    let whole : all ≡ first ++ body = grind (arith, stmt_rows) in
    let second = rw c.deref-in-Indices.ensures.value at c.add_stmts-in-Indices.ensures in
    on_ok_weaker c.add_stmts-in-Indices.result (λ last. two_lists (map act_of c.args.acts.now.items) (map act_of c.evaluate_pair.new.acts.items) (map act_of c.add_stmts-in-Indices.new.acts.items) first body all c.in_ok-evaluate_pair-in-Indices.ensures last whole) second
