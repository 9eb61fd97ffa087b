use Rattle.std.proofs.Common.{◌≡◌, [], ◌∷◌, ◌++◌, arith}
use Rattle.std.proofs.lemmas.Result.{on_ok_weaker}
use Rattle.typed.proofs.Rows.{stmt_rows}
use Rattle.typed_syntax.specs.Syntax.{blank}
use Rattle.typed.specs.View.{ex_of, left_of, test_of, st_of, sts_of}
use Rattle.taken_addresses.specs.Takes.{taken, taken_in_lefts, taken_in_test, taken_by, taken_by_all}
use Rattle.taken_addresses.proofs.Chained.{two_lists, three_lists}
use Rattle.taken_addresses.proofs.addresses.+statements.Goals as goal

pub add_stmt-returns-in_ok-add_stmts-in-If : goal.add_stmt-returns-in_ok-add_stmts-in-If
add_stmt-returns-in_ok-add_stmts-in-If t c =
    let e = taken (ex_of c.in-If.e) in
    let a = taken_by_all (sts_of c.in-If.a.items) in
    let b = taken_by_all (sts_of c.in-If.b.items) in
    let whole : taken_by (st_of c.args.s.now) ≡ e ++ (a ++ b) = grind (arith, stmt_rows) in
    let second = rw c.deref-in-If.ensures.value at c.in_ok-add_stmts-in-If.ensures in
    let third = rw c.deref-in-If-2.ensures.value at c.add_stmts-in-If-2.ensures in
    on_ok_weaker c.add_stmts-in-If-2.result (λ last. three_lists c.args.sites.now.items c.add_expr.new.sites.items c.add_stmts-in-If.new.sites.items c.add_stmts-in-If-2.new.sites.items e a b (taken_by (st_of c.args.s.now)) c.in_ok-add_expr-in-If.ensures second last whole) third

pub add_stmt-returns-in_ok-add_stmts-in-For : goal.add_stmt-returns-in_ok-add_stmts-in-For
add_stmt-returns-in_ok-add_stmts-in-For t c =
    let test = taken_in_test (test_of c.in-For.test) in
    let post = taken_by_all (sts_of c.in-For.post.items) in
    let body = taken_by_all (sts_of c.in-For.body.items) in
    let whole : taken_by (st_of c.args.s.now) ≡ test ++ (post ++ body) = grind (arith, stmt_rows) in
    let second = rw c.deref-in-For.ensures.value at c.in_ok-add_stmts-in-For.ensures in
    let third = rw c.deref-in-For-2.ensures.value at c.add_stmts-in-For-2.ensures in
    on_ok_weaker c.add_stmts-in-For-2.result (λ last. three_lists c.args.sites.now.items c.add_test.new.sites.items c.add_stmts-in-For.new.sites.items c.add_stmts-in-For-2.new.sites.items test post body (taken_by (st_of c.args.s.now)) c.in_ok-add_test-in-For.ensures second last whole) third

pub add_stmt-returns-in_ok-add_pair-in-Count : goal.add_stmt-returns-in_ok-add_pair-in-Count
add_stmt-returns-in_ok-add_pair-in-Count t c =
    let e = taken (ex_of c.in-Count.e) in
    let lefts = taken_in_lefts (left_of c.in-Count.key ∷ blank ∷ []) in
    let body = taken_by_all (sts_of c.in-Count.body.items) in
    let whole : taken_by (st_of c.args.s.now) ≡ e ++ (lefts ++ body) = grind (arith, stmt_rows) in
    let third = rw c.deref-in-Count.ensures.value at c.add_stmts-in-Count.ensures in
    on_ok_weaker c.add_stmts-in-Count.result (λ last. three_lists c.args.sites.now.items c.add_expr-in-Count.new.sites.items c.add_pair.new.sites.items c.add_stmts-in-Count.new.sites.items e lefts body (taken_by (st_of c.args.s.now)) c.in_ok-add_expr-in-Count.ensures c.in_ok-add_pair-in-Count.ensures last whole) third

pub add_stmt-returns-in_ok-add_pair-in-Indices : goal.add_stmt-returns-in_ok-add_pair-in-Indices
add_stmt-returns-in_ok-add_pair-in-Indices t c =
    let lefts = taken_in_lefts (left_of c.in-Indices.key ∷ blank ∷ []) in
    let body = taken_by_all (sts_of c.in-Indices.body.items) in
    let whole : taken_by (st_of c.args.s.now) ≡ lefts ++ body = grind (arith, stmt_rows) in
    let second = rw c.deref-in-Indices.ensures.value at c.add_stmts-in-Indices.ensures in
    on_ok_weaker c.add_stmts-in-Indices.result (λ last. two_lists c.args.sites.now.items c.add_pair-in-Indices.new.sites.items c.add_stmts-in-Indices.new.sites.items lefts body (taken_by (st_of c.args.s.now)) c.in_ok-add_pair-in-Indices.ensures last whole) second

pub add_stmt-returns-in_ok-add_pair-in-Elements : goal.add_stmt-returns-in_ok-add_pair-in-Elements
add_stmt-returns-in_ok-add_pair-in-Elements t c =
    let e = taken (ex_of c.in-Elements.e) in
    let lefts = taken_in_lefts (left_of c.in-Elements.key ∷ left_of c.in-Elements.value ∷ []) in
    let body = taken_by_all (sts_of c.in-Elements.body.items) in
    let whole : taken_by (st_of c.args.s.now) ≡ e ++ (lefts ++ body) = grind (arith, stmt_rows) in
    let third = rw c.deref-in-Elements.ensures.value at c.add_stmts-in-Elements.ensures in
    on_ok_weaker c.add_stmts-in-Elements.result (λ last. three_lists c.args.sites.now.items c.add_expr-in-Elements.new.sites.items c.add_pair-in-Elements.new.sites.items c.add_stmts-in-Elements.new.sites.items e lefts body (taken_by (st_of c.args.s.now)) c.in_ok-add_expr-in-Elements.ensures c.in_ok-add_pair-in-Elements.ensures last whole) third
