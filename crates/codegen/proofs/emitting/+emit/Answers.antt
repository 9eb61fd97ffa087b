use Rattle.std.proofs.Common.{rules, ◌≡◌, ◌+◌, ◌++◌, List, length, sym, ap, subst, ◌∙◌, arith}
use Rattle.typed.proofs.Rows.{stmt_rows}
use Rattle.typed_syntax.specs.Syntax.{St, blank, block, over_copy, over_int, over_length, over_slice, over_pointer, over_pointed, if_stmt, for_stmt, range, argument_words, result_words}
use Rattle.typed.specs.declared.stmt.Stmt.{Stmt}
use Rattle.typed.specs.Positions.{position}
use Rattle.typed.specs.View.{ex_of, left_of, program_of, site_numbers, st_of, sts_of, test_of}
use Rattle.program_code.specs.Code.{element_round_size, pointed_round_size, renew_code, renew_size, st_code, sts_code, sts_size, test_size}
use Rattle.expression_code.specs.Frame.{func_in, slots_in}
use Rattle.codegen.proofs.Emitted.{next_emitted, next_fits, if_emitted, loop_emitted, count_emitted, indices_emitted, elements_emitted, slices_emitted, pointed_emitted, pointed_fits, pointed_indices}
use Rattle.codegen.specs.Temps.{StFitsIn, StsFitIn}
use Rattle.codegen.proofs.emitting.+emit.Goals as goal

pub emit_stmts-loop-s-preserved : goal.emit_stmts-loop-s-preserved
emit_stmts-loop-s-preserved t c =
    let p = program_of c.args.program.now in let f = func_in c.args.program.now c.args.func.now in let slots = slots_in c.args.program.now c.args.frame.now in let g = c.args.goals in (
      next_emitted p (argument_words f) f.named slots _ _ _ c.args.ss.now c.loop-s.s-index c.s-item.result c.args.h g.out g.again c.loop-s-test.true c.s-item.is c.loop-s.invariant.0 c.in_ok-emit_stmt.ensures,
      next_fits p (argument_words f) f.named slots c.args.frame.now.sites (result_words f) c.args.h c.args.ss.now c.loop-s.s-index c.s-item.result c.loop-s-test.true c.s-item.is c.loop-s.invariant.1,
    )

pub emit_stmt-returns-in_ok-emit_stmts-in-If-2 : goal.emit_stmt-returns-in_ok-emit_stmts-in-If-2
emit_stmt-returns-in_ok-emit_stmts-in-If-2 t c =
    let p = program_of c.args.program.now in let f = func_in c.args.program.now c.args.func.now in let slots = slots_in c.args.program.now c.args.frame.now in let h = c.args.h in let out = c.args.goals.out in let again = c.args.goals.again in
    let v = c.in-If in
    let shape : st_of c.args.s.now ≡ if_stmt (ex_of v.e) (sts_of v.a.items) (sts_of v.b.items) = grind (arith, stmt_rows) in
    rw shape (if_emitted p (argument_words f) f.named slots c.args.code.now.items _ _ _ _ _ (ex_of v.e) (sts_of v.a.items) (sts_of v.b.items) _ _ h out again
    (c.in_ok-yes-in-If.ensures ∙ ap (λ x. sts_size p (argument_words f) f.named (sts_of x)) c.deref-in-If.ensures.value) (c.in_ok-no-in-If.ensures ∙ ap (λ x. sts_size p (argument_words f) f.named (sts_of x)) c.deref-in-If-2.ensures.value)
    c.in_ok-emit_expr-in-If.ensures c.in_ok-pass_unless-in-If.ensures
    (c.in_ok-emit_stmts-in-If.ensures ∙ ap (λ x. c.pass_unless.new.code.items ++ sts_code p (argument_words f) f.named slots (sts_of x) h out again (length c.pass_unless.new.code.items)) c.deref-in-If-3.ensures.value)
    c.in_ok-jump-in-If.ensures
    (c.in_ok-emit_stmts-in-If-2.ensures ∙ ap (λ x. c.jump.new.code.items ++ sts_code p (argument_words f) f.named slots (sts_of x) h out again (length c.jump.new.code.items)) c.deref-in-If-4.ensures.value))

pub emit_stmt-returns-in_ok-put-in-For : goal.emit_stmt-returns-in_ok-put-in-For
emit_stmt-returns-in_ok-put-in-For t c =
    let p = program_of c.args.program.now in let f = func_in c.args.program.now c.args.func.now in let slots = slots_in c.args.program.now c.args.frame.now in let h = c.args.h in
    let v = c.in-For in let g = c.in_ok-inner-in-For.inner in
    let shape : st_of c.args.s.now ≡ for_stmt (site_numbers v.sites.items) (test_of v.test) (sts_of v.post.items) (sts_of v.body.items) = grind (arith, stmt_rows) in
    let start : c.in_ok-start.start ≡ length c.args.code.now.items = omega (arith, c.in_ok-start.ensures) in
    rw shape (loop_emitted p (argument_words f) f.named slots c.args.code.now.items _ _ _ _ _ (site_numbers v.sites.items) (test_of v.test) (sts_of v.post.items) (sts_of v.body.items) _ g.again g.out h c.args.goals.out c.args.goals.again start
    (c.in_ok-inner-in-For.ensures.again ∙ ap (λ x. c.in_ok-start.start + test_size p (test_of v.test) + sts_size p (argument_words f) f.named (sts_of x)) c.deref-in-For-3.ensures.value)
    (c.in_ok-inner-in-For.ensures.out ∙ ap (λ x. g.again + renew_size (site_numbers x) + sts_size p (argument_words f) f.named (sts_of c.deref-in-For-2.result.now) + 1) c.deref-in-For.ensures.value
    ∙ ap (λ x. g.again + renew_size (site_numbers v.sites.items) + sts_size p (argument_words f) f.named (sts_of x) + 1) c.deref-in-For-2.ensures.value)
    c.in_ok-emit_test-in-For.ensures
    (c.in_ok-emit_stmts-in-For.ensures ∙ ap (λ x. c.emit_test.new.code.items ++ sts_code p (argument_words f) f.named slots (sts_of x) h g.out g.again (length c.emit_test.new.code.items)) c.deref-in-For-4.ensures.value)
    (c.in_ok-emit_renewal-in-For.ensures ∙ ap (λ x. c.emit_stmts-in-For.new.code.items ++ renew_code slots (site_numbers x) h) c.deref-in-For-5.ensures.value)
    (c.in_ok-emit_stmts-in-For-2.ensures ∙ ap (λ x. c.emit_renewal.new.code.items ++ sts_code p (argument_words f) f.named slots (sts_of x) h g.out g.again (length c.emit_renewal.new.code.items)) c.deref-in-For-6.ensures.value)
    c.in_ok-put-in-For.ensures)

pub emit_count-returns : goal.emit_count-returns
emit_count-returns t c =
    let p = program_of c.args.program.now in let f = func_in c.args.program.now c.args.func.now in let slots = slots_in c.args.program.now c.args.frame.now in let g = c.in_ok-inner.inner in
    let start : c.in_ok-start.start ≡ length c.args.code.now.items = omega (arith, c.in_ok-start.ensures) in
    count_emitted p (argument_words f) f.named slots c.args.code.now.items _ _ _ _ _ (ex_of c.args.e.now) (left_of c.args.key.now) blank (sts_of c.args.body.now) _ _ g.again g.out c.args.h 0 0 start
    c.in_ok-test.ensures c.in_ok-inner.ensures.again c.in_ok-inner.ensures.out
    c.in_ok-emit_count_start.ensures c.in_ok-emit_count_test.ensures c.in_ok-emit_key.ensures c.in_ok-emit_stmts.ensures c.in_ok-emit_turn.ensures

pub emit_indices-returns : goal.emit_indices-returns
emit_indices-returns t c =
    let p = program_of c.args.program.now in let f = func_in c.args.program.now c.args.func.now in let slots = slots_in c.args.program.now c.args.frame.now in let g = c.in_ok-inner.inner in
    let start : c.in_ok-start.start ≡ length c.args.code.now.items = omega (arith, c.in_ok-start.ensures) in
    indices_emitted p (argument_words f) f.named slots c.args.code.now.items _ _ _ _ (left_of c.args.key.now) blank (sts_of c.args.body.now) c.args.count c.in_ok-start.start _ g.again g.out c.args.h 0 0 start
    c.in_ok-plus.ensures
    (c.in_ok-inner.ensures.again ∙ ap (λ n. c.in_ok-start.start + 4 + n + sts_size p (argument_words f) f.named (sts_of c.args.body.now)) c.in_ok-key_len.ensures)
    c.in_ok-inner.ensures.out
    c.in_ok-emit_array_start.ensures c.in_ok-emit_key.ensures c.in_ok-emit_stmts.ensures c.in_ok-emit_turn.ensures

pub emit_slice_range-returns : goal.emit_slice_range-returns
emit_slice_range-returns t c =
    let p = program_of c.args.program.now in let f = func_in c.args.program.now c.args.func.now in let slots = slots_in c.args.program.now c.args.frame.now in let g = c.in_ok-inner.inner in
    let start : c.in_ok-start.start ≡ length c.args.code.now.items = omega (arith, c.in_ok-start.ensures) in
    slices_emitted p (argument_words f) f.named slots c.args.code.now.items _ _ _ _ _ (ex_of c.args.e.now) (left_of c.args.key.now) (left_of c.args.value.now) (sts_of c.args.body.now) c.args.type_id.0 _ _ g.again g.out c.args.h 0 0 start
    c.in_ok-test.ensures c.in_ok-inner.ensures.again c.in_ok-inner.ensures.out
    c.in_ok-emit_slice_start.ensures c.in_ok-emit_slice_test.ensures c.in_ok-emit_slice_round.ensures c.in_ok-emit_stmts.ensures c.in_ok-emit_turn.ensures

pub emit_stmt-returns-in_ok-emit_slice_range-in-SliceElements : goal.emit_stmt-returns-in_ok-emit_slice_range-in-SliceElements
emit_stmt-returns-in_ok-emit_slice_range-in-SliceElements t c =
    let p = program_of c.args.program.now in let f = func_in c.args.program.now c.args.func.now in let slots = slots_in c.args.program.now c.args.frame.now in let v = c.in-SliceElements in
    let shape : st_of c.args.s.now ≡ range (over_slice (ex_of v.e) v.type_id.0) (left_of v.key) (left_of v.value) (sts_of v.body.items) = grind (arith, stmt_rows) in
    rw shape (c.in_ok-emit_slice_range-in-SliceElements.ensures
    ∙ ap (λ x. c.args.code.now.items ++ st_code p (argument_words f) f.named slots (range (over_slice (ex_of v.e) v.type_id.0) (left_of v.key) (left_of v.value) (sts_of x)) c.args.h 0 0 (length c.args.code.now.items)) c.deref-in-SliceElements.ensures.value)

pub emit_stmt-returns-in_ok-emit_count-in-Count : goal.emit_stmt-returns-in_ok-emit_count-in-Count
emit_stmt-returns-in_ok-emit_count-in-Count t c =
    let p = program_of c.args.program.now in let f = func_in c.args.program.now c.args.func.now in let slots = slots_in c.args.program.now c.args.frame.now in let v = c.in-Count in
    let shape : st_of c.args.s.now ≡ range (over_int (ex_of v.e)) (left_of v.key) blank (sts_of v.body.items) = grind (arith, stmt_rows) in
    rw shape (c.in_ok-emit_count-in-Count.ensures
    ∙ ap (λ x. c.args.code.now.items ++ st_code p (argument_words f) f.named slots (range (over_int (ex_of v.e)) (left_of v.key) blank (sts_of x)) c.args.h 0 0 (length c.args.code.now.items)) c.deref-in-Count.ensures.value)

pub emit_stmt-returns-in_ok-emit_indices-in-Indices : goal.emit_stmt-returns-in_ok-emit_indices-in-Indices
emit_stmt-returns-in_ok-emit_indices-in-Indices t c =
    let p = program_of c.args.program.now in let f = func_in c.args.program.now c.args.func.now in let slots = slots_in c.args.program.now c.args.frame.now in let v = c.in-Indices in
    let shape : st_of c.args.s.now ≡ range (over_length v.count) (left_of v.key) blank (sts_of v.body.items) = grind (arith, stmt_rows) in
    rw shape (c.in_ok-emit_indices-in-Indices.ensures
    ∙ ap (λ x. c.args.code.now.items ++ st_code p (argument_words f) f.named slots (range (over_length v.count) (left_of v.key) blank (sts_of x)) c.args.h 0 0 (length c.args.code.now.items)) c.deref-in-Indices.ensures.value)

pub emit_stmt-returns-in_ok-emit_turn-in-Elements : goal.emit_stmt-returns-in_ok-emit_turn-in-Elements
emit_stmt-returns-in_ok-emit_turn-in-Elements t c =
    let p = program_of c.args.program.now in let f = func_in c.args.program.now c.args.func.now in let slots = slots_in c.args.program.now c.args.frame.now in let h = c.args.h in
    let v = c.in-Elements in let g = c.in_ok-inner-in-Elements.inner in
    let shape : st_of c.args.s.now ≡ range (over_copy v.site.0 (ex_of v.e) v.count) (left_of v.key) (left_of v.value) (sts_of v.body.items) = grind (arith, stmt_rows) in
    let start : c.in_ok-start.start ≡ length c.args.code.now.items = omega (arith, c.in_ok-start.ensures) in
    let begin = c.in_ok-begin-in-Elements.begin in
    rw shape (elements_emitted p (argument_words f) f.named slots c.args.code.now.items _ _ _ _ _ v.site.0 (ex_of v.e) (left_of v.key) (left_of v.value) (sts_of v.body.items) v.count c.in_ok-start.start begin _ g.again g.out h
    c.args.goals.out c.args.goals.again start c.in_ok-begin-in-Elements.ensures c.in_ok-plus-in-Elements.ensures
    (c.in_ok-inner-in-Elements.ensures.again
    ∙ ap (λ n. begin + 4 + n + sts_size p (argument_words f) f.named (sts_of c.deref-in-Elements.result.now)) c.in_ok-round-in-Elements.ensures
    ∙ ap (λ x. begin + 4 + element_round_size p (left_of v.key) (left_of v.value) + sts_size p (argument_words f) f.named (sts_of x)) c.deref-in-Elements.ensures.value)
    c.in_ok-inner-in-Elements.ensures.out
    c.in_ok-emit_copy-in-Elements.ensures c.in_ok-emit_array_start-in-Elements.ensures c.in_ok-emit_pair-in-Elements.ensures
    (c.in_ok-emit_stmts-in-Elements.ensures
    ∙ ap (λ x. c.emit_pair.new.code.items ++ sts_code p (argument_words f) f.named slots (sts_of x) (h + 1) g.out g.again (length c.emit_pair.new.code.items)) c.deref-in-Elements-2.ensures.value)
    c.in_ok-emit_turn-in-Elements.ensures)

pub emit_stmt-returns-in_ok-emit_turn-in-PointedElements : goal.emit_stmt-returns-in_ok-emit_turn-in-PointedElements
emit_stmt-returns-in_ok-emit_turn-in-PointedElements t c =
    let p = program_of c.args.program.now in let f = func_in c.args.program.now c.args.func.now in let slots = slots_in c.args.program.now c.args.frame.now in let h = c.args.h in
    let v = c.in-PointedElements in let g = c.in_ok-inner-in-PointedElements.inner in
    let shape : st_of c.args.s.now ≡ range (over_pointer (position v.field-0) (ex_of v.e) v.count v.type_id.0) (left_of v.key) (left_of v.value) (sts_of v.body.items) = grind (arith, stmt_rows) in
    let start : c.in_ok-start.start ≡ length c.args.code.now.items = omega (arith, c.in_ok-start.ensures) in
    let begin = c.in_ok-begin-in-PointedElements.begin in
    rw shape (pointed_emitted p (argument_words f) f.named slots c.args.code.now.items _ _ _ _ _ (position v.field-0) (ex_of v.e) (left_of v.key) (left_of v.value) (sts_of v.body.items) v.count v.type_id.0 c.in_ok-start.start begin _ g.again g.out h
    c.args.goals.out c.args.goals.again start
    (c.in_ok-begin-in-PointedElements.ensures ∙ ap (λ n. c.in_ok-start.start + n) c.in_ok-expr_len-in-PointedElements.ensures)
    c.in_ok-plus-in-PointedElements.ensures
    (c.in_ok-inner-in-PointedElements.ensures.again
    ∙ ap (λ n. begin + 4 + n + sts_size p (argument_words f) f.named (sts_of c.deref-in-PointedElements.result.now)) c.in_ok-round-in-PointedElements.ensures
    ∙ ap (λ x. begin + 4 + pointed_round_size p (left_of v.key) (left_of v.value) + sts_size p (argument_words f) f.named (sts_of x)) c.deref-in-PointedElements.ensures.value)
    c.in_ok-inner-in-PointedElements.ensures.out
    c.in_ok-emit_expr-in-PointedElements.ensures c.in_ok-emit_array_start-in-PointedElements.ensures c.in_ok-emit_pointed_pair-in-PointedElements.ensures
    (c.in_ok-emit_stmts-in-PointedElements.ensures
    ∙ ap (λ x. c.emit_pointed_pair.new.code.items ++ sts_code p (argument_words f) f.named slots (sts_of x) (h + 2) g.out g.again (length c.emit_pointed_pair.new.code.items)) c.deref-in-PointedElements-2.ensures.value)
    c.in_ok-emit_turn-in-PointedElements.ensures)

pub emit_stmt-returns-in_ok-emit_indices-in-PointedIndices : goal.emit_stmt-returns-in_ok-emit_indices-in-PointedIndices
emit_stmt-returns-in_ok-emit_indices-in-PointedIndices t c =
    let p = program_of c.args.program.now in let f = func_in c.args.program.now c.args.func.now in let slots = slots_in c.args.program.now c.args.frame.now in let v = c.in-PointedIndices in
    let old = c.args.code.now.items in
    let shape : st_of c.args.s.now ≡ range (over_pointed v.count) (left_of v.key) blank (sts_of v.body.items) = grind (arith, stmt_rows) in
    rw shape (c.in_ok-emit_indices-in-PointedIndices.ensures
    ∙ ap (λ x. old ++ st_code p (argument_words f) f.named slots (range (over_length v.count) (left_of v.key) blank (sts_of x)) (c.args.h + 1) 0 0 (length old)) c.deref-in-PointedIndices.ensures.value
    ∙ ap (λ is. old ++ is) (pointed_indices p (argument_words f) f.named slots (left_of v.key) blank (sts_of v.body.items) v.count c.args.h 0 0 (length old)))

-- the last of the things that fit a `range` over elements
last_fits : {A B C D E F G H I J K : Type 0} → A × B × C × D × E × F × G × H × I × J × K → K
last_fits (a, b, c, d, e, f, g, h, i, j, k) = k

-- what is asked where statements inside are told by a slice
pub emit_stmt-emit_stmts-requires : goal.emit_stmt-emit_stmts-requires
emit_stmt-emit_stmts-requires t c =
    let p = program_of c.args.program.now in let f = func_in c.args.program.now c.args.func.now in let slots = slots_in c.args.program.now c.args.frame.now in
    let n = c.args.frame.now.sites in let h = c.args.h in
    let v = c.in-Block in
    let shape : st_of c.args.s.now ≡ block (sts_of v.ss.items) = grind (arith, stmt_rows) in
    let fits = subst (λ (x : St). StFitsIn p slots n (result_words f) f.named h x) shape c.requires.fits in
    let body = subst (λ (xs : List Stmt). StsFitIn p slots n (result_words f) f.named (h) (sts_of xs)) (sym c.deref-in-Block.ensures.value) (fits) in
    (search (rules, stmt_rows), (body, (c.requires.returns, c.requires.frame)))

pub emit_stmt-emit_stmts-requires-in-If : goal.emit_stmt-emit_stmts-requires-in-If
emit_stmt-emit_stmts-requires-in-If t c =
    let p = program_of c.args.program.now in let f = func_in c.args.program.now c.args.func.now in let slots = slots_in c.args.program.now c.args.frame.now in
    let n = c.args.frame.now.sites in let h = c.args.h in
    let v = c.in-If in
    let shape : st_of c.args.s.now ≡ if_stmt (ex_of v.e) (sts_of v.a.items) (sts_of v.b.items) = grind (arith, stmt_rows) in
    let fits = subst (λ (x : St). StFitsIn p slots n (result_words f) f.named h x) shape c.requires.fits in
    let body = subst (λ (xs : List Stmt). StsFitIn p slots n (result_words f) f.named (h) (sts_of xs)) (sym c.deref-in-If-3.ensures.value) (fits.2) in
    (search (rules, stmt_rows), (body, (c.requires.returns, c.requires.frame)))

pub emit_stmt-emit_stmts-requires-in-If-2 : goal.emit_stmt-emit_stmts-requires-in-If-2
emit_stmt-emit_stmts-requires-in-If-2 t c =
    let p = program_of c.args.program.now in let f = func_in c.args.program.now c.args.func.now in let slots = slots_in c.args.program.now c.args.frame.now in
    let n = c.args.frame.now.sites in let h = c.args.h in
    let v = c.in-If in
    let shape : st_of c.args.s.now ≡ if_stmt (ex_of v.e) (sts_of v.a.items) (sts_of v.b.items) = grind (arith, stmt_rows) in
    let fits = subst (λ (x : St). StFitsIn p slots n (result_words f) f.named h x) shape c.requires.fits in
    let body = subst (λ (xs : List Stmt). StsFitIn p slots n (result_words f) f.named (h) (sts_of xs)) (sym c.deref-in-If-4.ensures.value) (fits.3) in
    (search (rules, stmt_rows), (body, (c.requires.returns, c.requires.frame)))

pub emit_stmt-emit_stmts-requires-in-For : goal.emit_stmt-emit_stmts-requires-in-For
emit_stmt-emit_stmts-requires-in-For t c =
    let p = program_of c.args.program.now in let f = func_in c.args.program.now c.args.func.now in let slots = slots_in c.args.program.now c.args.frame.now in
    let n = c.args.frame.now.sites in let h = c.args.h in
    let v = c.in-For in
    let shape : st_of c.args.s.now ≡ for_stmt (site_numbers v.sites.items) (test_of v.test) (sts_of v.post.items) (sts_of v.body.items) = grind (arith, stmt_rows) in
    let fits = subst (λ (x : St). StFitsIn p slots n (result_words f) f.named h x) shape c.requires.fits in
    let body = subst (λ (xs : List Stmt). StsFitIn p slots n (result_words f) f.named (h) (sts_of xs)) (sym c.deref-in-For-4.ensures.value) (fits.4) in
    (search (rules, stmt_rows), (body, (c.requires.returns, c.requires.frame)))

pub emit_stmt-emit_stmts-requires-in-For-2 : goal.emit_stmt-emit_stmts-requires-in-For-2
emit_stmt-emit_stmts-requires-in-For-2 t c =
    let p = program_of c.args.program.now in let f = func_in c.args.program.now c.args.func.now in let slots = slots_in c.args.program.now c.args.frame.now in
    let n = c.args.frame.now.sites in let h = c.args.h in
    let v = c.in-For in
    let shape : st_of c.args.s.now ≡ for_stmt (site_numbers v.sites.items) (test_of v.test) (sts_of v.post.items) (sts_of v.body.items) = grind (arith, stmt_rows) in
    let fits = subst (λ (x : St). StFitsIn p slots n (result_words f) f.named h x) shape c.requires.fits in
    let body = subst (λ (xs : List Stmt). StsFitIn p slots n (result_words f) f.named (h) (sts_of xs)) (sym c.deref-in-For-6.ensures.value) (fits.3) in
    (search (rules, stmt_rows), (body, (c.requires.returns, c.requires.frame)))

pub emit_stmt-emit_count-requires : goal.emit_stmt-emit_count-requires
emit_stmt-emit_count-requires t c =
    let p = program_of c.args.program.now in let f = func_in c.args.program.now c.args.func.now in let slots = slots_in c.args.program.now c.args.frame.now in
    let n = c.args.frame.now.sites in let h = c.args.h in
    let v = c.in-Count in
    let shape : st_of c.args.s.now ≡ range (over_int (ex_of v.e)) (left_of v.key) blank (sts_of v.body.items) = grind (arith, stmt_rows) in
    let fits = subst (λ (x : St). StFitsIn p slots n (result_words f) f.named h x) shape c.requires.fits in
    let round = subst (λ (xs : List Stmt). StFitsIn p slots n (result_words f) f.named h (range (over_int (ex_of v.e)) (left_of v.key) blank (sts_of xs))) (sym c.deref-in-Count.ensures.value) fits in
    (search (rules, stmt_rows), (round, (c.requires.returns, c.requires.frame)))

pub emit_stmt-emit_slice_range-requires : goal.emit_stmt-emit_slice_range-requires
emit_stmt-emit_slice_range-requires t c =
    let p = program_of c.args.program.now in let f = func_in c.args.program.now c.args.func.now in let slots = slots_in c.args.program.now c.args.frame.now in
    let n = c.args.frame.now.sites in let h = c.args.h in
    let v = c.in-SliceElements in
    let shape : st_of c.args.s.now ≡ range (over_slice (ex_of v.e) v.type_id.0) (left_of v.key) (left_of v.value) (sts_of v.body.items) = grind (arith, stmt_rows) in
    let fits = subst (λ (x : St). StFitsIn p slots n (result_words f) f.named h x) shape c.requires.fits in
    let round = subst (λ (xs : List Stmt). StFitsIn p slots n (result_words f) f.named h (range (over_slice (ex_of v.e) v.type_id.0) (left_of v.key) (left_of v.value) (sts_of xs))) (sym c.deref-in-SliceElements.ensures.value) fits in
    (search (rules, stmt_rows), (round, (c.requires.returns, c.requires.frame)))

pub emit_stmt-emit_indices-requires : goal.emit_stmt-emit_indices-requires
emit_stmt-emit_indices-requires t c =
    let p = program_of c.args.program.now in let f = func_in c.args.program.now c.args.func.now in let slots = slots_in c.args.program.now c.args.frame.now in
    let n = c.args.frame.now.sites in let h = c.args.h in
    let v = c.in-Indices in
    let shape : st_of c.args.s.now ≡ range (over_length v.count) (left_of v.key) blank (sts_of v.body.items) = grind (arith, stmt_rows) in
    let fits = subst (λ (x : St). StFitsIn p slots n (result_words f) f.named h x) shape c.requires.fits in
    let round = subst (λ (xs : List Stmt). StFitsIn p slots n (result_words f) f.named h (range (over_length v.count) (left_of v.key) blank (sts_of xs))) (sym c.deref-in-Indices.ensures.value) fits in
    (search (rules, stmt_rows), (round, (c.requires.returns, c.requires.frame)))

pub emit_stmt-emit_stmts-requires-in-Elements : goal.emit_stmt-emit_stmts-requires-in-Elements
emit_stmt-emit_stmts-requires-in-Elements t c =
    let p = program_of c.args.program.now in let f = func_in c.args.program.now c.args.func.now in let slots = slots_in c.args.program.now c.args.frame.now in
    let n = c.args.frame.now.sites in let h = c.args.h in
    let v = c.in-Elements in
    let shape : st_of c.args.s.now ≡ range (over_copy v.site.0 (ex_of v.e) v.count) (left_of v.key) (left_of v.value) (sts_of v.body.items) = grind (arith, stmt_rows) in
    let fits = subst (λ (x : St). StFitsIn p slots n (result_words f) f.named h x) shape c.requires.fits in
    let body = subst (λ (xs : List Stmt). StsFitIn p slots n (result_words f) f.named (h + 1) (sts_of xs)) (sym c.deref-in-Elements-2.ensures.value) (last_fits fits) in
    (search (rules, stmt_rows), (body, (c.requires.returns, c.requires.frame)))

pub emit_stmt-emit_stmts-requires-in-PointedElements : goal.emit_stmt-emit_stmts-requires-in-PointedElements
emit_stmt-emit_stmts-requires-in-PointedElements t c =
    let p = program_of c.args.program.now in let f = func_in c.args.program.now c.args.func.now in let slots = slots_in c.args.program.now c.args.frame.now in
    let n = c.args.frame.now.sites in let h = c.args.h in
    let v = c.in-PointedElements in
    let shape : st_of c.args.s.now ≡ range (over_pointer (position v.field-0) (ex_of v.e) v.count v.type_id.0) (left_of v.key) (left_of v.value) (sts_of v.body.items) = grind (arith, stmt_rows) in
    let fits = subst (λ (x : St). StFitsIn p slots n (result_words f) f.named h x) shape c.requires.fits in
    let body = subst (λ (xs : List Stmt). StsFitIn p slots n (result_words f) f.named (h + 2) (sts_of xs)) (sym c.deref-in-PointedElements-2.ensures.value) fits.8 in
    (search (rules, stmt_rows), (body, (c.requires.returns, c.requires.frame)))

pub emit_stmt-emit_indices-requires-in-PointedIndices : goal.emit_stmt-emit_indices-requires-in-PointedIndices
emit_stmt-emit_indices-requires-in-PointedIndices t c =
    let p = program_of c.args.program.now in let f = func_in c.args.program.now c.args.func.now in let slots = slots_in c.args.program.now c.args.frame.now in
    let n = c.args.frame.now.sites in let h = c.args.h in
    let v = c.in-PointedIndices in
    let shape : st_of c.args.s.now ≡ range (over_pointed v.count) (left_of v.key) blank (sts_of v.body.items) = grind (arith, stmt_rows) in
    let fits = pointed_fits p (argument_words f) f.named slots n (result_words f) h v.count (left_of v.key) blank (sts_of v.body.items) (subst (λ (x : St). StFitsIn p slots n (result_words f) f.named h x) shape c.requires.fits) in
    let round = subst (λ (xs : List Stmt). StFitsIn p slots n (result_words f) f.named (h + 1) (range (over_length v.count) (left_of v.key) blank (sts_of xs))) (sym c.deref-in-PointedIndices.ensures.value) fits in
    (search (rules, stmt_rows), (round, (c.requires.returns, c.requires.frame)))
