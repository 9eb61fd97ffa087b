use Rattle.std.proofs.lemmas.List.{take_rest}
use Rattle.std.proofs.Common.{◌≡◌, ◌+◌, ◌++◌, ◌∷◌, List, [], ◌∙◌, ◌-◌, rules, drop, take, length, sym, ap, subst, arith, true, false}
use Rattle.std.specs.Prelude.{◌||◌, if◌then◌else◌}
use Rattle.isa.specs.declared.instr.Instr.{Instr}
use Rattle.typed_syntax.specs.Types.{part_offset, part_type, width}
use Rattle.typed.proofs.Rows.{expr_rows}
use Rattle.typed_syntax.specs.Syntax.{Ex, Exs, local, global, indirect, slice_element, all_wide, append, append_slice, array_slicing, copy, make, slice_literal, slicing, value_widths, ascend, binary, logical_and, logical_or, gap_behind, literal, type_named, wide, words_through}
use Rattle.typed.specs.Positions.{position}
use Rattle.typed.specs.declared.expr.Element.{Element}
use Rattle.typed.specs.declared.expr.Expr.{Expr}
use Rattle.typed.specs.View.{bound_of, elements_of, ex_of, exs_of, exs_of_values, place_of, program_of, steps_of}
use Rattle.expression_code.specs.Frame.{slots_in}
use Rattle.expression_code.specs.Temps.{ElementsFitIn, ExsFitIn, Fits, StepsFitIn}
use Rattle.isa.specs.declared.instr.MoveEvent.TheVariants.{Silent}
use Rattle.isa.specs.declared.instr.Instr.TheVariants.{Move}
use Rattle.program_code.proofs.Sizes.{length_code}
use Rattle.program_code.specs.Code.{append_code, compared, elements_code, ex_code, exs_code, gap_code, is_nil, site_words, size, sliced_code, steps_code, steps_of as steps_in, temp, zeros}
use Rattle.expression_code.proofs.Elements.{literal_emitted, moved_emitted, moved_rest, number_of, ordered_emitted, ordered_rest, value_of, whole_is}
use Rattle.expression_code.proofs.SliceCodes.{array_slicing_emitted, both_operands, element_emitted, last_emitted, make_emitted, row_length, slicing_emitted, some_each}
use Rattle.expression_code.proofs.Steps.{code_inner, fits_index, fits_inner, step_emitted}
use Rattle.expression_code.proofs.Expressions.{binary_emitted, both_emitted, either_emitted, next_emitted, value_emitted, values_split}
use Rattle.expression_code.proofs.values.+values.Goals as goal
use Rattle.expression_code.proofs.values.+values.Goals.{emit_steps-in-Inner, emit_steps-in-Index+in_ok-emit_expr-in-Index}

pub emit_expr-returns-in_ok-emit_binary-in-Binary : goal.emit_expr-returns-in_ok-emit_binary-in-Binary
emit_expr-returns-in_ok-emit_binary-in-Binary t c =
    let p = program_of c.args.program.now in let a = ex_of c.deref-a-in-Binary.result.now in let b = ex_of c.deref-b.result.now in
    let shape : ex_of c.args.e.now ≡ binary (position c.in-Binary.field-0) c.in-Binary.op a b = grind (arith, expr_rows) in
    let words : c.compared.result ≡ compared p a b = c.compared.ensures ∙ ap (λ n. if is_nil a || is_nil b then 1 else n) c.in_ok-wide-in-Binary.ensures in
    rw shape (binary_emitted p (slots_in c.args.program.now c.args.frame.now) c.args.code.now.items _ _ _ _ a b c.args.h _ _ c.in_ok-wide-in-Binary.ensures words c.in_ok-emit_expr-in-Binary.ensures c.in_ok-emit_expr-in-Binary-2.ensures c.in_ok-emit_binary-in-Binary.ensures)

pub emit_expr-returns-in_ok-emit_expr-in-LogicalAnd-2 : goal.emit_expr-returns-in_ok-emit_expr-in-LogicalAnd-2
emit_expr-returns-in_ok-emit_expr-in-LogicalAnd-2 t c =
    let shape : ex_of c.args.e.now ≡ logical_and (ex_of c.deref-a-in-LogicalAnd.result.now) (ex_of c.deref-b-in-LogicalAnd.result.now) = grind (arith, expr_rows) in
    rw shape (both_emitted (program_of c.args.program.now) (slots_in c.args.program.now c.args.frame.now) c.args.code.now.items _ _ _ (ex_of c.deref-a-in-LogicalAnd.result.now) (ex_of c.deref-b-in-LogicalAnd.result.now) c.args.h c.in_ok-emit_expr-in-LogicalAnd.ensures c.in_ok-pass_both-in-LogicalAnd.ensures c.in_ok-emit_expr-in-LogicalAnd-2.ensures)

pub emit_expr-returns-in_ok-emit_expr-in-LogicalOr-2 : goal.emit_expr-returns-in_ok-emit_expr-in-LogicalOr-2
emit_expr-returns-in_ok-emit_expr-in-LogicalOr-2 t c =
    let shape : ex_of c.args.e.now ≡ logical_or (ex_of c.deref-a-in-LogicalOr.result.now) (ex_of c.deref-b-in-LogicalOr.result.now) = grind (arith, expr_rows) in
    rw shape (either_emitted (program_of c.args.program.now) (slots_in c.args.program.now c.args.frame.now) c.args.code.now.items _ _ _ (ex_of c.deref-a-in-LogicalOr.result.now) (ex_of c.deref-b-in-LogicalOr.result.now) c.args.h c.in_ok-emit_expr-in-LogicalOr.ensures c.in_ok-pass_either-in-LogicalOr.ensures c.in_ok-emit_expr-in-LogicalOr-2.ensures)

pub emit_row-loop-e-preserved : goal.emit_row-loop-e-preserved
emit_row-loop-e-preserved t c =
    let p = program_of c.args.program.now in let slots = slots_in c.args.program.now c.args.frame.now in let es = c.args.es.now in let i = c.loop-e.e-index in let x = c.e-item.result in
    let after : c.loop-e.next + c.in_ok-next.field-0 ≡ c.loop-e.next + wide p (ex_of x) = ap (λ k. c.loop-e.next + k) c.in_ok-next.ensures in (
      value_emitted p slots _ _ _ es i x c.loop-e.next _ c.loop-e-test.true c.e-item.is after c.loop-e.invariant.0 c.in_ok-emit_expr.ensures,
      subst (λ k. ExsFitIn p slots c.args.frame.now.sites k (exs_of (drop (i + 1) es))) (sym after) (values_split p slots c.args.frame.now.sites es i x c.loop-e.next c.loop-e-test.true c.e-item.is c.loop-e.invariant.1).2,
    )

pub emit_expr-returns-in_ok-emit_ordered-in-Literal : goal.emit_expr-returns-in_ok-emit_ordered-in-Literal
emit_expr-returns-in_ok-emit_ordered-in-Literal t c =
    let p = program_of c.args.program.now in let slots = slots_in c.args.program.now c.args.frame.now in let h = c.args.h in let old = c.args.code.now.items in
    let v = c.in-Literal in let es = elements_of v.es.items in let type = type_named p v.id.0 in let begun = c.put-in-Literal.new.code.items in
    let shape : ex_of c.args.e.now ≡ literal v.id.0 es = grind (arith, expr_rows) in
    let order : ascend es ≡ true = ap (λ xs. ascend (elements_of xs)) (sym c.deref.ensures.value) ∙ sym c.ascends.ensures ∙ c.if-ascends.true in
    let zero : c.zeros.result ≡ zeros (width type) (temp slots h) = c.zeros.ensures ∙ ap (λ n. zeros n c.temp-in-Literal.result) c.width.ensures ∙ ap (zeros (width type)) c.temp-in-Literal.ensures in
    rw shape (literal_emitted p slots old _ _ v.id.0 es h (c.in_ok-put-in-Literal.ensures ∙ ap (λ (i : Instr). old ++ i ∷ []) zero)
    (c.in_ok-emit_ordered-in-Literal.ensures ∙ ap (λ xs. begun ++ elements_code p slots type true (elements_of xs) h (length begun)) c.deref-then-ascends.ensures.value
    ∙ ap (λ b. begun ++ elements_code p slots type b es h (length begun)) (sym order)))

pub emit_expr-returns-in_ok-emit_moved-in-Literal : goal.emit_expr-returns-in_ok-emit_moved-in-Literal
emit_expr-returns-in_ok-emit_moved-in-Literal t c =
    let p = program_of c.args.program.now in let slots = slots_in c.args.program.now c.args.frame.now in let h = c.args.h in let old = c.args.code.now.items in
    let v = c.in-Literal in let es = elements_of v.es.items in let type = type_named p v.id.0 in let begun = c.put-in-Literal.new.code.items in
    let shape : ex_of c.args.e.now ≡ literal v.id.0 es = grind (arith, expr_rows) in
    let order : ascend es ≡ false = ap (λ xs. ascend (elements_of xs)) (sym c.deref.ensures.value) ∙ sym c.ascends.ensures ∙ c.if-ascends.false in
    let zero : c.zeros.result ≡ zeros (width type) (temp slots h) = c.zeros.ensures ∙ ap (λ n. zeros n c.temp-in-Literal.result) c.width.ensures ∙ ap (zeros (width type)) c.temp-in-Literal.ensures in
    rw shape (literal_emitted p slots old _ _ v.id.0 es h (c.in_ok-put-in-Literal.ensures ∙ ap (λ (i : Instr). old ++ i ∷ []) zero)
    (c.in_ok-emit_moved-in-Literal.ensures ∙ ap (λ xs. begun ++ elements_code p slots type false (elements_of xs) h (length begun)) c.deref-else-ascends.ensures.value
    ∙ ap (λ b. begun ++ elements_code p slots type b es h (length begun)) (sym order)))

pub emit_moved-loop-element-preserved : goal.emit_moved-loop-element-preserved
emit_moved-loop-element-preserved t c =
    let p = program_of c.args.program.now in let slots = slots_in c.args.program.now c.args.frame.now in let type = type_named p c.args.id.0 in let es = c.args.es.now in let i = c.loop-element.element-index in
    let x = c.element-item.result in let l = c.loop-element-test.true in let is = c.element-item.is in let inv = c.loop-element.invariant in
    let from : c.args.h + c.width.result ≡ c.args.h + width type = ap (λ n. c.args.h + n) c.width.ensures in
    let value : c.emit_expr.new.code.items ≡ c.loop-element.code.items ++ ex_code p slots (ex_of (value_of x)) (c.args.h + c.width.result) (length c.loop-element.code.items) = search rules in
    let put : c.put.new.code.items ≡ c.emit_expr.new.code.items ++ Move Silent (temp slots (c.args.h + part_offset type (number_of x))) (temp slots (c.args.h + c.width.result)) (width (part_type type (number_of x))) ∷ [] = search rules in (
      moved_emitted p slots type es i x (number_of x) (value_of x) l is _ c.loop-element.code.items _ _ c.args.h _ from inv.0 value put (whole_is x),
      moved_rest p slots type es i c.args.frame.now.sites c.args.h x l is inv.1,
    )

pub emit_ordered-loop-i-preserved : goal.emit_ordered-loop-i-preserved
emit_ordered-loop-i-preserved t c =
    let p = program_of c.args.program.now in let slots = slots_in c.args.program.now c.args.frame.now in let type = type_named p c.args.id.0 in let es = c.args.es.now in let i = c.loop-i.i in
    let x = c.index-es-i.result in let l = c.loop-i-test.true in let is = c.index-es-i.is in let inv = c.loop-i.invariant in
    let place : c.args.h + c.part_offset.result ≡ c.args.h + part_offset type (number_of x) = search rules in
    let value : c.emit_expr.new.code.items ≡ c.loop-i.code.items ++ ex_code p slots (ex_of (value_of x)) (c.args.h + c.part_offset.result) (length c.loop-i.code.items) = search rules in
    let gap : c.emit_gap.new.code.items ≡ c.emit_expr.new.code.items ++ gap_code (gap_behind type (number_of x) (elements_of (take (length es - (i + 1)) (drop (i + 1) es)))) (temp slots (c.args.h + words_through type (number_of x))) = search rules in (
      ordered_emitted p slots type es i x (number_of x) (value_of x) l is _ c.loop-i.code.items _ _ _ c.args.h _ (take_rest es (i + 1)) place inv.0 value gap (whole_is x),
      ordered_rest p slots type es i c.args.frame.now.sites c.args.h x l is inv.1,
    )

pub emit_steps-loop-step-preserved : goal.emit_steps-loop-step-preserved
emit_steps-loop-step-preserved t c =
    let p = program_of c.args.program.now in let slots = slots_in c.args.program.now c.args.frame.now in let steps = c.args.steps.now in let i = c.loop-step.step-index in let x = c.step-item.result in
    let h = c.loop-step.next in let code = c.loop-step.code.items in let l = c.loop-step-test.true in let is = c.step-item.is in let inv = c.loop-step.invariant in
    elim c.match-step.branch [
      | emit_steps-in-Inner w ↦
          let k = w.in-Inner.field-0 in
          rw (w.code-is, w.next-is) (
            inv.0 ∙ ap (λ y. code ++ y) (code_inner steps i x l is k w.in-Inner.is p slots h (length code)),
            fits_inner steps i x l is k w.in-Inner.is p slots c.args.frame.now.sites h inv.1,
          )
      | emit_steps-in-Index+in_ok-emit_expr-in-Index w ↦
          let v = w.in-Index in
          rw (w.code-is, w.next-is) (
            step_emitted steps i x l is v.field-0 v.e v.field-2 v.is p slots _ code _ h inv.0 w.in_ok-emit_expr-in-Index.ensures,
            (fits_index steps i x l is v.field-0 v.e v.field-2 v.is p slots c.args.frame.now.sites h inv.1).1.2,
          )
    ]

-- what is asked where a row, the elements of a literal or the steps of a place are told by a slice
pub emit_expr-emit_ordered-requires : goal.emit_expr-emit_ordered-requires
emit_expr-emit_ordered-requires t c =
    let p = program_of c.args.program.now in let slots = slots_in c.args.program.now c.args.frame.now in let n = c.args.frame.now.sites in let h = c.args.h in
    let v = c.in-Literal in let es = elements_of v.es.items in let type = type_named p v.id.0 in
    let shape : ex_of c.args.e.now ≡ literal v.id.0 es = grind (arith, expr_rows) in
    let fits = subst (λ (e : Ex). Fits p slots n h e) shape c.requires.fits in
    let order : ascend es ≡ true = ap (λ xs. ascend (elements_of xs)) (sym c.deref.ensures.value) ∙ sym c.ascends.ensures ∙ c.if-ascends.true in
    (search (rules, expr_rows), (subst (λ (xs : List Element). ElementsFitIn p slots n h type true (elements_of xs)) (sym c.deref-then-ascends.ensures.value) (subst (λ b. ElementsFitIn p slots n h type b es) order fits.2), c.requires.frame))

pub emit_expr-emit_moved-requires : goal.emit_expr-emit_moved-requires
emit_expr-emit_moved-requires t c =
    let p = program_of c.args.program.now in let slots = slots_in c.args.program.now c.args.frame.now in let n = c.args.frame.now.sites in let h = c.args.h in
    let v = c.in-Literal in let es = elements_of v.es.items in let type = type_named p v.id.0 in
    let shape : ex_of c.args.e.now ≡ literal v.id.0 es = grind (arith, expr_rows) in
    let fits = subst (λ (e : Ex). Fits p slots n h e) shape c.requires.fits in
    let order : ascend es ≡ false = ap (λ xs. ascend (elements_of xs)) (sym c.deref.ensures.value) ∙ sym c.ascends.ensures ∙ c.if-ascends.false in
    (search (rules, expr_rows), (fits.1, (subst (λ (xs : List Element). ElementsFitIn p slots n h type false (elements_of xs)) (sym c.deref-else-ascends.ensures.value) (subst (λ b. ElementsFitIn p slots n h type b es) order fits.2), c.requires.frame)))

pub emit_values-emit_row-requires : goal.emit_values-emit_row-requires
emit_values-emit_row-requires t c =
    let p = program_of c.args.program.now in let slots = slots_in c.args.program.now c.args.frame.now in let n = c.args.frame.now.sites in let h = c.args.h in
    let shape : exs_of_values c.args.values.now ≡ exs_of c.in-Each.es.items = grind (arith, expr_rows) in
    (search (rules, expr_rows), (subst (λ (xs : List Expr). ExsFitIn p slots n h (exs_of xs)) (sym c.deref.ensures.value) (subst (λ (es : Exs). ExsFitIn p slots n h es) shape c.requires.fits), c.requires.frame))

-- slices: a header, and what it is made of above it
pub emit_expr-emit_row-requires : goal.emit_expr-emit_row-requires
emit_expr-emit_row-requires t c =
    let p = program_of c.args.program.now in let slots = slots_in c.args.program.now c.args.frame.now in let n = c.args.frame.now.sites in let h = c.args.h in
    let v = c.in-SliceLiteral in
    let shape : ex_of c.args.e.now ≡ slice_literal v.site.0 (exs_of v.es.items) = grind (arith, expr_rows) in
    (search (rules, expr_rows), (subst (λ (xs : List Expr). ExsFitIn p slots n (h + 3) (exs_of xs)) (sym c.deref-in-SliceLiteral-2.ensures.value) (subst (λ (e : Ex). Fits p slots n h e) shape c.requires.fits).1, c.requires.frame))

pub emit_expr-emit_row-requires-in-Append : goal.emit_expr-emit_row-requires-in-Append
emit_expr-emit_row-requires-in-Append t c =
    let p = program_of c.args.program.now in let slots = slots_in c.args.program.now c.args.frame.now in let n = c.args.frame.now.sites in let h = c.args.h in
    let v = c.in-Append in
    let shape : ex_of c.args.e.now ≡ append v.site.0 (ex_of c.deref-e-in-Append.result.now) (exs_of v.es.items) = grind (arith, expr_rows) in
    (search (rules, expr_rows), (subst (λ (xs : List Expr). ExsFitIn p slots n (h + 3) (exs_of xs)) (sym c.deref-in-Append.ensures.value) (subst (λ (e : Ex). Fits p slots n h e) shape c.requires.fits).3, c.requires.frame))

pub emit_expr-overflow_cast-len : goal.emit_expr-overflow_cast-len
emit_expr-overflow_cast-len t c =
    let p = program_of c.args.program.now in let slots = slots_in c.args.program.now c.args.frame.now in let n = c.args.frame.now.sites in let h = c.args.h in
    let v = c.in-Append in let es = exs_of v.es.items in
    let shape : ex_of c.args.e.now ≡ append v.site.0 (ex_of c.deref-e-in-Append.result.now) es = grind (arith, expr_rows) in
    let fits = subst (λ (e : Ex). Fits p slots n h e) shape c.requires.fits in let room = fits.0 in
    let count = c.len-in-Append.ensures ∙ v.es.ok.0 ∙ sym (row_length p v.es.items) in let few = some_each (length (value_widths p es)) (site_words slots v.site.0) fits.1 in
    omega (arith, room, count, few, c.requires.frame.0)

pub emit_expr-emit_cut-requires-in-ArraySlicing-clause-temp : goal.emit_expr-emit_cut-requires-in-ArraySlicing-clause-temp
emit_expr-emit_cut-requires-in-ArraySlicing-clause-temp t c =
    let p = program_of c.args.program.now in let slots = slots_in c.args.program.now c.args.frame.now in let n = c.args.frame.now.sites in let h = c.args.h in
    let v = c.in-ArraySlicing in
    let shape : ex_of c.args.e.now ≡ array_slicing (position v.field-0) (place_of v.place) v.count (bound_of v.low) (bound_of v.high) = grind (arith, expr_rows) in
    (subst (λ (e : Ex). Fits p slots n h e) shape c.requires.fits).0

pub emit_expr-returns-in_ok-emit_sliced-in-SliceLiteral : goal.emit_expr-returns-in_ok-emit_sliced-in-SliceLiteral
emit_expr-returns-in_ok-emit_sliced-in-SliceLiteral t c =
    let p = program_of c.args.program.now in let slots = slots_in c.args.program.now c.args.frame.now in let h = c.args.h in let old = c.args.code.now.items in
    let v = c.in-SliceLiteral in let es = exs_of v.es.items in let begun = c.emit_row.new.code.items in
    let shape : ex_of c.args.e.now ≡ slice_literal v.site.0 es = grind (arith, expr_rows) in
    let count : c.len.result ≡ length (value_widths p es) = c.len.ensures ∙ v.es.ok.0 ∙ sym (row_length p v.es.items) in
    let words : c.in_ok-words-in-SliceLiteral.field-0 ≡ all_wide p es = c.in_ok-words-in-SliceLiteral.ensures ∙ ap (λ xs. all_wide p (exs_of xs)) c.deref-in-SliceLiteral.ensures.value in
    rw shape (last_emitted old begun _ (exs_code p slots es (h + 3) (length old)) (sliced_code slots v.site.0 (length (value_widths p es)) (all_wide p es) h)
    (c.in_ok-emit_row-in-SliceLiteral.ensures ∙ ap (λ xs. old ++ exs_code p slots (exs_of xs) (h + 3) (length old)) c.deref-in-SliceLiteral-2.ensures.value)
    (c.in_ok-emit_sliced-in-SliceLiteral.ensures ∙ ap (λ k. begun ++ sliced_code slots v.site.0 k c.in_ok-words-in-SliceLiteral.field-0 h) count
    ∙ ap (λ k. begun ++ sliced_code slots v.site.0 (length (value_widths p es)) k h) words))

pub emit_expr-returns-in_ok-put-in-Make : goal.emit_expr-returns-in_ok-put-in-Make
emit_expr-returns-in_ok-put-in-Make t c =
    let p = program_of c.args.program.now in let slots = slots_in c.args.program.now c.args.frame.now in let h = c.args.h in let old = c.args.code.now.items in
    let v = c.in-Make in let count = ex_of c.deref-count.result.now in let room = bound_of v.room in let made = c.emit_room.new.code.items in
    let shape : ex_of c.args.e.now ≡ make (position v.field-0) v.site.0 count room = grind (arith, expr_rows) in
    rw shape (make_emitted p slots old c.emit_expr-in-Make.new.code.items c.emit_bound.new.code.items made _ (position v.field-0) v.site.0 count room h c.in_ok-emit_expr-in-Make.ensures c.in_ok-emit_bound-in-Make.ensures c.in_ok-emit_room-in-Make.ensures
    (c.in_ok-put-in-Make.ensures ∙ ap (λ (i : Instr). made ++ i ∷ []) c.made_array.ensures))

pub emit_expr-returns-in_ok-put-in-Append : goal.emit_expr-returns-in_ok-put-in-Append
emit_expr-returns-in_ok-put-in-Append t c =
    let p = program_of c.args.program.now in let slots = slots_in c.args.program.now c.args.frame.now in let h = c.args.h in let old = c.args.code.now.items in
    let v = c.in-Append in let e = ex_of c.deref-e-in-Append.result.now in let es = exs_of v.es.items in
    let first = c.emit_expr-in-Append.new.code.items in let begun = c.emit_row-in-Append.new.code.items in let last = append_code slots v.site.0 (length (value_widths p es)) h in
    let shape : ex_of c.args.e.now ≡ append v.site.0 e es = grind (arith, expr_rows) in
    let count : c.len-in-Append.result ≡ length (value_widths p es) = c.len-in-Append.ensures ∙ v.es.ok.0 ∙ sym (row_length p v.es.items) in
    rw shape (next_emitted old first _ (ex_code p slots e h (length old)) (λ pc. exs_code p slots es (h + 3) pc ++ last ∷ []) (size p e) c.in_ok-emit_expr-in-Append.ensures (length_code p slots e h (length old))
    (last_emitted first begun _ (exs_code p slots es (h + 3) (length first)) (last ∷ [])
    (c.in_ok-emit_row-in-Append.ensures ∙ ap (λ xs. first ++ exs_code p slots (exs_of xs) (h + 3) (length first)) c.deref-in-Append.ensures.value)
    (c.in_ok-put-in-Append.ensures ∙ ap (λ (i : Instr). begun ++ i ∷ []) (c.appended.ensures ∙ ap (λ k. append_code slots v.site.0 k h) count))))

pub emit_expr-returns-in_ok-put-in-AppendSlice : goal.emit_expr-returns-in_ok-put-in-AppendSlice
emit_expr-returns-in_ok-put-in-AppendSlice t c =
    let p = program_of c.args.program.now in let slots = slots_in c.args.program.now c.args.frame.now in let h = c.args.h in let old = c.args.code.now.items in
    let v = c.in-AppendSlice in let a = ex_of c.deref-a-in-AppendSlice.result.now in let b = ex_of c.deref-b-in-AppendSlice.result.now in let begun = c.emit_expr-in-AppendSlice-2.new.code.items in
    let shape : ex_of c.args.e.now ≡ append_slice v.site.0 a b = grind (arith, expr_rows) in
    rw shape (both_operands p slots old _ begun _ _ a b h (h + 3) c.in_ok-emit_expr-in-AppendSlice.ensures c.in_ok-emit_expr-in-AppendSlice-2.ensures (c.in_ok-put-in-AppendSlice.ensures ∙ ap (λ (i : Instr). begun ++ i ∷ []) c.joined.ensures))

pub emit_expr-returns-in_ok-put-in-Copy : goal.emit_expr-returns-in_ok-put-in-Copy
emit_expr-returns-in_ok-put-in-Copy t c =
    let p = program_of c.args.program.now in let slots = slots_in c.args.program.now c.args.frame.now in let h = c.args.h in let old = c.args.code.now.items in
    let v = c.in-Copy in let a = ex_of c.deref-a-in-Copy.result.now in let b = ex_of c.deref-b-in-Copy.result.now in let begun = c.emit_expr-in-Copy-2.new.code.items in
    let shape : ex_of c.args.e.now ≡ copy v.id.0 a b = grind (arith, expr_rows) in
    rw shape (both_operands p slots old _ begun _ _ a b h (h + 3) c.in_ok-emit_expr-in-Copy.ensures c.in_ok-emit_expr-in-Copy-2.ensures (c.in_ok-put-in-Copy.ensures ∙ ap (λ (i : Instr). begun ++ i ∷ []) c.copied.ensures))

pub emit_expr-returns-in_ok-emit_cut-in-Slicing : goal.emit_expr-returns-in_ok-emit_cut-in-Slicing
emit_expr-returns-in_ok-emit_cut-in-Slicing t c =
    let p = program_of c.args.program.now in let slots = slots_in c.args.program.now c.args.frame.now in let h = c.args.h in let old = c.args.code.now.items in
    let v = c.in-Slicing in let e = ex_of c.deref-e-in-Slicing.result.now in let low = bound_of v.low in let high = bound_of v.high in
    let shape : ex_of c.args.e.now ≡ slicing (position v.field-0) v.id.0 e low high = grind (arith, expr_rows) in
    rw shape (slicing_emitted p slots old _ _ _ _ (position v.field-0) v.id.0 e low high _ h c.width_at-w.ensures c.in_ok-emit_expr-in-Slicing.ensures c.in_ok-emit_bound-in-Slicing.ensures c.in_ok-emit_bound-in-Slicing-2.ensures c.in_ok-emit_cut-in-Slicing.ensures)

pub emit_expr-returns-in_ok-emit_cut-in-ArraySlicing : goal.emit_expr-returns-in_ok-emit_cut-in-ArraySlicing
emit_expr-returns-in_ok-emit_cut-in-ArraySlicing t c =
    let p = program_of c.args.program.now in let slots = slots_in c.args.program.now c.args.frame.now in let h = c.args.h in let old = c.args.code.now.items in
    let v = c.in-ArraySlicing in let q = place_of v.place in let low = bound_of v.low in let high = bound_of v.high in
    let shape : ex_of c.args.e.now ≡ array_slicing (position v.field-0) q v.count low high = grind (arith, expr_rows) in
    rw shape (array_slicing_emitted p slots old _ _ _ _ _ _ (position v.field-0) q v.count low high _ _ h c.above_operands-in-ArraySlicing.ensures c.element_words-w.ensures c.in_ok-emit_place-in-ArraySlicing.ensures
    c.in_ok-emit_pointing-in-ArraySlicing.ensures c.in_ok-emit_bound-in-ArraySlicing.ensures c.in_ok-emit_bound-in-ArraySlicing-2.ensures c.in_ok-emit_whole-in-ArraySlicing.ensures c.in_ok-emit_cut-in-ArraySlicing.ensures)

-- places: what they begin at, and their indices
pub emit_place-returns-in_ok-emit_place_steps-in-Indirect : goal.emit_place-returns-in_ok-emit_place_steps-in-Indirect
emit_place-returns-in_ok-emit_place_steps-in-Indirect t c =
    let p = program_of c.args.program.now in let slots = slots_in c.args.program.now c.args.frame.now in let h = c.args.h in let old = c.args.code.now.items in
    let v = c.in-Indirect in let e = ex_of c.deref-e.result.now in let steps = steps_of v.field-3.items in let begun = c.emit_expr.new.code.items in
    let shape : place_of c.args.place.now ≡ indirect (position v.field-0) e v.field-2.0 steps = grind (arith, expr_rows) in
    rw shape (next_emitted old begun _ (ex_code p slots e h (length old)) (λ pc. steps_code p slots steps (h + 1) pc) (size p e) c.in_ok-emit_expr-in-Indirect.ensures (length_code p slots e h (length old))
    (c.in_ok-emit_place_steps-in-Indirect.ensures ∙ ap (λ q. begun ++ steps_code p slots (steps_in q) (h + 1) (length begun)) shape))

pub emit_place-returns-in_ok-emit_place_steps-in-SliceElement : goal.emit_place-returns-in_ok-emit_place_steps-in-SliceElement
emit_place-returns-in_ok-emit_place_steps-in-SliceElement t c =
    let p = program_of c.args.program.now in let slots = slots_in c.args.program.now c.args.frame.now in let h = c.args.h in let old = c.args.code.now.items in
    let v = c.in-SliceElement in let e = ex_of c.deref-e-in-SliceElement.result.now in let i = ex_of c.deref-i.result.now in let steps = steps_of v.field-4.items in let begun = c.emit_expr-in-SliceElement-2.new.code.items in
    let shape : place_of c.args.place.now ≡ slice_element (position v.field-0) e i v.field-3.0 steps = grind (arith, expr_rows) in
    rw shape (element_emitted p slots old _ begun _ (position v.field-0) v.field-3.0 e i steps h c.in_ok-emit_expr-in-SliceElement.ensures c.in_ok-emit_expr-in-SliceElement-2.ensures
    (c.in_ok-emit_place_steps-in-SliceElement.ensures ∙ ap (λ q. begun ++ steps_code p slots (steps_in q) (h + 4) (length begun)) shape))

pub emit_place_steps-emit_steps-requires : goal.emit_place_steps-emit_steps-requires
emit_place_steps-emit_steps-requires t c =
    let p = program_of c.args.program.now in let slots = slots_in c.args.program.now c.args.frame.now in let n = c.args.frame.now.sites in let h = c.args.h in
    let shape : place_of c.args.place.now ≡ local c.in-Local.field-0.0 (steps_of c.in-Local.steps.items) = grind (arith, expr_rows) in
    (search (rules, expr_rows), (subst (λ xs. StepsFitIn p slots n h xs) (ap steps_in shape ∙ ap steps_of (sym c.deref.ensures.value)) c.requires.fits, c.requires.frame))

pub emit_place_steps-emit_steps-requires-in-Global : goal.emit_place_steps-emit_steps-requires-in-Global
emit_place_steps-emit_steps-requires-in-Global t c =
    let p = program_of c.args.program.now in let slots = slots_in c.args.program.now c.args.frame.now in let n = c.args.frame.now.sites in let h = c.args.h in
    let shape : place_of c.args.place.now ≡ global c.in-Global.field-0 (steps_of c.in-Global.steps.items) = grind (arith, expr_rows) in
    (search (rules, expr_rows), (subst (λ xs. StepsFitIn p slots n h xs) (ap steps_in shape ∙ ap steps_of (sym c.deref-in-Global.ensures.value)) c.requires.fits, c.requires.frame))

pub emit_place_steps-emit_steps-requires-in-Indirect : goal.emit_place_steps-emit_steps-requires-in-Indirect
emit_place_steps-emit_steps-requires-in-Indirect t c =
    let p = program_of c.args.program.now in let slots = slots_in c.args.program.now c.args.frame.now in let n = c.args.frame.now.sites in let h = c.args.h in
    let shape : place_of c.args.place.now ≡ indirect (position c.in-Indirect.field-0) (ex_of c.in-Indirect.field-1.value) c.in-Indirect.field-2.0 (steps_of c.in-Indirect.steps.items) = grind (arith, expr_rows) in
    (search (rules, expr_rows), (subst (λ xs. StepsFitIn p slots n h xs) (ap steps_in shape ∙ ap steps_of (sym c.deref-in-Indirect.ensures.value)) c.requires.fits, c.requires.frame))

pub emit_place_steps-emit_steps-requires-in-SliceElement : goal.emit_place_steps-emit_steps-requires-in-SliceElement
emit_place_steps-emit_steps-requires-in-SliceElement t c =
    let p = program_of c.args.program.now in let slots = slots_in c.args.program.now c.args.frame.now in let n = c.args.frame.now.sites in let h = c.args.h in
    let shape : place_of c.args.place.now ≡ slice_element (position c.in-SliceElement.field-0) (ex_of c.in-SliceElement.field-1.value) (ex_of c.in-SliceElement.field-2.value) c.in-SliceElement.field-3.0 (steps_of c.in-SliceElement.steps.items) = grind (arith, expr_rows) in
    (search (rules, expr_rows), (subst (λ xs. StepsFitIn p slots n h xs) (ap steps_in shape ∙ ap steps_of (sym c.deref-in-SliceElement.ensures.value)) c.requires.fits, c.requires.frame))
