use Rattle.std.proofs.Common.{◌≡◌, ◌∙◌, ◌++◌, ◌∷◌, [], map, ap, sym, arith}
use Rattle.std.proofs.lemmas.Result.{IfOk-weaker}
use Rattle.typed.proofs.Rows.{expr_rows}
use Rattle.typed.specs.Positions.{position}
use Rattle.typed.specs.View.{ex_of, exs_of, place_of, program_of, steps_of}
use Rattle.typed_syntax.specs.Syntax.{append, slice_element, slice_literal}
use Rattle.value_flows.specs.Syntax.{address, beside}
use Rattle.value_flows.specs.View.{val_of}
use Rattle.typed_flows.specs.Values.{row, value, index_values, place_value, place_address}
use Rattle.typed_flows.proofs.Made.{one_more, slice_literal_is, append_is, element_value_is, element_address_is}
use Rattle.typed_flows.proofs.values.+values.Goals as goal

pub value-returns-in_ok-stored-in-SliceLiteral : goal.value-returns-in_ok-stored-in-SliceLiteral
value-returns-in_ok-stored-in-SliceLiteral t c =
    let p = program_of c.args.context.program.now in
    let site = c.in-SliceLiteral.site.0 in
    let es = exs_of c.in-SliceLiteral.es.items in
    let all = map val_of c.in_ok-stored-in-SliceLiteral.stored.items in
    let whole : ex_of c.args.e.now ≡ slice_literal site es = grind (arith, expr_rows) in
    let are = rw c.deref-in-SliceLiteral.ensures.value at c.in_ok-stored-in-SliceLiteral.ensures in
    let is = slice_literal_is p site c.to_site-in-SliceLiteral.result all es c.to_site-in-SliceLiteral.ensures are in
    IfOk-weaker c.new_variable-in-SliceLiteral.result (λ v. val_of v ≡ beside (row all) (address site)) (λ v. val_of v ≡ value p (ex_of c.args.e.now)) (λ v h. h ∙ is ∙ sym (ap (value p) whole)) c.new_variable-in-SliceLiteral.ensures

pub value-returns-in_ok-copied-in-Append : goal.value-returns-in_ok-copied-in-Append
value-returns-in_ok-copied-in-Append t c =
    let p = program_of c.args.context.program.now in
    let site = c.in-Append.site.0 in
    let e = ex_of c.deref-a-in-Append.result.now in
    let es = exs_of c.in-Append.es.items in
    let all = map val_of c.in_ok-added-in-Append.added.items in
    let slice = val_of c.in_ok-slice-in-Append.slice in
    let last = val_of c.in_ok-copied-in-Append.field-0 in
    let whole : ex_of c.args.e.now ≡ append site e es = grind (arith, expr_rows) in
    let are = rw c.deref-in-Append.ensures.value at c.in_ok-added-in-Append.ensures in
    let is = append_is p site c.site_has.result c.to_heap.result all slice last e es c.to_heap.ensures are c.site_has.ensures c.in_ok-slice-in-Append.ensures c.in_ok-copied-in-Append.ensures in
    IfOk-weaker c.beside.result (λ v. val_of v ≡ beside (row all) last) (λ v. val_of v ≡ value p (ex_of c.args.e.now)) (λ v h. h ∙ is ∙ sym (ap (value p) whole)) c.beside.ensures

pub place_value-returns-in_ok-behind-in-SliceElement : goal.place_value-returns-in_ok-behind-in-SliceElement
place_value-returns-in_ok-behind-in-SliceElement t c =
    let p = program_of c.args.context.program.now in
    let at = position c.in-SliceElement.field-0 in
    let e = ex_of c.deref-e-in-SliceElement.result.now in
    let i = ex_of c.deref-index.result.now in
    let n = c.in-SliceElement.field-3.0 in
    let steps = steps_of c.in-SliceElement.steps.items in
    let all = map val_of c.push.new.self.items in
    let root = val_of c.in_ok-root-in-SliceElement.root in
    let last = val_of c.in_ok-behind-in-SliceElement.field-0 in
    let whole : place_of c.args.place.now ≡ slice_element at e i n steps = grind (arith, expr_rows) in
    let indices = rw c.deref-in-SliceElement.ensures.value at c.in_ok-others-in-SliceElement.ensures in
    let are = one_more c.in_ok-others-in-SliceElement.others.items c.push.new.self.items c.in_ok-value-in-SliceElement.field-0 (index_values p steps) (value p i) indices c.in_ok-value-in-SliceElement.ensures c.in_ok-push-in-SliceElement.ensures.items in
    let is = element_value_is p at e i n steps all root last are c.in_ok-root-in-SliceElement.ensures c.in_ok-behind-in-SliceElement.ensures in
    IfOk-weaker c.beside-in-SliceElement.result (λ v. val_of v ≡ beside (row all) last) (λ v. val_of v ≡ place_value p (place_of c.args.place.now)) (λ v h. h ∙ is ∙ sym (ap (place_value p) whole)) c.beside-in-SliceElement.ensures

pub place_address-returns-in_ok-inside-in-SliceElement : goal.place_address-returns-in_ok-inside-in-SliceElement
place_address-returns-in_ok-inside-in-SliceElement t c =
    let p = program_of c.args.context.program.now in
    let has = c.args.has in
    let at = position c.in-SliceElement.field-0 in
    let e = ex_of c.deref-e-in-SliceElement.result.now in
    let i = ex_of c.deref-index.result.now in
    let n = c.in-SliceElement.field-3.0 in
    let steps = steps_of c.in-SliceElement.steps.items in
    let all = map val_of c.push.new.self.items in
    let root = val_of c.in_ok-root-in-SliceElement.root in
    let last = val_of c.in_ok-inside-in-SliceElement.field-0 in
    let whole : place_of c.args.place.now ≡ slice_element at e i n steps = grind (arith, expr_rows) in
    let indices = rw c.deref-in-SliceElement.ensures.value at c.in_ok-others-in-SliceElement.ensures in
    let are = one_more c.in_ok-others-in-SliceElement.others.items c.push.new.self.items c.in_ok-value-in-SliceElement.field-0 (index_values p steps) (value p i) indices c.in_ok-value-in-SliceElement.ensures c.in_ok-push-in-SliceElement.ensures.items in
    let is = element_address_is p has at e i n steps all root last are c.in_ok-root-in-SliceElement.ensures c.in_ok-inside-in-SliceElement.ensures in
    IfOk-weaker c.beside-in-SliceElement.result (λ v. val_of v ≡ beside (row all) last) (λ v. val_of v ≡ place_address p has (place_of c.args.place.now)) (λ v h. h ∙ is ∙ sym (ap (place_address p has) whole)) c.beside-in-SliceElement.ensures
