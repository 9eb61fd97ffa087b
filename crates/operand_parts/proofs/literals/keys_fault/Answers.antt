use Rattle.std.proofs.Common.{◌≡◌, [], ◌∷◌, ◌+◌, List, drop, arith, subst}
use Rattle.syntax.specs.declared.expression.Element.{Element}
use Rattle.syntax.specs.Expressions.{elements_of, spelled}
use Rattle.names.specs.Scope.{scope_of}
use Rattle.names.specs.Blocks.{insert}
use Rattle.type_faults.proofs.Leasts.{Kept, kept_end}
use Rattle.type_faults.proofs.Lists.{from_one, nothing_left}
use Rattle.operand_parts.specs.LiteralFaults.{KeysFail}
use Rattle.operand_parts.proofs.Keys.{plain_more, keyed_more}
use Rattle.operand_parts.proofs.literals.keys_fault.Goals.{in-Keyed+in_ok-insert, in_default}
use Rattle.operand_parts.proofs.literals.keys_fault.Goals as goal

pub loop-element-preserved : goal.loop-element-preserved
loop-element-preserved c =
    let text = c.args.text.now in
    let s = scope_of c.args.scope.now in
    let t = c.args.whole in
    let xs = c.args.elements.now in
    let k = c.loop-element.element-index in
    let x : Element = c.element-item.result in
    let Whole = KeysFail text s t ([] ∷ []) (elements_of xs) in
    let here : drop k xs ≡ x ∷ drop (k + 1) xs = from_one xs k x c.loop-element-test.true c.element-item.is in
    let kept = subst (λ (l : List Element). Kept Whole (KeysFail text s t c.loop-element.before (elements_of l)) c.loop-element.fault) here c.loop-element.invariant in
    elim c.match-element.branch [
      | in-Keyed+in_ok-insert w ↦
          let name : w.spelled-name.result.now ≡ spelled text w.in-Keyed.key = w.spelled-name.ensures in
          let before_is : w.insert.new.self ≡ insert c.loop-element.before w.spelled-name.result.now 0 = w.in_ok-insert.ensures.inserted in
          rw (w.before-is, w.fault-is, before_is, name, w.lesser-fault.ensures)
          (keyed_more text s t Whole c.loop-element.before x (drop (k + 1) xs) c.loop-element.fault kept w.in-Keyed.key w.in-Keyed.field-1 w.key_fault-own.result w.in-Keyed.is
          (cc (w.key_fault-own.ensures, w.is_some-is_field.ensures, w.named_field.ensures, w.innermost.ensures, w.is_some.ensures, name)))
      | in_default w ↦
          rw (w.before-is, w.fault-is) (plain_more text s t Whole c.loop-element.before x (drop (k + 1) xs) c.loop-element.fault kept w.in_default.field-0 w.in_default.is)
    ]

pub returns : goal.returns
returns c =
    let text = c.args.text.now in
    let s = scope_of c.args.scope.now in
    let xs = c.args.elements.now in
    let k = c.loop-element.element-index in
    let none : drop k xs ≡ [] = nothing_left xs k (λ l. absurd (omega (arith, l, c.loop-element-test.false))) in
    kept_end (KeysFail text s c.args.whole ([] ∷ []) (elements_of xs)) (KeysFail text s c.args.whole c.loop-element.before (elements_of (drop k xs))) c.loop-element.fault (λ g h. subst (λ (l : List Element). KeysFail text s c.args.whole c.loop-element.before (elements_of l) g) none h) c.loop-element.invariant
