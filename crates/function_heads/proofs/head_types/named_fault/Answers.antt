use Rattle.std.proofs.Common.{◌≡◌, [], ◌∷◌, ◌+◌, ◌⊎◌, List, drop, map, subst, arith}
use Rattle.syntax.specs.declared.expression.Name.{Name}
use Rattle.syntax.specs.declared.declaration.Field.{Field}
use Rattle.syntax.specs.Expressions.{ex_of}
use Rattle.type_faults.specs.Least.{IsLeast}
use Rattle.syntax.specs.Declarations.{field_of, fields_of}
use Rattle.type_faults.proofs.Leasts.{Kept, kept_start, kept_more, kept_end}
use Rattle.names.specs.Scope.{scope_of}
use Rattle.type_faults.proofs.Lists.{from_one, nothing_left}
use Rattle.function_heads.proofs.head_types.named_fault.Goals as goal
use Rattle.signatures.specs.Signatures.{param_with, field_params, named_params}
use Rattle.function_heads.specs.HeadFaults.{TypesFail}
use Rattle.function_heads.proofs.Fields.{kept_same, types_apart, types_together}

pub loop-field-init : goal.loop-field-init
loop-field-init c = kept_start _

pub loop-field-preserved : goal.loop-field-preserved
loop-field-preserved c =
    let text = c.args.text.now in
    let s = scope_of c.args.scope.now in
    let xs = c.args.fields.now in
    let k = c.loop-field.field-index in
    let x : Field = c.field-item.result in
    let least = c.loop-field.fault in
    let all = TypesFail text s (named_params (fields_of xs)) in
    let own = field_params (field_of x) in
    let others = named_params (fields_of (drop (k + 1) xs)) in
    let here : drop k xs ≡ x ∷ drop (k + 1) xs = from_one xs k x c.loop-field-test.true c.field-item.is in
    let kept = subst (λ (l : List Field). Kept all (TypesFail text s (named_params (fields_of l))) least) here c.loop-field.invariant in
    let apart = kept_same all _ (λ f. TypesFail text s own f ⊎ TypesFail text s others f) least (types_apart text s own others) (types_together text s own others) kept in
    let found : IsLeast (TypesFail text s own) c.in_ok-own.own =
    subst (λ (ns : List Name). IsLeast (TypesFail text s (map (param_with (ex_of x.type_expr)) ns)) c.in_ok-own.own) c.deref.ensures.value c.in_ok-own.ensures in
    rw (c.lesser-fault.ensures) (kept_more all (TypesFail text s own) (TypesFail text s others) least c.in_ok-own.own apart found)

pub returns : goal.returns
returns c =
    let text = c.args.text.now in
    let s = scope_of c.args.scope.now in
    let xs = c.args.fields.now in
    let k = c.loop-field.field-index in
    let none : drop k xs ≡ [] = nothing_left xs k (λ l. absurd (omega (arith, l, c.loop-field-test.false))) in
    kept_end (TypesFail text s (named_params (fields_of xs))) (TypesFail text s (named_params (fields_of (drop k xs)))) c.loop-field.fault
    (λ g h. subst (λ (l : List Field). TypesFail text s (named_params (fields_of l)) g) none h) c.loop-field.invariant
