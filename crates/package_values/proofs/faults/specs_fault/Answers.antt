use Rattle.std.proofs.Common.{◌≡◌, [], ◌∷◌, ◌+◌, List, drop, subst, arith}
use Rattle.syntax.specs.declared.statement.ValueSpec.{ValueSpec}
use Rattle.syntax.specs.Statements.{value_spec_of, value_specs_of}
use Rattle.type_faults.proofs.Leasts.{Kept, kept_start, kept_more, kept_end}
use Rattle.names.specs.Scope.{scope_of}
use Rattle.type_faults.proofs.Lists.{from_one, nothing_left}
use Rattle.package_values.specs.ValueFaults.{SpecFails, SpecsFail}
use Rattle.package_values.proofs.faults.specs_fault.Goals as goal

pub loop-spec-init : goal.loop-spec-init
loop-spec-init c = kept_start _

pub loop-spec-preserved : goal.loop-spec-preserved
loop-spec-preserved c =
    let text = c.args.text.now in
    let s = scope_of c.args.scope.now in
    let at = c.args.pos in
    let xs = c.args.specs.now in
    let k = c.loop-spec.spec-index in
    let x : ValueSpec = c.spec-item.result in
    let all = SpecsFail text s at (value_specs_of xs) in
    let here : drop k xs ≡ x ∷ drop (k + 1) xs = from_one xs k x c.loop-spec-test.true c.spec-item.is in
    let kept = subst (λ (l : List ValueSpec). Kept all (SpecsFail text s at (value_specs_of l)) c.loop-spec.fault) here c.loop-spec.invariant in
    rw (c.lesser-fault.ensures) (kept_more all (SpecFails text s at (value_spec_of x)) (SpecsFail text s at (value_specs_of (drop (k + 1) xs))) c.loop-spec.fault c.in_ok-own.own kept c.in_ok-own.ensures)

pub returns : goal.returns
returns c =
    let text = c.args.text.now in
    let s = scope_of c.args.scope.now in
    let at = c.args.pos in
    let xs = c.args.specs.now in
    let k = c.loop-spec.spec-index in
    let none : drop k xs ≡ [] = nothing_left xs k (λ l. absurd (omega (arith, l, c.loop-spec-test.false))) in
    kept_end (SpecsFail text s at (value_specs_of xs)) (SpecsFail text s at (value_specs_of (drop k xs))) c.loop-spec.fault (λ g h. subst (λ (l : List ValueSpec). SpecsFail text s at (value_specs_of l) g) none h) c.loop-spec.invariant
