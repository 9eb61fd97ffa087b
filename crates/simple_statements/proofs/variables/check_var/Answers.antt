use Rattle.std.proofs.Common.{◌≡◌, [], ◌∷◌, ◌+◌, List, drop, sym, ap, ◌∙◌, refl, subst, arith}
use Rattle.std.specs.Option.{option_map}
use Rattle.syntax.specs.declared.statement.ValueSpec.{ValueSpec}
use Rattle.syntax.specs.Statements.{value_spec_of, value_specs_of}
use Rattle.type_faults.proofs.Leasts.{Kept, kept_start, kept_more, kept_end}
use Rattle.names.specs.Scope.{scope_of}
use Rattle.type_faults.proofs.Lists.{from_one, nothing_left}
use Rattle.simple_statements.proofs.variables.check_var.Goals as goal
use Rattle.simple_statements.specs.SimpleStatements.{spec_statement, spec_statements, behind_spec, behind_specs}
use Rattle.simple_statements.specs.SimpleFaults.{FailsInSpec, FailsInSpecs}
use Rattle.simple_statements.proofs.Sequences.{joined, joined_start, joined_one, joined_end}

pub loop-spec-init : goal.loop-spec-init
loop-spec-init c = (rw (c.new.ensures.items) (sym (joined_start (spec_statements c.args.text.now (scope_of c.args.scope.now) (value_specs_of c.args.specs.now)))), (kept_start _, refl))

pub loop-spec-preserved : goal.loop-spec-preserved
loop-spec-preserved c =
    let text = c.args.text.now in
    let at = c.args.pos in
    let start = scope_of c.args.scope.now in
    let s = scope_of c.loop-spec.scope in
    let xs = c.args.specs.now in
    let k = c.loop-spec.spec-index in
    let x : ValueSpec = c.spec-item.result in
    let v = value_spec_of x in
    let rest = drop (k + 1) xs in
    let so_far = option_map (λ v. v.items) c.loop-spec.statements in
    let s1 = behind_spec text s v in
    let line = c.in_ok-line.line in
    let here : drop k xs ≡ x ∷ rest = from_one xs k x c.loop-spec-test.true c.spec-item.is in
    let front = c.loop-spec.invariant.0 ∙ ap (λ (l : List ValueSpec). joined so_far (spec_statements text s (value_specs_of l))) here in
    let kept = subst (λ (l : List ValueSpec). Kept (FailsInSpecs text start at (value_specs_of xs)) (FailsInSpecs text s at (value_specs_of l)) c.loop-spec.fault) here c.loop-spec.invariant.1.0 in
    rw (c.in_ok-line.ensures.scope) (
      rw (c.in_ok-statements.ensures) (front ∙ joined_one so_far line.statement (spec_statement text s v) (spec_statements text s1 (value_specs_of rest)) c.in_ok-line.ensures.statement),
      (
        rw (c.lesser-fault.ensures) (kept_more (FailsInSpecs text start at (value_specs_of xs)) (FailsInSpec text s at v) (FailsInSpecs text s1 at (value_specs_of rest)) c.loop-spec.fault line.fault kept c.in_ok-line.ensures.fault),
        c.loop-spec.invariant.1.1 ∙ ap (λ (l : List ValueSpec). behind_specs text s (value_specs_of l)) here,
      ),
    )

pub returns-clause-statements : goal.returns-clause-statements
returns-clause-statements c =
    let text = c.args.text.now in
    let s = scope_of c.loop-spec.scope in
    let xs = c.args.specs.now in
    let k = c.loop-spec.spec-index in
    let none : drop k xs ≡ [] = nothing_left xs k (λ l. absurd (omega (arith, l, c.loop-spec-test.false))) in
    joined_end c.loop-spec.statements ∙ sym (c.loop-spec.invariant.0 ∙ ap (λ (l : List ValueSpec). joined (option_map (λ v. v.items) c.loop-spec.statements) (spec_statements text s (value_specs_of l))) none)

pub returns-clause-fault : goal.returns-clause-fault
returns-clause-fault c =
    let text = c.args.text.now in
    let at = c.args.pos in
    let s = scope_of c.loop-spec.scope in
    let xs = c.args.specs.now in
    let k = c.loop-spec.spec-index in
    let none : drop k xs ≡ [] = nothing_left xs k (λ l. absurd (omega (arith, l, c.loop-spec-test.false))) in
    kept_end (FailsInSpecs text (scope_of c.args.scope.now) at (value_specs_of xs)) (FailsInSpecs text s at (value_specs_of (drop k xs))) c.loop-spec.fault (λ g h. subst (λ (l : List ValueSpec). FailsInSpecs text s at (value_specs_of l) g) none h) c.loop-spec.invariant.1.0

pub returns-clause-scope : goal.returns-clause-scope
returns-clause-scope c =
    let text = c.args.text.now in
    let s = scope_of c.loop-spec.scope in
    let xs = c.args.specs.now in
    let k = c.loop-spec.spec-index in
    let none : drop k xs ≡ [] = nothing_left xs k (λ l. absurd (omega (arith, l, c.loop-spec-test.false))) in
    sym (c.loop-spec.invariant.1.1 ∙ ap (λ (l : List ValueSpec). behind_specs text s (value_specs_of l)) none)
