use Rattle.std.proofs.Common.{◌≡◌, Option, Some, None, IfOk, sym, ap, ◌∙◌, subst}
use Rattle.std.specs.Option.{option_map}
use Rattle.syntax.specs.Expressions.{Ex, ex_of, exs_of}
use Rattle.type_faults.specs.Least.{IsLeast}
use Rattle.names.specs.Scope.{scope_of}
use Rattle.simple_statements.proofs.updating.check_update.Goals as goal
use Rattle.simple_statements.specs.SimpleStatements.{only}
use Rattle.simple_statements.specs.SimpleFaults.{UpdateFails}

pub returns-in-Some-only-clause-fault : goal.returns-in-Some-only-clause-fault
returns-in-Some-only-clause-fault c =
    let text = c.args.text.now in
    let s = scope_of c.args.scope.now in
    let ls = exs_of c.args.lefts.now in
    let es = exs_of c.args.es.now in
    let left : only ls ≡ Some (ex_of c.in-Some.left.now) = sym c.only.ensures ∙ ap (option_map (λ e. ex_of e.now)) c.in-Some.is in
    let value : only es ≡ Some (ex_of c.in-Some-only.value.now) = sym c.only-in-Some.ensures ∙ ap (option_map (λ e. ex_of e.now)) c.in-Some-only.is in
    subst (λ (o : Option Ex). IfOk c.check_one.result (λ k. IsLeast (UpdateFails text s ls c.args.pos c.args.op es o (only es)) k.fault)) (sym left)
    (subst (λ (o : Option Ex). IfOk c.check_one.result (λ k. IsLeast (UpdateFails text s ls c.args.pos c.args.op es (Some (ex_of c.in-Some.left.now)) o) k.fault)) (sym value) c.check_one.ensures.fault)

pub returns-in-None-only-clause-fault : goal.returns-in-None-only-clause-fault
returns-in-None-only-clause-fault c =
    let text = c.args.text.now in
    let s = scope_of c.args.scope.now in
    let ls = exs_of c.args.lefts.now in
    let es = exs_of c.args.es.now in
    let left : only ls ≡ Some (ex_of c.in-Some.left.now) = sym c.only.ensures ∙ ap (option_map (λ e. ex_of e.now)) c.in-Some.is in
    let value : only es ≡ None = sym c.only-in-Some.ensures ∙ ap (option_map (λ e. ex_of e.now)) c.in-None-only.is in
    subst (λ (o : Option Ex). IfOk c.check_refused.result (λ k. IsLeast (UpdateFails text s ls c.args.pos c.args.op es o (only es)) k.fault)) (sym left)
    (subst (λ (o : Option Ex). IfOk c.check_refused.result (λ k. IsLeast (UpdateFails text s ls c.args.pos c.args.op es (Some (ex_of c.in-Some.left.now)) o) k.fault)) (sym value) c.check_refused.ensures.fault)

pub returns-in-None-clause-fault : goal.returns-in-None-clause-fault
returns-in-None-clause-fault c =
    let text = c.args.text.now in
    let s = scope_of c.args.scope.now in
    let ls = exs_of c.args.lefts.now in
    let es = exs_of c.args.es.now in
    let left : only ls ≡ None = sym c.only.ensures ∙ ap (option_map (λ e. ex_of e.now)) c.in-None.is in
    subst (λ (o : Option Ex). IfOk c.check_refused-in-None.result (λ k. IsLeast (UpdateFails text s ls c.args.pos c.args.op es o (only es)) k.fault)) (sym left) c.check_refused-in-None.ensures.fault
