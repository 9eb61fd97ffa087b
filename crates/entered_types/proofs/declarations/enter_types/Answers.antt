use Rattle.std.proofs.Common.{◌≡◌, [], ◌∷◌, ◌+◌, List, drop, sym, ap, subst, ◌∙◌, arith}
use Rattle.syntax.specs.declared.declaration.Decl.{Decl}
use Rattle.syntax.specs.Declarations.{declarations_of}
use Rattle.type_faults.proofs.Lists.{from_one, nothing_left}
use Rattle.names.specs.Scope.{scope_of}
use Rattle.entered_types.specs.Entered.{entered_all, OnlyEnters}
use Rattle.entered_types.proofs.Keeping.{keeps_all}
use Rattle.entered_types.proofs.declarations.enter_types.Goals as goal

pub loop-decl-preserved : goal.loop-decl-preserved
loop-decl-preserved c =
    let text = c.args.text.now in
    let xs = c.args.decls.now in
    let k = c.loop-decl.decl-index in
    let x : Decl = c.decl-item.result in
    let here : drop k xs ≡ x ∷ drop (k + 1) xs = from_one xs k x c.loop-decl-test.true c.decl-item.is in
    rw (c.in_ok-enter_decl.ensures) (c.loop-decl.invariant ∙ ap (λ (l : List Decl). entered_all text (scope_of c.loop-decl.scope) (declarations_of l)) here)

pub returns-clause-entered : goal.returns-clause-entered
returns-clause-entered c =
    let text = c.args.text.now in
    let xs = c.args.decls.now in
    let k = c.loop-decl.decl-index in
    let none : drop k xs ≡ [] = nothing_left xs k (λ l. absurd (omega (arith, l, c.loop-decl-test.false))) in
    sym (c.loop-decl.invariant ∙ ap (λ (l : List Decl). entered_all text (scope_of c.loop-decl.scope) (declarations_of l)) none)

pub returns-clause-kept : goal.returns-clause-kept
returns-clause-kept c =
    let text = c.args.text.now in
    let start = scope_of c.args.scope.now in
    let xs = c.args.decls.now in
    let k = c.loop-decl.decl-index in
    let none : drop k xs ≡ [] = nothing_left xs k (λ l. absurd (omega (arith, l, c.loop-decl-test.false))) in
    let whole : entered_all text start (declarations_of xs) ≡ scope_of c.loop-decl.scope =
    c.loop-decl.invariant ∙ ap (λ (l : List Decl). entered_all text (scope_of c.loop-decl.scope) (declarations_of l)) none in
    subst (OnlyEnters start) whole (keeps_all text start (declarations_of xs))
