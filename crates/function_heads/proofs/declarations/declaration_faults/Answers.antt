use Rattle.std.proofs.Common.{◌≡◌, [], ◌∷◌, ◌+◌, List, drop, subst, arith}
use Rattle.syntax.specs.declared.declaration.Decl.{Decl}
use Rattle.syntax.specs.Declarations.{declaration_of, declarations_of}
use Rattle.type_faults.proofs.Leasts.{Kept, kept_start, kept_more, kept_end}
use Rattle.names.specs.Scope.{scope_of}
use Rattle.type_faults.proofs.Lists.{from_one, nothing_left}
use Rattle.function_heads.proofs.declarations.declaration_faults.Goals as goal
use Rattle.function_heads.specs.HeadFaults.{DeclarationFails, DeclarationsFail}

pub loop-decl-init : goal.loop-decl-init
loop-decl-init c = kept_start _

pub loop-decl-preserved : goal.loop-decl-preserved
loop-decl-preserved c =
    let text = c.args.text.now in
    let heads = scope_of c.args.heads.now in
    let s = scope_of c.args.scope.now in
    let xs = c.args.decls.now in
    let k = c.loop-decl.decl-index in
    let x : Decl = c.decl-item.result in
    let all = DeclarationsFail text heads s (declarations_of xs) in
    let here : drop k xs ≡ x ∷ drop (k + 1) xs = from_one xs k x c.loop-decl-test.true c.decl-item.is in
    let kept = subst (λ (l : List Decl). Kept all (DeclarationsFail text heads s (declarations_of l)) c.loop-decl.fault) here c.loop-decl.invariant in
    rw (c.lesser-fault.ensures) (kept_more all (DeclarationFails text heads s (declaration_of x)) (DeclarationsFail text heads s (declarations_of (drop (k + 1) xs))) c.loop-decl.fault c.in_ok-own.own kept c.in_ok-own.ensures)

pub returns : goal.returns
returns c =
    let text = c.args.text.now in
    let heads = scope_of c.args.heads.now in
    let s = scope_of c.args.scope.now in
    let xs = c.args.decls.now in
    let k = c.loop-decl.decl-index in
    let none : drop k xs ≡ [] = nothing_left xs k (λ l. absurd (omega (arith, l, c.loop-decl-test.false))) in
    kept_end (DeclarationsFail text heads s (declarations_of xs)) (DeclarationsFail text heads s (declarations_of (drop k xs))) c.loop-decl.fault (λ g h. subst (λ (l : List Decl). DeclarationsFail text heads s (declarations_of l) g) none h) c.loop-decl.invariant
