use Rattle.std.proofs.Common.{◌≡◌, [], ◌∷◌, ◌+◌, List, drop, subst, arith}
use Rattle.syntax.specs.declared.declaration.Decl.{Decl}
use Rattle.syntax.specs.Declarations.{Declaration, declaration_of, declarations_of}
use Rattle.type_faults.specs.declared.fault.Fault.{Fault}
use Rattle.type_faults.proofs.Leasts.{Kept, kept_start, kept_more, kept_end}
use Rattle.names.specs.Scope.{scope_of}
use Rattle.type_faults.proofs.Lists.{from_one, nothing_left}
use Rattle.function_heads.proofs.open_heads.heads_open.Goals as goal
use Rattle.function_heads.specs.Heads.{functions_in}
use Rattle.function_heads.specs.HeadFaults.{HeadsOpen}
use Rattle.function_heads.proofs.Open.{kept_apart}

pub loop-decl-init : goal.loop-decl-init
loop-decl-init c = kept_start _

pub loop-decl-preserved : goal.loop-decl-preserved
loop-decl-preserved c =
    let text = c.args.text.now in
    let heads = scope_of c.args.heads.now in
    let xs = c.args.decls.now in
    let k = c.loop-decl.decl-index in
    let x : Decl = c.decl-item.result in
    let least = c.loop-decl.fault in
    let AnyOpen : List Declaration → Fault → Type 0 = λ ds. HeadsOpen text heads (functions_in text heads ds) in
    let all = AnyOpen (declarations_of xs) in
    let rest = declarations_of (drop (k + 1) xs) in
    let here : drop k xs ≡ x ∷ drop (k + 1) xs = from_one xs k x c.loop-decl-test.true c.decl-item.is in
    let kept = subst (λ (l : List Decl). Kept all (AnyOpen (declarations_of l)) least) here c.loop-decl.invariant in
    let split = kept_apart text heads all (declaration_of x) rest least kept in
    rw (c.lesser-fault.ensures)
    (kept_more all (AnyOpen (declaration_of x ∷ [])) (AnyOpen rest) least c.in_ok-own.own split c.in_ok-own.ensures)

pub returns : goal.returns
returns c =
    let text = c.args.text.now in
    let heads = scope_of c.args.heads.now in
    let xs = c.args.decls.now in
    let k = c.loop-decl.decl-index in
    let AnyOpen : List Decl → Fault → Type 0 = λ l. HeadsOpen text heads (functions_in text heads (declarations_of l)) in
    let none : drop k xs ≡ [] = nothing_left xs k (λ l. absurd (omega (arith, l, c.loop-decl-test.false))) in
    kept_end (AnyOpen xs) (AnyOpen (drop k xs)) c.loop-decl.fault (λ g h. subst (λ (l : List Decl). AnyOpen l g) none h)
    c.loop-decl.invariant
