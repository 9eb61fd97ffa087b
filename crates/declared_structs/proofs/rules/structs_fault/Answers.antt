use Rattle.std.proofs.Common.{◌≡◌, ℕ, suc, [], ◌∷◌, ◌+◌, List, Bor, drop, arith, subst}
use Rattle.syntax.specs.declared.declaration.TypeSpec.{TypeSpec}
use Rattle.syntax.specs.Declarations.{type_spec_of}
use Rattle.type_faults.specs.Least.{lesser}
use Rattle.type_faults.proofs.Leasts.{Kept, kept_start, kept_more, kept_end}
use Rattle.type_faults.proofs.Lists.{from_one, nothing_left}
use Rattle.names.specs.Scope.{scope_of}
use Rattle.declared_structs.specs.Faults.{StructFails, StructsFail}
use Rattle.declared_structs.specs.Passing.{spec_views}
use Rattle.declared_structs.proofs.rules.structs_fault.Goals as goal

pub loop-index-init : goal.loop-index-init
loop-index-init c = kept_start _

pub loop-index-preserved : goal.loop-index-preserved
loop-index-preserved c =
    let text = c.args.text.now in
    let s = scope_of c.args.scope.now in
    let xs = c.args.specs.now in
    let k = c.loop-index.index in
    let x : Bor TypeSpec = c.index-specs-index.result in
    let all = StructsFail text s 0 (spec_views xs) in
    let rest = spec_views (drop (k + 1) xs) in
    let own = StructFails text s k (type_spec_of x.now) in
    let here : drop k xs ≡ x ∷ drop (k + 1) xs = from_one xs k x c.loop-index-test.true c.index-specs-index.is in
    let kept = subst (λ (l : List (Bor TypeSpec)). Kept all (StructsFail text s k (spec_views l)) c.loop-index.fault) here c.loop-index.invariant in
    let one : suc k ≡ k + 1 = omega arith in
    let more = kept_more all own (StructsFail text s (suc k) rest) c.loop-index.fault c.in_ok-own.own kept c.in_ok-own.ensures in
    rw (c.lesser-fault.ensures) (subst (λ (j : ℕ). Kept all (StructsFail text s j rest) (lesser c.loop-index.fault c.in_ok-own.own)) one more)

pub returns : goal.returns
returns c =
    let text = c.args.text.now in
    let s = scope_of c.args.scope.now in
    let xs = c.args.specs.now in
    let k = c.loop-index.index in
    let none : drop k xs ≡ [] = nothing_left xs k (λ l. absurd (omega (arith, l, c.loop-index-test.false))) in
    (kept_end (StructsFail text s 0 (spec_views xs)) (StructsFail text s k (spec_views (drop k xs))) c.loop-index.fault (λ g h. subst (λ (l : List (Bor TypeSpec)). StructsFail text s k (spec_views l) g) none h) c.loop-index.invariant)
