use Rattle.std.proofs.Common.{◌≡◌, ℕ, suc, [], ◌∷◌, ◌+◌, List, Option, Bor, Some, drop, ap, ◌∙◌, arith, subst}
use Rattle.std.specs.Prelude.{slice_get}
use Rattle.syntax.specs.declared.declaration.TypeSpec.{TypeSpec}
use Rattle.syntax.specs.Declarations.{type_spec_of}
use Rattle.type_faults.specs.Least.{IsLeast, lesser}
use Rattle.type_faults.proofs.Leasts.{Kept, kept_start, kept_more, kept_end}
use Rattle.type_faults.proofs.Lists.{from_one, nothing_left}
use Rattle.names.specs.Scope.{scope_of}
use Rattle.struct_sizes.specs.Structs.{Fields}
use Rattle.struct_sizes.specs.declared.verdicts.Refusal.{Refusal}
use Rattle.struct_sizes.specs.declared.verdicts.Verdict.{Verdict}
use Rattle.declared_structs.specs.Faults.{SizeFails, SizesFail}
use Rattle.declared_structs.specs.Passing.{spec_views, types_of, refusal_in, OptionalFails}
use Rattle.declared_structs.proofs.Numbers.{get_dropped, drop_views}
use Rattle.declared_structs.proofs.Refusals.{size_least}
use Rattle.declared_structs.proofs.sizes.each_fault.Goals as goal

pub loop-index-init : goal.loop-index-init
loop-index-init c = λ ss table verdicts are. kept_start _

pub loop-index-preserved : goal.loop-index-preserved
loop-index-preserved c =
    let text = c.args.text.now in
    let s = scope_of c.args.scope.now in
    let xs = c.args.specs.now in
    let k = c.loop-index.index in
    let x : Bor TypeSpec = c.index-specs-index.result in
    let t = type_spec_of x.now in
    let o = c.in_ok-own.own in
    let rest = spec_views (drop (k + 1) xs) in
    let here : drop k xs ≡ x ∷ drop (k + 1) xs = from_one xs k x c.loop-index-test.true c.index-specs-index.is in
    let said : IsLeast (OptionalFails text s c.args.found.now.words.items (refusal_in (slice_get c.args.found.now.verdicts.items k)) t) o =
    subst (λ (l : List (Option ℕ)). IsLeast (OptionalFails text s l (refusal_in (slice_get c.args.found.now.verdicts.items k)) t) o) c.deref-in-loop-index.ensures.value
    (subst (λ (r : Option Refusal). IsLeast (OptionalFails text s c.deref-in-loop-index.result.now r t) o) (c.refusal_of-refusal.ensures ∙ ap (λ (l : List Verdict). refusal_in (slice_get l k)) c.deref.ensures.value) c.in_ok-own.ensures) in
    λ ss table verdicts are.
    let all = SizesFail text s ss table 0 (spec_views xs) in
    let own = SizeFails text s ss table k t in
    let kept = subst (λ (l : List (Bor TypeSpec)). Kept all (SizesFail text s ss table k (spec_views l)) c.loop-index.fault) here (c.loop-index.invariant ss table verdicts are) in
    let one : suc k ≡ k + 1 = omega arith in
    let has : slice_get ss k ≡ Some (types_of text s t) = ap (λ (l : List Fields). slice_get l k) are ∙ get_dropped text s (spec_views xs) k t rest (drop_views xs k x (drop (k + 1) xs) here) in
    let least : IsLeast own o = size_least text s ss table c.args.found.now k t o verdicts has said in
    let more = kept_more all own (SizesFail text s ss table (suc k) rest) c.loop-index.fault o kept least in
    rw (c.lesser-fault.ensures) (subst (λ (j : ℕ). Kept all (SizesFail text s ss table j rest) (lesser c.loop-index.fault o)) one more)

pub returns : goal.returns
returns c =
    let text = c.args.text.now in
    let s = scope_of c.args.scope.now in
    let xs = c.args.specs.now in
    let k = c.loop-index.index in
    let none : drop k xs ≡ [] = nothing_left xs k (λ l. absurd (omega (arith, l, c.loop-index-test.false))) in
    λ ss table verdicts are.
    kept_end (SizesFail text s ss table 0 (spec_views xs)) (SizesFail text s ss table k (spec_views (drop k xs))) c.loop-index.fault
    (λ g h. subst (λ (l : List (Bor TypeSpec)). SizesFail text s ss table k (spec_views l) g) none h) (c.loop-index.invariant ss table verdicts are)
