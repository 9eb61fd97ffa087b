use Rattle.std.proofs.Common.{◌≡◌, ℕ, suc, [], ◌∷◌, ◌+◌, List, Bor, Option, Some, None, if◌then◌else◌, drop}
use Rattle.std.proofs.Common.{arith, sym, ap, ◌∙◌, subst}
use Rattle.base.specs.declared.value_type.ValueType.TheVariants.{Struct}
use Rattle.syntax.specs.declared.declaration.TypeSpec.{TypeSpec}
use Rattle.type_faults.specs.declared.fault.Fault.{Fault}
use Rattle.type_faults.specs.declared.fault.FaultKind.TheVariants.{SelfReference}
use Rattle.type_faults.specs.Faults.{fault, IsFault}
use Rattle.type_faults.specs.Least.{lesser}
use Rattle.type_faults.proofs.Leasts.{Kept, kept_start, kept_more, kept_end, leaf}
use Rattle.type_faults.proofs.Lists.{from_one, nothing_left}
use Rattle.names.specs.Types.{is_known}
use Rattle.declared_structs.specs.Faults.{StructsOpen}
use Rattle.declared_structs.specs.Passing.{spec_views}
use Rattle.declared_structs.proofs.open_structs.each_open.Goals as goal

pub loop-index-init : goal.loop-index-init
loop-index-init c = kept_start _

pub loop-index-preserved : goal.loop-index-preserved
loop-index-preserved c =
    let T = c.args.types.now in
    let xs = c.args.specs.now in
    let k = c.loop-index.index in
    let x : Bor TypeSpec = c.index-specs-index.result in
    let least = c.loop-index.fault in
    let all = StructsOpen T 0 (spec_views xs) in
    let rest = spec_views (drop (k + 1) xs) in
    let told_of : ℕ → Bor TypeSpec → Option Fault =
    λ n y. if is_known T (Struct (record { 0 = n })) then None else Some (fault SelfReference y.now.name.pos) in
    let told = told_of k x in
    let number : told_of c.in-Ok.number x ≡ told = ap (λ n. told_of n x) c.in-Ok.ensures.1 in
    let own : c.open_fault-own.result ≡ told =
    c.open_fault-own.ensures ∙ ap (told_of c.in-Ok.number) (sym c.index-specs-index.is) ∙ number in
    let here : drop k xs ≡ x ∷ drop (k + 1) xs = from_one xs k x c.loop-index-test.true c.index-specs-index.is in
    let kept =
    subst (λ (l : List (Bor TypeSpec)). Kept all (StructsOpen T k (spec_views l)) least) here c.loop-index.invariant in
    let one : suc k ≡ k + 1 = omega arith in
    let more = kept_more all (IsFault told) (StructsOpen T (suc k) rest) least told kept (leaf told) in
    rw (c.lesser-fault.ensures, own) (subst (λ (j : ℕ). Kept all (StructsOpen T j rest) (lesser least told)) one more)

pub returns : goal.returns
returns c =
    let T = c.args.types.now in
    let xs = c.args.specs.now in
    let k = c.loop-index.index in
    let none : drop k xs ≡ [] = nothing_left xs k (λ l. absurd (omega (arith, l, c.loop-index-test.false))) in
    kept_end (StructsOpen T 0 (spec_views xs)) (StructsOpen T k (spec_views (drop k xs))) c.loop-index.fault
    (λ g h. subst (λ (l : List (Bor TypeSpec)). StructsOpen T k (spec_views l) g) none h) c.loop-index.invariant
