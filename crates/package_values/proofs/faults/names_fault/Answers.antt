use Rattle.std.proofs.Common.{◌≡◌, ℕ, suc, [], ◌∷◌, ◌+◌, List, Option, drop, sym, ap, ◌∙◌, arith, subst}
use Rattle.std.specs.Prelude.{codes}
use Rattle.std.specs.Str.{bytes_eq}
use Rattle.syntax.specs.Expressions.{spelled}
use Rattle.type_faults.specs.declared.fault.Fault.{Fault}
use Rattle.type_faults.specs.Least.{lesser}
use Rattle.type_faults.specs.Faults.{IsFault}
use Rattle.type_faults.proofs.Leasts.{Kept, kept_start, kept_more, kept_end, leaf}
use Rattle.names.specs.Universe.{is_blank}
use Rattle.names.specs.Scope.{scope_of, declaration}
use Rattle.type_faults.proofs.Lists.{from_one, nothing_left}
use Rattle.package_values.specs.declared.items.Item.{Item as ItemData}
use Rattle.package_values.specs.ValueFaults.{value_name_fault, NamesFail}
use Rattle.package_values.specs.Passing.{item_views}
use Rattle.package_values.proofs.faults.names_fault.Goals as goal

pub loop-index-init : goal.loop-index-init
loop-index-init c = kept_start _

pub loop-index-preserved : goal.loop-index-preserved
loop-index-preserved c =
    let text = c.args.text.now in
    let s = scope_of c.args.scope.now in
    let xs = c.args.items.now in
    let k = c.loop-index.index in
    let x : ItemData = c.index-items-index.result in
    let all = NamesFail text s 0 (item_views xs) in
    let rest = item_views (drop (k + 1) xs) in
    let fault_of : ItemData → Option Fault =
    λ y. value_name_fault k (is_blank (spelled text y.name)) (bytes_eq (spelled text y.name) (codes "init")) (declaration s (spelled text y.name)) y.name.pos in
    let own : c.name_fault.result ≡ fault_of x = c.name_fault.ensures ∙ ap fault_of (sym c.index-items-index.is) in
    let here : drop k xs ≡ x ∷ drop (k + 1) xs = from_one xs k x c.loop-index-test.true c.index-items-index.is in
    let kept = subst (λ (l : List ItemData). Kept all (NamesFail text s k (item_views l)) c.loop-index.fault) here c.loop-index.invariant in
    let one : suc k ≡ k + 1 = omega arith in
    let more = kept_more all (IsFault (fault_of x)) (NamesFail text s (suc k) rest) c.loop-index.fault (fault_of x) kept (leaf (fault_of x)) in
    rw (c.lesser-fault.ensures, own) (subst (λ (j : ℕ). Kept all (NamesFail text s j rest) (lesser c.loop-index.fault (fault_of x))) one more)

pub returns : goal.returns
returns c =
    let text = c.args.text.now in
    let s = scope_of c.args.scope.now in
    let xs = c.args.items.now in
    let k = c.loop-index.index in
    let none : drop k xs ≡ [] = nothing_left xs k (λ l. absurd (omega (arith, l, c.loop-index-test.false))) in
    kept_end (NamesFail text s 0 (item_views xs)) (NamesFail text s k (item_views (drop k xs))) c.loop-index.fault (λ g h. subst (λ (l : List ItemData). NamesFail text s k (item_views l) g) none h) c.loop-index.invariant
