use Rattle.std.proofs.Common.{◌≡◌, ◌⊎◌, List, ap, ◌∙◌, subst}
use Rattle.syntax.specs.Declarations.{declarations_of}
use Rattle.type_faults.specs.Least.{IsLeast}
use Rattle.type_faults.proofs.Leasts.{least_join}
use Rattle.names.specs.Scope.{scope_of}
use Rattle.package_values.specs.Values.{Item, items_in}
use Rattle.package_values.specs.ValueFaults.{DeclarationsFail, NamesFail, Recurs}
use Rattle.package_values.specs.Passing.{item_views}
use Rattle.package_values.proofs.faults.items_fault.Goals as goal

pub returns : goal.returns
returns c =
    let text = c.args.text.now in
    let s = scope_of c.args.scope.now in
    let ds = declarations_of c.args.decls.now in
    let is = items_in ds in
    let declared = c.in_ok-declared.declared in
    let named = c.names_fault-named.result in
    let recursion = c.in_ok-recursion.recursion in
    let first : item_views c.deref.result.now ≡ is = ap item_views c.deref.ensures.value ∙ c.in_ok-items.ensures in
    let second : item_views c.deref-2.result.now ≡ is = ap item_views c.deref-2.ensures.value ∙ c.in_ok-items.ensures in
    let recurs : IsLeast (Recurs text s is) recursion = subst (λ (l : List Item). IsLeast (Recurs text s l) recursion) first c.in_ok-recursion.ensures in
    let names : IsLeast (NamesFail text s 0 is) named = subst (λ (l : List Item). IsLeast (NamesFail text s 0 l) named) second c.names_fault-named.ensures in
    rw (c.lesser-2.ensures, c.lesser.ensures)
    (least_join (DeclarationsFail text s ds) (λ f. NamesFail text s 0 is f ⊎ Recurs text s is f) declared _ c.in_ok-declared.ensures (least_join (NamesFail text s 0 is) (Recurs text s is) named recursion names recurs))
