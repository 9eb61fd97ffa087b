use Rattle.std.proofs.Common.{subst, sym, List, ◌⊎◌, Option, ap, ◌∙◌}
use Rattle.type_faults.specs.declared.fault.Fault.{Fault}
use Rattle.type_faults.specs.Faults.{IsFault}
use Rattle.type_faults.specs.Least.{IsLeast, lesser}
use Rattle.type_faults.proofs.Leasts.{least_join, leaf}
use Rattle.given_values.specs.declared.gives.Item.{Item}
use Rattle.given_values.specs.GivenFaults.{CallFails}
use Rattle.given_values.specs.Passing.{callee_of, seens}
use Rattle.expression_types.proofs.expressions.call_of.Goals as goal

pub returns-clause-fault : goal.returns-clause-fault
returns-clause-fault c =
    let own = c.call_fault.result in
    let inner = c.args.inner in
    let K = CallFails c.args.pos (callee_of c.args.called.callee) (seens c.args.arguments.items.items) in
    let least = subst (λ (l : List Item). IsLeast (CallFails c.args.pos (callee_of c.args.called.callee) (seens l)) own) c.deref.ensures.value c.call_fault.ensures in
    let both = subst (λ (x : Option Fault). IsLeast (λ f. K f ⊎ IsFault inner f) x) (sym c.lesser-own.ensures) (least_join K (IsFault inner) own inner least (leaf inner)) in
    (c.lesser-own.result, both, c.lesser-2.ensures ∙ ap (λ x. lesser x c.lesser-own.result) c.lesser.ensures)
