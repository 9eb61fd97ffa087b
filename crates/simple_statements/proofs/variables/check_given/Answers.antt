use Rattle.std.proofs.Common.{◌≡◌, List, Option, ap, ◌∙◌, subst}
use Rattle.std.specs.Option.{option_map}
use Rattle.std.specs.Global.{Vec}
use Rattle.syntax.specs.declared.expression.Name.{Name}
use Rattle.expression_types.specs.Passing.{type_before}
use Rattle.syntax.specs.Expressions.{ex_in}
use Rattle.syntax.specs.Statements.{value_spec_of}
use Rattle.base.specs.declared.value_type.ValueType.{ValueType}
use Rattle.type_faults.specs.Least.{IsLeast}
use Rattle.type_faults.proofs.Leasts.{least_join}
use Rattle.names.specs.Scope.{scope_of}
use Rattle.simple_statements.proofs.variables.check_given.Goals as goal
use Rattle.signatures.specs.declared.slots.Slot.{Slot}
use Rattle.signatures.specs.declared.entries.Role.TheVariants.{Parameter}
use Rattle.signatures.specs.EntryFaults.{EntriesFail}
use Rattle.simple_statements.specs.SimpleStatements.{slots_before, spec_slots_of, spec_slots}

pub returns-clause-fault : goal.returns-clause-fault
returns-clause-fault c =
    let text = c.args.text.now in
    let s = scope_of c.args.scope.now in
    let v = value_spec_of c.args.spec.now in
    let ts = option_map (λ (l : Vec ValueType). l.items) c.in_ok-given.given.types in
    let slots : c.deref-2.result.now ≡ spec_slots text s v =
    c.deref-2.ensures.value ∙ c.in_ok-slots.ensures ∙ ap (λ (ns : List Name). slots_before (type_before c.args.stated.now) ts ns) c.deref.ensures.value
    ∙ ap (λ (o : Option (Option ValueType)). slots_before o ts c.args.spec.now.names.items) c.requires.types
    ∙ ap (λ (us : Option (List ValueType)). spec_slots_of text s (ex_in c.args.spec.now.type_expr) us c.args.spec.now.names.items) c.in_ok-given.ensures.types in
    let names : IsLeast (EntriesFail text Parameter s (spec_slots text s v)) c.in_ok-entries.entries.fault =
    subst (λ (l : List Slot). IsLeast (EntriesFail text Parameter s l) c.in_ok-entries.entries.fault) slots c.in_ok-entries.ensures.fault in
    rw (c.lesser.ensures) (least_join _ _ c.in_ok-given.given.fault c.in_ok-entries.entries.fault c.in_ok-given.ensures.fault names)
