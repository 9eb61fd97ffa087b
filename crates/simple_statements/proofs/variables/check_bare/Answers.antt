use Rattle.std.proofs.Common.{◌≡◌, List, Option, None, ap, ◌∙◌, subst}
use Rattle.syntax.specs.declared.expression.Name.{Name}
use Rattle.base.specs.declared.value_type.ValueType.{ValueType}
use Rattle.expression_types.specs.Passing.{type_before}
use Rattle.syntax.specs.Expressions.{exs_of, ex_in}
use Rattle.syntax.specs.Statements.{value_spec_of}
use Rattle.type_faults.specs.Least.{IsLeast}
use Rattle.names.specs.Scope.{scope_of}
use Rattle.expression_types.specs.Typing.{spec_wanted, seen}
use Rattle.simple_statements.proofs.variables.check_bare.Goals as goal
use Rattle.signatures.specs.declared.slots.Slot.{Slot}
use Rattle.signatures.specs.declared.entries.Role.TheVariants.{Parameter}
use Rattle.signatures.specs.EntryFaults.{EntriesFail}
use Rattle.simple_statements.specs.SimpleStatements.{taken_types, slots_before, spec_slots}
use Rattle.simple_statements.proofs.Items.{bare_slots}

pub returns-clause-fault : goal.returns-clause-fault
returns-clause-fault c =
    let text = c.args.text.now in
    let s = scope_of c.args.scope.now in
    let v = value_spec_of c.args.spec.now in
    let names = c.args.spec.now.names.items in
    let slots : c.deref-2.result.now ≡ spec_slots text s v =
    c.deref-2.ensures.value ∙ c.in_ok-slots.ensures ∙ ap (λ (ns : List Name). slots_before (type_before c.args.stated.now) None ns) c.deref.ensures.value ∙ ap (λ (o : Option (Option ValueType)). slots_before o None names) c.requires.types
    ∙ bare_slots text s (ex_in c.args.spec.now.type_expr) (exs_of c.args.spec.now.values.items) None (taken_types (spec_wanted text s v) (seen text s v.values)) names c.requires.bare in
    subst (λ (l : List Slot). IsLeast (EntriesFail text Parameter s l) c.in_ok-entries.entries.fault) slots c.in_ok-entries.ensures.fault
