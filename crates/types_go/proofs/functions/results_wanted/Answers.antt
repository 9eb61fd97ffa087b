use Rattle.std.proofs.Common.{◌≡◌, List, Option, map, ap, ◌∙◌}
use Rattle.base.specs.declared.value_type.ValueType.{ValueType}
use Rattle.typed.proofs.Lists.{map_map}
use Rattle.type_faults.proofs.Leasts.{if_ok}
use Rattle.given_values.specs.Given.{wanted_by}
use Rattle.signatures.specs.declared.slots.Slot.{Slot}
use Rattle.types_go.proofs.functions.results_wanted.Goals as goal

pub returns : goal.returns
returns c =
    let slots = c.args.slots.now in
    let types : c.deref.result.now ≡ map (λ (p : Slot). p.value_type) slots = c.deref.ensures.value ∙ c.in_ok-types.ensures in
    if_ok _ _ c.all_wanted_by.result
    (λ v e. e ∙ ap (λ (l : List (Option ValueType)). map wanted_by l) types ∙ map_map (λ (p : Slot). p.value_type) wanted_by slots) c.all_wanted_by.ensures
