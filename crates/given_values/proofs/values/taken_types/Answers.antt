use Rattle.std.proofs.Common.{◌≡◌, Bool, true, false, cond, Option, List, None, IfOk, sym, ◌∙◌, subst}
use Rattle.std.specs.Prelude.{is_none, ◌&&◌}
use Rattle.std.specs.Option.{option_map}
use Rattle.type_faults.specs.declared.fault.Fault.{Fault}
use Rattle.base.specs.declared.value_type.ValueType.{ValueType}
use Rattle.given_values.specs.Given.{fits, taken_types, value_types}
use Rattle.given_values.specs.Passing.{seens}
use Rattle.given_values.proofs.DecidedValues.{types_taken}
use Rattle.given_values.proofs.values.taken_types.Goals as goal

pub returns-in-Some : goal.returns-in-Some
returns-in-Some c =
    let ps = c.args.places.now in
    let os = seens c.args.items.now in
    subst (λ (q : Option Fault). cond (is_none q && fits ps os) (value_types os) None ≡ taken_types ps os) c.in-Some.is (types_taken ps os c.range_faults.result c.range_faults.ensures)

pub returns-then-fits : goal.returns-then-fits
returns-then-fits c =
    let ps = c.args.places.now in
    let os = seens c.args.items.now in
    let here : fits ps os ≡ true = sym c.fits.ensures ∙ c.if-fits.true in
    let whole = subst (λ (q : Option Fault). cond (is_none q && fits ps os) (value_types os) None ≡ taken_types ps os) c.in-None.is (types_taken ps os c.range_faults.result c.range_faults.ensures) in
    let same1 : value_types os ≡ taken_types ps os = subst (λ (b : Bool). cond b (value_types os) None ≡ taken_types ps os) here whole in
    subst (λ (o : Option (List ValueType)). IfOk c.value_types.result (λ r. option_map (λ v. v.items) r ≡ o)) same1 c.value_types.ensures

pub returns-else-fits : goal.returns-else-fits
returns-else-fits c =
    let ps = c.args.places.now in
    let os = seens c.args.items.now in
    let here : fits ps os ≡ false = sym c.fits.ensures ∙ c.if-fits.false in
    let whole = subst (λ (q : Option Fault). cond (is_none q && fits ps os) (value_types os) None ≡ taken_types ps os) c.in-None.is (types_taken ps os c.range_faults.result c.range_faults.ensures) in
    subst (λ (b : Bool). cond b (value_types os) None ≡ taken_types ps os) here whole
