use Rattle.std.proofs.Common.{List, subst}
use Rattle.type_faults.specs.declared.fault.FaultKind.TheVariants.{WrongCount}
use Rattle.given_values.specs.declared.wants.Wanted.{Wanted}
use Rattle.type_faults.specs.Least.{IsLeast}
use Rattle.type_faults.specs.Faults.{fault}
use Rattle.given_values.specs.GivenFaults.{TakeFails}
use Rattle.given_values.specs.Passing.{seens}
use Rattle.given_values.proofs.calls.call_fault.Goals as goal

pub returns-in-Printer : goal.returns-in-Printer
returns-in-Printer c = rw (c.in-Printer.is) c.print_fault.ensures

pub returns-in-Panicker : goal.returns-in-Panicker
returns-in-Panicker c = rw (c.in-Panicker.is) c.panic_fault.ensures

pub returns-in-Reader : goal.returns-in-Reader
returns-in-Reader c = rw (c.in-Reader.is) c.places_fault.ensures

pub returns-in-Exiter : goal.returns-in-Exiter
returns-in-Exiter c = rw (c.in-Exiter.is) c.places_fault-in-Exiter.ensures

pub returns-in-Function : goal.returns-in-Function
returns-in-Function c =
    let own = fault WrongCount c.args.pos in
    let os = seens c.args.arguments.now in
    rw (c.in-Function.is) (subst (λ (ps : List Wanted). IsLeast (TakeFails own ps os) c.places_fault-in-Function.result) c.deref.ensures.value c.places_fault-in-Function.ensures)

pub returns-in-Conversion : goal.returns-in-Conversion
returns-in-Conversion c = rw (c.in-Conversion.is) c.conversion_fault.ensures

pub returns-in-NoFunction : goal.returns-in-NoFunction
returns-in-NoFunction c = rw (c.in-NoFunction.is) c.refused.ensures

pub returns-in-NoSpread : goal.returns-in-NoSpread
returns-in-NoSpread c = rw (c.in-NoSpread.is) c.refused-in-NoSpread.ensures

pub returns-in-NoTextSpread : goal.returns-in-NoTextSpread
returns-in-NoTextSpread c = rw (c.in-NoTextSpread.is) c.spread_fault.ensures

pub returns-in-Nothing : goal.returns-in-Nothing
returns-in-Nothing c = rw (c.in-Nothing.is) c.values_fault.ensures

pub returns-in-Measurer : goal.returns-in-Measurer
returns-in-Measurer c = rw (c.in-Measurer.is) c.measurer_fault.ensures
