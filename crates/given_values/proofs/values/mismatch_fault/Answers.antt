use Rattle.std.proofs.Common.{◌≡◌, rules, None}
use Rattle.std.specs.Option.{option_map}
use Rattle.given_values.specs.Given.{Many, many}
use Rattle.given_values.specs.Passing.{seens}
use Rattle.given_values.proofs.Places.{mismatch_least}
use Rattle.given_values.proofs.values.mismatch_fault.Goals as goal

pub returns-in-None : goal.returns-in-None
returns-in-None c =
    let ps = c.args.places.now in
    let os = seens c.args.items.now in
    let none : option_map (λ (k : Many). k.at) (many os) ≡ None = search rules in
    mismatch_least ps (many os) os c.types_fault.result none c.types_fault.ensures
