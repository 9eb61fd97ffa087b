use Rattle.std.proofs.Common.{◌≡◌, true, length, rules, sym, ◌∙◌, None, arith}
use Rattle.std.specs.Prelude.{is_none, ◌==◌}
use Rattle.std.specs.Option.{option_map}
use Rattle.std.proofs.lemmas.Bool.{eq-eqb}
use Rattle.std.proofs.lemmas.List.{length-map}
use Rattle.given_values.specs.Given.{Many, many}
use Rattle.given_values.specs.Passing.{seen_of, seens}
use Rattle.given_values.proofs.Places.{agree_none, fits_singles}
use Rattle.given_values.proofs.values.fits.Goals as goal

pub returns-then-items-places : goal.returns-then-items-places
returns-then-items-places c =
    let ps = c.args.places.now in
    let os = seens c.args.items.now in
    let none : option_map (λ (k : Many). k.at) (many os) ≡ None = search rules in
    let long : (length os == length ps) ≡ true = rw (length-map c.args.items.now seen_of) (eq-eqb (length c.args.items.now) (length ps) c.if-items-places.true) in
    let none_is : c.is_none.result ≡ is_none c.types_fault.result = grind (arith, c.is_none.ensures) in
    none_is ∙ agree_none ps os c.types_fault.result c.types_fault.ensures ∙ sym (fits_singles ps os none long)
