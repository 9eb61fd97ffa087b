-- What lies in memory as abstract syntax.
use Rattle.std.specs.Prelude.{pos, List, map}
use Rattle.std.specs.Option.{option_map}
use Rattle.typed_syntax.specs.Syntax.{Exs}
use Rattle.typed.specs.View.{type_of, ex_of, exs_of_values}
use Rattle.operators.specs.Passing.{operand_of}
use Rattle.given_values.specs.declared.gives.Gives.{Gives as GivesData}
use Rattle.given_values.specs.declared.gives.Part.{Part as PartData}
use Rattle.given_values.specs.declared.gives.Part.TheVariants.{Said, Valued}
use Rattle.given_values.specs.declared.gives.Gives.TheVariants.{One, Called, Asking, Quoted, Printed, Panicked, Exited}
use Rattle.given_values.specs.declared.gives.Item.{Item}
use Rattle.given_values.specs.declared.gives.Callee.{Callee as CalleeData}
use Rattle.given_values.specs.declared.gives.Callee.TheVariants.{Printer, Panicker, Measurer, Reader, Exiter, Function, Conversion, NoFunction, NoSpread, NoTextSpread, Nothing}
use Rattle.given_values.specs.Given.{Part, said, valued, Gives, one, called, asking, quoted, printed, panicked, exited, Seen, Many, Callee, printer, panicker, measurer, reader, exiter, function, conversion, no_function, no_spread, no_text_spread, nothing, values}

abbrev pub part_view : PartData → Part
part_view (Said bytes) = said bytes.items
part_view (Valued t e) = valued (type_of t.0) (ex_of e)

abbrev pub gives_of : GivesData → Gives
gives_of (One x) = one (operand_of x)
gives_of (Called at ts f values) = called at ts.items f.0 (exs_of_values values.value)
gives_of (Asking at) = asking at
gives_of (Quoted at bytes) = quoted at bytes.items
gives_of (Printed at line ps) = printed at line (map part_view ps.items)
gives_of (Panicked at p) = panicked at (part_view p)
gives_of (Exited at e) = exited at (ex_of e)

abbrev pub seen_of : Item → Seen
seen_of item = record { at = item.pos; gives = option_map gives_of item.gives }

abbrev pub seens : List Item → List Seen
seens items = map seen_of items

abbrev pub callee_of : CalleeData → Callee
callee_of (Printer line) = printer line
callee_of Panicker = panicker
callee_of (Measurer m) = measurer m
callee_of Reader = reader
callee_of Exiter = exiter
callee_of (Function f ps ts) = function f.0 ps.items ts.items
callee_of Conversion = conversion
callee_of NoFunction = no_function
callee_of NoSpread = no_spread
callee_of NoTextSpread = no_text_spread
callee_of Nothing = nothing

-- all results of a call
abbrev pub results_of : Many → Exs
results_of m = m.values
