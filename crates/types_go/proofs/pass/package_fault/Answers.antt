use Rattle.std.proofs.Common.{refl}
use Rattle.types_go.proofs.pass.package_fault.Goals as goal

pub returns : goal.returns
returns c = record {
  functions = c.in_ok-functions.functions;
  structs = c.in_ok-structs.structs;
  values = c.in_ok-values.values;
  in_functions = c.in_ok-functions.ensures;
  in_structs = c.in_ok-structs.ensures;
  in_values = c.in_ok-values.ensures;
  found_is = rw (c.lesser-3.ensures, c.lesser-2.ensures, c.lesser.ensures) refl;
}
