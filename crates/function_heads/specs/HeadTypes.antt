-- The types of a function's parameters and results (Go specification, "Function types").
use Rattle.std.specs.Prelude.{ℕ, List, map, Option, option_and_then}
use Rattle.std.specs.Option.{option_map}
use Rattle.syntax.specs.Declarations.{Parameters, Function}
use Rattle.names.specs.Scope.{Scope, Signature}
use Rattle.expression_types.specs.Typing.{stated_type}
use Rattle.signatures.specs.declared.slots.Slot.{Slot}
use Rattle.signatures.specs.Signatures.{Param, params_of, types_of}

-- in a text, among the names of its package
module _ (text : List ℕ) (heads : Scope) where
  -- a parameter or result with its type, where that is known
  abbrev pub slot_of : Param → Slot
  slot_of p = record { name = p.name; value_type = stated_type text heads p.type_expr }

  abbrev pub slots_of : Parameters → List Slot
  slots_of ps = map slot_of (params_of ps)

  -- where all its types are known, a function has a signature
  abbrev pub signature_in : Function → Option Signature
  signature_in f =
      option_and_then (λ ps. option_map (λ rs. record { params = ps; results = rs }) (types_of (slots_of f.results))) (types_of (slots_of f.params))
