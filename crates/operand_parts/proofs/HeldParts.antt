-- Fields and elements are no constants.
use Rattle.std.proofs.Common.{◌≡◌, ℕ, List, Some, subst}
use Rattle.base.specs.declared.pos.Pos.{Pos}
use Rattle.syntax.specs.declared.expression.Name.{Name}
use Rattle.syntax.specs.Expressions.{spelled}
use Rattle.typed_syntax.specs.Syntax.{Ex, Pl, Steps, read}
use Rattle.typed_syntax.specs.Syntax as typed
use Rattle.typed.specs.Tables.{Table}
use Rattle.type_faults.proofs.Options.{and_then_some, map_some, none_some}
use Rattle.operators.specs.Operands.{Operand, constant, value, nil}
use Rattle.operators.proofs.Held.{IsHeld}
use Rattle.names.specs.Scope.{Scope}
use Rattle.names.specs.Fields.{named_field}
use Rattle.operand_parts.specs.Parts.{part_value, selected, place_then, ArrayType, array_parts, index_step, element_of, indexed}

pub selected_held : (text : List ℕ) (s : Scope) (n : Name) (x y : Operand) → selected text s n x ≡ Some y → IsHeld y
selected_held text s n (constant f) y is = absurd (none_some is)
selected_held text s n nil y is = absurd (none_some is)
selected_held text s n (value t e) y is = let m = map_some (part_value e) (named_field s t (spelled text n)) y is in subst IsHeld m.2 tt

element_held : (bracket : Pos) (q : Pl) (i : Operand) (a : ArrayType) (y : Operand) → element_of bracket q i a ≡ Some y → IsHeld y
element_held bracket q i a y is = let m = map_some (λ (step : Steps). value a.element (read (place_then q step))) (index_step bracket a.length i) y is in subst IsHeld m.2 tt

pub indexed_held : (T : Table) (bracket : Pos) (a i y : Operand) → indexed T bracket a i ≡ Some y → IsHeld y
indexed_held T bracket (constant f) i y is = absurd (none_some is)
indexed_held T bracket nil i y is = absurd (none_some is)
indexed_held T bracket (value t (read q)) i y is = let m = and_then_some (element_of bracket q i) (array_parts T t) y is in element_held bracket q i m.0 y m.2
indexed_held T bracket (value t e) i y is = absurd (none_some is)
