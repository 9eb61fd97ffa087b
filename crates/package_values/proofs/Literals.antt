-- A composite literal that gives something has a type, and elements that all give something.
use Rattle.std.proofs.Common.{◌≡◌, ℕ, Bool, true, false, List, [], ◌∷◌, Option, Some, None, refl, ap, ◌∙◌}
use Rattle.std.specs.Option.{option_map}
use Rattle.base.specs.declared.pos.Pos.{Pos}
use Rattle.base.specs.declared.value_type.ValueType.{ValueType}
use Rattle.syntax.specs.Expressions.{Elements as TreeElements}
use Rattle.typed.specs.Tables.{Table}
use Rattle.type_faults.specs.Given.{allowed}
use Rattle.type_faults.proofs.Options.{and_then_some, map_some, none_some}
use Rattle.operators.specs.Operands.{Operand}
use Rattle.names.specs.declared.fields.Part.{Part}
use Rattle.names.specs.Scope.{Scope}
use Rattle.operand_parts.specs.Literals.{shape_fits}
use Rattle.operand_parts.specs.LiteralValues.{Placed, PartValue, taken_as, value_of_part, part_values, literal_with, composed}
use Rattle.given_values.specs.Given.{Gives, one}
use Rattle.expression_types.specs.Typing.{literal_given}

-- elements that all have a value
abbrev pub AllPlaced : List Placed → Type 0
AllPlaced [] = Unit {0}
AllPlaced (q ∷ qs) = ((x : Operand) × (q.operand ≡ Some x)) × AllPlaced qs

part_placed : (p : Option Part) (o : Option Operand) (v : PartValue) → value_of_part p o ≡ Some v → (x : Operand) × (o ≡ Some x)
part_placed None o v is = absurd (none_some is)
part_placed (Some p) o v is = let x = and_then_some (taken_as p) o v is in (x.0, x.1)

parts_placed : (qs : List Placed) (vs : List PartValue) → part_values qs ≡ Some vs → AllPlaced qs
parts_placed [] vs is = tt
parts_placed (q ∷ qs) vs is =
    let p = and_then_some (λ v. option_map (λ ws. v ∷ ws) (part_values qs)) (value_of_part q.part q.operand) vs is in
    let m = map_some (λ ws. p.0 ∷ ws) (part_values qs) vs p.2 in
    (part_placed q.part q.operand p.0 p.1, parts_placed qs m.0 m.1)

allowed_placed : (b : Bool) (qs : List Placed) (vs : List PartValue) → allowed b (part_values qs) ≡ Some vs → AllPlaced qs
allowed_placed true qs vs is = parts_placed qs vs is
allowed_placed false qs vs is = absurd (none_some is)

composed_placed : (T : Table) (t : ValueType) (b : Bool) (qs : List Placed) (x : Operand) → composed T t b qs ≡ Some x → AllPlaced qs
composed_placed T t b qs x is = let m = map_some (literal_with T t) (allowed b (part_values qs)) x is in allowed_placed b qs m.0 m.1

module _ (text : List ℕ) (s : Scope) where
  pub literal_typed : (t : Option ValueType) (es : TreeElements) (qs : List Placed) (g : Gives) → literal_given text s t es qs ≡ Some g → (u : ValueType) × (t ≡ Some u)
  literal_typed None es qs g is = absurd (none_some is)
  literal_typed (Some t) es qs g is = (t, refl)

  pub literal_placed : (t : Option ValueType) (es : TreeElements) (qs : List Placed) (g : Gives) → literal_given text s t es qs ≡ Some g → AllPlaced qs
  literal_placed None es qs g is = absurd (none_some is)
  literal_placed (Some t) es qs g is =
      let m = map_some one (composed s.types t (shape_fits text s t es) qs) g is in composed_placed s.types t (shape_fits text s t es) qs m.0 m.1

-- elements whose parts and values are the same
pub placed_alike : (p q : Option Part) (at : Pos) (x y : Option Operand) (qs rs : List Placed) → p ≡ q → x ≡ y → qs ≡ rs
    → record { part = p; at = at; operand = x } ∷ qs ≡ record { part = q; at = at; operand = y } ∷ rs
placed_alike p q at x y qs rs parts operands others =
    ap (λ (z : Option Part). record { part = z; at = at; operand = x } ∷ qs) parts ∙ ap (λ (z : Option Operand). record { part = q; at = at; operand = z } ∷ qs) operands
    ∙ ap (λ (zs : List Placed). record { part = q; at = at; operand = y } ∷ zs) others
