-- Constants that an expression gives are held by their types, where those of the scope are.
use Rattle.std.proofs.Common.{◌≡◌, ℕ, ◌^◌, pos, Bool, true, false, cond, List, Option, Some, None, refl, subst}
use Rattle.std.specs.Prelude.{option_and_then, nat_lt}
use Rattle.std.specs.Option.{option_map}
use Rattle.base.specs.declared.pos.Pos.{Pos}
use Rattle.syntax.specs.declared.operator.BinOp.{BinOp}
use Rattle.syntax.specs.declared.operator.UnOp.{UnOp}
use Rattle.syntax.specs.FirstBytes.{first_pos}
use Rattle.syntax.specs.Expressions.{Ex as TreeEx, number, string, name, unary, binary, paren, call, selector, index, slice, array_type, slice_type, literal, elements, Elements as TreeElements, spelled}
use Rattle.constants.specs.declared.constant.Constant.TheVariants.{Number}
use Rattle.base.specs.declared.value_type.ValueType.{ValueType}
use Rattle.constants.specs.Constants.{untyped}
use Rattle.type_faults.specs.Given.{allowed, both}
use Rattle.type_faults.proofs.Options.{and_then_some, map_some, none_some, same_some}
use Rattle.operators.specs.Operands.{Operand, constant}
use Rattle.operators.specs.Operators.{has_rules, prefixed, combined}
use Rattle.operators.proofs.Held.{IsHeld, prefixed_held, pair_held}
use Rattle.typed.specs.Tables.{Table}
use Rattle.syntax.specs.declared.expression.Name.{Name}
use Rattle.operand_parts.specs.Parts.{selected, indexed}
use Rattle.operand_parts.specs.Literals.{shape_fits}
use Rattle.operand_parts.specs.LiteralValues.{Placed, part_values, literal_with, composed}
use Rattle.operand_parts.proofs.HeldParts.{selected_held, indexed_held}
use Rattle.names.specs.Scope.{Scope, declaration}
use Rattle.names.specs.Naming.{name_in}
use Rattle.given_values.specs.Given.{one, name_operand, prefix_gives, pair_gives, operand_in, spread_over, callee, Seen, Callee, called_with}
use Rattle.expression_types.specs.Typing.{gives, seen, stated_type, placed, literal_given, are_quiet, called_quietly}
use Rattle.given_values.proofs.HeldCalls.{single_one, call_held}

prefix_held : (op : UnOp) (b : Bool) (a : Option Operand) (x : Operand) → operand_in (prefix_gives op b a) ≡ Some x → IsHeld x
prefix_held op false a x is = absurd (none_some is)
prefix_held op true a x is = single_one (option_and_then (prefixed op) a) IsHeld x (λ y e. let r = and_then_some (prefixed op) a y e in prefixed_held op r.0 y r.2) is

binary_held : (at : Pos) (op : BinOp) (a b : Option Operand) (x : Operand) → operand_in (pair_gives at op a b) ≡ Some x → IsHeld x
binary_held at op a b x is =
    single_one (both (combined at op) a b) IsHeld x (λ y e.
    let q = and_then_some (λ z. option_and_then (combined at op z) b) a y e in let r = and_then_some (combined at op q.0) b y q.2 in pair_held at op q.0 r.0 y r.2) is

-- a part is no constant
selector_held : (text : List ℕ) (s : Scope) (n : Name) (o : Option Operand) (x : Operand) → operand_in (option_map one (option_and_then (selected text s n) o)) ≡ Some x → IsHeld x
selector_held text s n o x is = single_one (option_and_then (selected text s n) o) IsHeld x (λ y e. let r = and_then_some (selected text s n) o y e in selected_held text s n r.0 y r.2) is

index_held : (T : Table) (at : Pos) (a b : Option Operand) (x : Operand) → operand_in (option_map one (both (indexed T at) a b)) ≡ Some x → IsHeld x
index_held T at a b x is =
    single_one (both (indexed T at) a b) IsHeld x (λ y e.
    let q = and_then_some (λ z. option_and_then (indexed T at z) b) a y e in let r = and_then_some (indexed T at q.0) b y q.2 in indexed_held T at q.0 r.0 y r.2) is

literal_held : (text : List ℕ) (s : Scope) (o : Option ValueType) (es : TreeElements) (qs : List Placed) (x : Operand) → operand_in (literal_given text s o es qs) ≡ Some x → IsHeld x
literal_held text s None es qs x is = absurd (none_some is)
literal_held text s (Some t) es qs x is =
    single_one (composed s.types t (shape_fits text s t es) qs) IsHeld x (λ y e. let m = map_some (literal_with s.types t) (allowed (shape_fits text s t es) (part_values qs)) y e in subst IsHeld m.2 tt) is

quietly_held : (at : Pos) (k : Callee) (os : List Seen) (x : Operand) → operand_in (called_quietly at k os) ≡ Some x → IsHeld x
quietly_held at k os x is = by (are_quiet k os) is
  where
    by : (b : Bool) → operand_in (allowed b (called_with at k os)) ≡ Some x → IsHeld x
    by true e = call_held at k os x e
    by false e = absurd (none_some e)

module _ (text : List ℕ) (s : Scope) (names_held : (n : List ℕ) (x : Operand) → name_operand s (declaration s n) ≡ Some x → IsHeld x) where
  -- the one value of an expression
  pub operand_held : (e : TreeEx) (x : Operand) → operand_in (gives text s e) ≡ Some x → IsHeld x
  operand_held (number at n) x is = by (nat_lt n (2 ^ 127)) is
    where
      by : (b : Bool) → operand_in (cond b (Some (one (constant (untyped (Number (pos n)))))) None) ≡ Some x → IsHeld x
      by true is1 = subst IsHeld (same_some is1) refl
      by false is1 = absurd (none_some is1)
  operand_held (string at behind) x is = absurd (none_some is)
  operand_held (name n) x is = single_one (name_operand s (declaration s (spelled text n))) IsHeld x (λ y e. names_held (spelled text n) y e) is
  operand_held (unary at op e) x is = prefix_held op (has_rules op) (operand_in (gives text s e)) x is
  operand_held (binary at op a b) x is = binary_held at op (operand_in (gives text s a)) (operand_in (gives text s b)) x is
  operand_held (paren at e) x is = operand_held e x is
  operand_held (call f es spread) x is = quietly_held (first_pos f) (spread_over spread (callee text s (name_in f) (gives text s f))) (seen text s es) x is
  operand_held (selector e at n) x is = selector_held text s n (operand_in (gives text s e)) x is
  operand_held (index e at i) x is = index_held s.types at (operand_in (gives text s e)) (operand_in (gives text s i)) x is
  operand_held (slice e at low high) x is = absurd (none_some is)
  operand_held (array_type at len e) x is = absurd (none_some is)
  operand_held (slice_type at e) x is = absurd (none_some is)
  operand_held (literal e es) x is = literal_held text s (stated_type text s e) es (placed text s (stated_type text s e) 0 es) x is
  operand_held (elements at es) x is = absurd (none_some is)
