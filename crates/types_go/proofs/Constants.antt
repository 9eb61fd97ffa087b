-- What gives a constant early in one of two scopes that declare alike gives the same constant in the other.
use Rattle.std.proofs.Common.{◌≡◌, inl, inr, ℕ, List, Option, Some, None, refl, sym, ap, ◌∙◌}
use Rattle.std.specs.Prelude.{option_and_then}
use Rattle.std.specs.Option.{option_map}
use Rattle.syntax.specs.Expressions.{Ex as TreeEx}
use Rattle.constants.specs.declared.constant.Fixed.{Fixed}
use Rattle.type_faults.proofs.Options.{none_some, same_some}
use Rattle.typed.specs.Tables.{Table}
use Rattle.operators.specs.Operands.{Operand, constant, value, nil}
use Rattle.names.specs.declared.scope.Declared.{Declared}
use Rattle.names.specs.declared.scope.Declared.TheVariants as declared
use Rattle.names.specs.declared.scope.Known.{Known}
use Rattle.names.specs.declared.scope.Known.TheVariants as known_as
use Rattle.names.specs.Scope.{Scope, declaration, known}
use Rattle.operand_parts.specs.ArrayTypes.{length_of}
use Rattle.given_values.specs.Given.{constant_read, global_read, name_operand}
use Rattle.expression_types.specs.Typing.{early_gives}
use Rattle.expression_types.proofs.Early.{StaysConstant, early_kept}
use Rattle.package_values.specs.Values.{as_constant}
use Rattle.package_values.proofs.Giving.{a_constant}
use Rattle.types_go.proofs.Alike.{Alike, declaration_alike, known_alike}

read_constant : (o p : Option Known) → ((f : Fixed) → o ≡ Some (known_as.Constant f) → p ≡ Some (known_as.Constant f))
    → StaysConstant (option_map constant_read o) (option_map constant_read p)
read_constant None p same f h = absurd (none_some h)
read_constant (Some (known_as.Constant g)) p same f h = ap (option_map constant_read) (same g refl) ∙ h
read_constant (Some (known_as.Variable t)) p same f h = let bad : nil ≡ constant f = same_some h in absurd cc

read_variable : (g : ℕ) (o : Option Known) (f : Fixed) → option_map (global_read g) o ≡ Some (constant f) → ⊥
read_variable g None f h = none_some h
read_variable g (Some k) f h = let bad : global_read g k ≡ constant f = same_some h in cc

module _ (text : List ℕ) (T : Table) (r s : Scope) (a : Alike T r s) where
  operand_stays : (d : Option Declared) → StaysConstant (name_operand r d) (name_operand s d)
  operand_stays (Some (declared.Constant k)) f h = read_constant (known r k.0) (known s k.0) (known_alike T r s a k.0) f h
  operand_stays (Some (declared.Global k g)) f h = absurd (read_variable g.0 (known r k.0) f h)
  operand_stays d f h = h

  name_stays : (n : List ℕ) → StaysConstant (name_operand r (declaration r n)) (name_operand s (declaration s n))
  name_stays n f h = elim (declaration_alike T r s a n) [
    | inl same ↦ ap (name_operand s) (sym same) ∙ operand_stays (declaration r n) f h
    | inr untyped ↦ absurd (none_some (sym (ap (name_operand r) untyped) ∙ h))
  ]

  -- what gives a constant in the first gives it in the second
  pub constant_kept : (e : TreeEx) (f : Fixed) → option_and_then as_constant (early_gives text r e) ≡ Some f
      → option_and_then as_constant (early_gives text s e) ≡ Some f
  constant_kept e f h = ap (option_and_then as_constant) (early_kept text r s name_stays e f (a_constant (early_gives text r e) f h))

  -- and so for the lengths of arrays
  pub length_kept : (e : TreeEx) (n : ℕ) → option_and_then length_of (early_gives text r e) ≡ Some n
      → option_and_then length_of (early_gives text s e) ≡ Some n
  length_kept e n h = by (early_gives text r e) refl h
    where
      by : (o : Option Operand) → early_gives text r e ≡ o → option_and_then length_of o ≡ Some n
          → option_and_then length_of (early_gives text s e) ≡ Some n
      by None is q = absurd (none_some q)
      by (Some (constant f)) is q = ap (option_and_then length_of) (early_kept text r s name_stays e f is) ∙ q
      by (Some (value t x)) is q = absurd (none_some q)
      by (Some nil) is q = absurd (none_some q)
