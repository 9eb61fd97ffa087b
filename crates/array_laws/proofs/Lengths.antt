-- The length of arrays is a constant. So it doesn't depend on the table of the scope, and it is the same where the names of
-- constants stand for the same ones.
use Rattle.std.proofs.Common.{◌≡◌, ℕ, List, Option, Some, None, refl, sym, ap, ◌∙◌}
use Rattle.std.specs.Prelude.{option_and_then}
use Rattle.syntax.specs.Expressions.{Ex as TreeEx}
use Rattle.type_faults.proofs.Options.{none_some}
use Rattle.typed.specs.Tables.{Table}
use Rattle.operators.specs.Operands.{Operand, constant, value, nil}
use Rattle.names.specs.Scope.{Scope}
use Rattle.operand_parts.specs.ArrayTypes.{length_of}
use Rattle.expression_types.specs.Typing.{early_gives}
use Rattle.expression_types.proofs.Early.{early_kept}
use Rattle.entered_types.specs.Entered.{length_in}
use Rattle.array_laws.specs.Laws.{ConstantsStay}

module _ (text : List ℕ) (r s : Scope) (stay : ConstantsStay r s) where
  -- a length of the first is one of the second
  pub length_kept : (e : TreeEx) (n : ℕ) → length_in text r e ≡ Some n → length_in text s e ≡ Some n
  unfolding length_in
  length_kept e n h = by (early_gives text r e) refl h
    where
      by : (o : Option Operand) → early_gives text r e ≡ o → option_and_then length_of o ≡ Some n → length_in text s e ≡ Some n
      by None is q = absurd (none_some q)
      by (Some (constant f)) is q = ap (option_and_then length_of) (early_kept text r s stay e f is) ∙ q
      by (Some (value t x)) is q = absurd (none_some q)
      by (Some nil) is q = absurd (none_some q)

-- ---- scopes that differ in their tables alone

retyped_stay : (r : Scope) (T U : Table) → ConstantsStay (record r { types = T }) (record r { types = U })
retyped_stay r T U word f h = h

pub length_same : (text : List ℕ) (r s t : Scope) → s ≡ record r { types = s.types } → t ≡ record r { types = t.types }
    → (e : TreeEx) (n : ℕ) → length_in text s e ≡ Some n → length_in text t e ≡ Some n
length_same text r s t s_is t_is e n h =
    ap (λ (q : Scope). length_in text q e) t_is
    ∙ length_kept text (record r { types = s.types }) (record r { types = t.types }) (retyped_stay r s.types t.types) e n
    (sym (ap (λ (q : Scope). length_in text q e) s_is) ∙ h)

same_by : (o p : Option ℕ) → ((n : ℕ) → o ≡ Some n → p ≡ Some n) → ((n : ℕ) → p ≡ Some n → o ≡ Some n) → o ≡ p
same_by None None to from = refl
same_by None (Some n) to from = from n refl
same_by (Some n) p to from = sym (to n refl)

pub lengths_same : (text : List ℕ) (r s : Scope) → s ≡ record r { types = s.types } → (e : TreeEx)
    → length_in text s e ≡ length_in text r e
lengths_same text r s is e =
    same_by (length_in text s e) (length_in text r e) (length_same text r s r is refl e) (length_same text r r s refl is e)
