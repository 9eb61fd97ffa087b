-- The elements of a literal in memory, and their keys.
use Rattle.std.proofs.Common.{◌≡◌, ℕ, Bool, true, false, List, [], ◌∷◌, length, Option, Some, None, refl, sym, subst, arith}
use Rattle.std.specs.Prelude.{◌&&◌, not, is_some}
use Rattle.base.specs.declared.pos.Pos.{Pos}
use Rattle.base.specs.declared.ids.StructId.{StructId}
use Rattle.base.specs.declared.value_type.ValueType.{ValueType}
use Rattle.base.specs.declared.value_type.ValueType.TheVariants.{Struct}
use Rattle.syntax.specs.declared.expression.Name.{Name}
use Rattle.syntax.specs.declared.expression.Expr.{Expr}
use Rattle.syntax.specs.declared.expression.Element.{Element}
use Rattle.syntax.specs.declared.expression.Element.TheVariants.{Plain, Keyed}
use Rattle.syntax.specs.Expressions.{Elements, no_elements, element, elements_of, spelled}
use Rattle.type_faults.specs.declared.fault.Fault.{Fault}
use Rattle.type_faults.specs.Faults.{IsFault}
use Rattle.type_faults.specs.Least.{IsLeast, lesser}
use Rattle.type_faults.proofs.Decided.{Tested, both_tested}
use Rattle.type_faults.proofs.Leasts.{Kept, kept_more, leaf, least_join}
use Rattle.names.specs.Scope.{Scope}
use Rattle.names.specs.Blocks.{Blocks, innermost, insert}
use Rattle.names.specs.Fields.{named_field}
use Rattle.operand_parts.specs.Literals.{element_count, keys_fit}
use Rattle.operand_parts.specs.LiteralFaults.{key_fault, shape_fault, KeysFail, TypedShapeFails}

pub count_is : (xs : List Element) → element_count (elements_of xs) ≡ length xs
count_is [] = refl
count_is (Plain e ∷ xs) = let c = count_is xs in omega (arith, c)
count_is (Keyed n e ∷ xs) = let c = count_is xs in omega (arith, c)

key_tested : (is_field is_before : Bool) (at : Pos) → Tested (is_field && not is_before) (IsFault (key_fault is_field is_before at))
key_tested false is_before at = (_, refl)
key_tested true true at = (_, refl)
key_tested true false at = λ f h. h

-- no fault where a test says that none fails
none_least : (P : Fault → Type 0) (b : Bool) (r : Option Fault) → Tested b P → IsLeast P r → not (is_some r) ≡ b
none_least P true None t l = refl
none_least P false None t l = absurd (l t.0 t.1)
none_least P true (Some f) t l = absurd (t f l.0)
none_least P false (Some f) t l = refl

pub turned : (r : Option Fault) (b : Bool) → is_some r ≡ not b → b ≡ not (is_some r)
turned None true is = refl
turned None false is = cc is
turned (Some f) true is = cc is
turned (Some f) false is = refl

module _ (text : List ℕ) (s : Scope) (t : ValueType) where
  abbrev key_fault_in : Blocks → Name → Option Fault
  key_fault_in before n = key_fault (is_some (named_field s t (spelled text n))) (is_some (innermost before (spelled text n))) n.pos

  -- each key is right, or a rule fails in one
  pub keys_tested : (before : Blocks) (es : Elements) → Tested (keys_fit text s t before es) (KeysFail text s t before es)
  keys_tested before no_elements = λ f h. h
  keys_tested before (element None e es) = keys_tested before es
  keys_tested before (element (Some n) e es) =
      let later = insert before (spelled text n) 0 in
      let is_field = is_some (named_field s t (spelled text n)) in
      let is_before = is_some (innermost before (spelled text n)) in
      both_tested (IsFault (key_fault is_field is_before n.pos)) (KeysFail text s t later es) (is_field && not is_before) (keys_fit text s t later es) (key_tested is_field is_before n.pos) (keys_tested later es)

  pub keys_none : (before : Blocks) (es : Elements) (r : Option Fault) → IsLeast (KeysFail text s t before es) r → not (is_some r) ≡ keys_fit text s t before es
  keys_none before es r least = none_least (KeysFail text s t before es) (keys_fit text s t before es) r (keys_tested before es) least

  -- ---- one more element

  module _ (Whole : Fault → Type 0) (before : Blocks) (x : Element) (xs : List Element) (least : Option Fault) (kept : Kept Whole (KeysFail text s t before (elements_of (x ∷ xs))) least) where
    pub plain_more : (e : Expr) → x ≡ Plain e → Kept Whole (KeysFail text s t before (elements_of xs)) least
    plain_more e is = subst (λ (y : Element). Kept Whole (KeysFail text s t before (elements_of (y ∷ xs))) least) is kept

    pub keyed_more : (n : Name) (e : Expr) (own : Option Fault) → x ≡ Keyed n e → own ≡ key_fault_in before n → Kept Whole (KeysFail text s t (insert before (spelled text n) 0) (elements_of xs)) (lesser least own)
    keyed_more n e own is own_is =
        subst (λ (o : Option Fault). Kept Whole (KeysFail text s t (insert before (spelled text n) 0) (elements_of xs)) (lesser least o)) (sym own_is)
        (kept_more Whole (IsFault (key_fault_in before n)) (KeysFail text s t (insert before (spelled text n) 0) (elements_of xs)) least (key_fault_in before n)
        (subst (λ (y : Element). Kept Whole (KeysFail text s t before (elements_of (y ∷ xs))) least) is kept) (leaf (key_fault_in before n)))

-- the least fault of a struct's literal
pub struct_least : (text : List ℕ) (s : Scope) (first : Pos) (t : ValueType) (k : StructId) (es : Elements) (keys : Option Fault) → t ≡ Struct k → IsLeast (KeysFail text s t ([] ∷ []) es) keys
    → IsLeast (TypedShapeFails text s first t es) (lesser (shape_fault s.types first t es) keys)
struct_least text s first t k es keys is least =
    subst (λ (u : ValueType). IsLeast (TypedShapeFails text s first u es) (lesser (shape_fault s.types first u es) keys)) (sym is)
    (least_join (IsFault (shape_fault s.types first (Struct k) es)) (KeysFail text s (Struct k) ([] ∷ []) es) (shape_fault s.types first (Struct k) es) keys (leaf (shape_fault s.types first (Struct k) es))
    (subst (λ (u : ValueType). IsLeast (KeysFail text s u ([] ∷ []) es) keys) is least))
