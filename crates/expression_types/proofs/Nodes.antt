-- The least fault of an expression, of those of its parts and its own.
use Rattle.std.proofs.Common.{◌≡◌, ℕ, Bool, true, false, List, ◌⊎◌, Option, sym, subst}
use Rattle.std.proofs.lemmas.Bool.{false≢true}
use Rattle.syntax.specs.declared.expression.Name.{Name}
use Rattle.syntax.specs.FirstBytes.{first_pos}
use Rattle.syntax.specs.declared.operator.UnOp.{UnOp}
use Rattle.syntax.specs.declared.operator.BinOp.{BinOp}
use Rattle.syntax.specs.Expressions.{Ex as TreeEx, Exs as TreeExs, unary, binary, call, selector, index}
use Rattle.base.specs.declared.pos.Pos.{Pos}
use Rattle.type_faults.specs.declared.fault.Fault.{Fault}
use Rattle.type_faults.specs.Least.{IsLeast, IsLesserWith, lesser}
use Rattle.type_faults.specs.Faults.{IsFault, FormFails}
use Rattle.type_faults.proofs.Leasts.{least_join, leaf}
use Rattle.operators.specs.Operands.{Operand}
use Rattle.operators.specs.Operators.{has_rules}
use Rattle.operators.specs.Faults.{prefix_fault, pair_fault}
use Rattle.operand_parts.specs.PartFaults.{selector_fault, index_fault}
use Rattle.names.specs.Scope.{Scope}
use Rattle.names.specs.Naming.{name_in}
use Rattle.given_values.specs.Given.{Seen, Callee, operand_in, callee, spread_over}
use Rattle.expression_types.specs.Typing.{call_in, gives, seen}
use Rattle.given_values.specs.GivenFaults.{condition_fault, CallFails, CalleeFails}
use Rattle.expression_types.specs.Faults.{WhereTaken, Fails, FailsInEach, FailsAsOperand, FailsEarly, FailsInCondition, quiet_fault, early_fault}

taken_least : (b : Bool) (P Q : Fault → Type 0) (f : Option Fault) → b ≡ true → IsLeast P f → IsLeast (WhereTaken b P Q) f
taken_least true P Q f is least = least
taken_least false P Q f is least = absurd (false≢true is)

left_out_least : (b : Bool) (P Q : Fault → Type 0) (f : Option Fault) → b ≡ false → IsLeast Q f → IsLeast (WhereTaken b P Q) f
left_out_least false P Q f is least = least
left_out_least true P Q f is least = absurd (false≢true (sym is))

module _ (text : List ℕ) (s : Scope) where
  -- one operand, and the rule of what stands over it
  operand_least : (R : Option Operand → Option Fault) (e : TreeEx) (f : Option Fault) (o : Option Operand) → IsLeast (FailsAsOperand text s e) f → o ≡ operand_in (gives text s e)
      → IsLeast (λ g. FailsAsOperand text s e g ⊎ IsFault (R (operand_in (gives text s e))) g) (lesser f (R o))
  operand_least R e f o least is =
      subst (λ (p : Option Operand). IsLeast (λ g. FailsAsOperand text s e g ⊎ IsFault (R p) g) (lesser f (R o))) is
      (least_join (FailsAsOperand text s e) (IsFault (R o)) f (R o) least (leaf (R o)))

  pub unary_least : (at : Pos) (op : UnOp) (e : TreeEx) (f : Option Fault) (o : Option Operand) → has_rules op ≡ true → IsLeast (FailsAsOperand text s e) f → o ≡ operand_in (gives text s e)
      → IsLeast (Fails text s (unary at op e)) (lesser f (prefix_fault at op o))
  unary_least at op e f o taken least is =
      taken_least (has_rules op) (λ g. FailsAsOperand text s e g ⊎ IsFault (prefix_fault at op (operand_in (gives text s e))) g) (λ g. FormFails at g) (lesser f (prefix_fault at op o)) taken
      (operand_least (prefix_fault at op) e f o least is)

  pub unary_left_out : (at : Pos) (op : UnOp) (e : TreeEx) (f : Option Fault) → has_rules op ≡ false → IsLeast (FormFails at) f → IsLeast (Fails text s (unary at op e)) f
  unary_left_out at op e f is least =
      left_out_least (has_rules op) (λ g. FailsAsOperand text s e g ⊎ IsFault (prefix_fault at op (operand_in (gives text s e))) g) (λ g. FormFails at g) f is least

  pub condition_least : (at : Pos) (e : TreeEx) (f : Option Fault) (o : Option Operand) → IsLeast (FailsAsOperand text s e) f → o ≡ operand_in (gives text s e) → IsLeast (FailsInCondition text s at e) (lesser f (condition_fault at o))
  condition_least at e f o least is = operand_least (condition_fault at) e f o least is

  -- two operands that each have one value, and the rule of what stands over them
  two_least : (R : Option Operand → Option Operand → Option Fault) (a b : TreeEx) (f g : Option Fault) (o p : Option Operand) → IsLeast (FailsAsOperand text s a) f → IsLeast (FailsAsOperand text s b) g
      → o ≡ operand_in (gives text s a) → p ≡ operand_in (gives text s b)
      → IsLeast (λ k. (FailsAsOperand text s a k ⊎ FailsAsOperand text s b k) ⊎ IsFault (R (operand_in (gives text s a)) (operand_in (gives text s b))) k) (lesser (lesser f g) (R o p))
  two_least R a b f g o p left right o_is p_is =
      let both = least_join (λ k. FailsAsOperand text s a k ⊎ FailsAsOperand text s b k) (IsFault (R o p)) (lesser f g) (R o p) (least_join (FailsAsOperand text s a) (FailsAsOperand text s b) f g left right) (leaf (R o p)) in
      subst (λ (q : Option Operand). IsLeast (λ k. (FailsAsOperand text s a k ⊎ FailsAsOperand text s b k) ⊎ IsFault (R (operand_in (gives text s a)) q) k) (lesser (lesser f g) (R o p))) p_is
      (subst (λ (q : Option Operand). IsLeast (λ k. (FailsAsOperand text s a k ⊎ FailsAsOperand text s b k) ⊎ IsFault (R q p) k) (lesser (lesser f g) (R o p))) o_is both)

  -- a field of a value
  pub selector_least : (dot : Pos) (n : Name) (e : TreeEx) (f : Option Fault) (o : Option Operand) → IsLeast (FailsAsOperand text s e) f → o ≡ operand_in (gives text s e)
      → IsLeast (Fails text s (selector e dot n)) (lesser f (selector_fault text s (first_pos e) n o))
  selector_least dot n e f o least is = operand_least (selector_fault text s (first_pos e) n) e f o least is

  -- two operands that each have one value, and the rule of the operator on them
  pub binary_least : (at : Pos) (op : BinOp) (a b : TreeEx) (f g : Option Fault) (o p : Option Operand) → IsLeast (FailsAsOperand text s a) f → IsLeast (FailsAsOperand text s b) g
      → o ≡ operand_in (gives text s a) → p ≡ operand_in (gives text s b) → IsLeast (Fails text s (binary at op a b)) (lesser (lesser f g) (pair_fault (first_pos a) (first_pos b) op o p))
  binary_least at op a b f g o p left right o_is p_is =
      two_least (pair_fault (first_pos a) (first_pos b) op) a b f g o p left right o_is p_is

  -- an element, by its array and its index
  pub index_least : (bracket : Pos) (a b : TreeEx) (f g : Option Fault) (o p : Option Operand) → IsLeast (FailsAsOperand text s a) f → IsLeast (FailsAsOperand text s b) g
      → o ≡ operand_in (gives text s a) → p ≡ operand_in (gives text s b) → IsLeast (Fails text s (index a bracket b)) (lesser (lesser f g) (index_fault s.types (first_pos a) o p))
  index_least bracket a b f g o p left right o_is p_is = two_least (index_fault s.types (first_pos a)) a b f g o p left right o_is p_is

  pub call_least : (g : TreeEx) (es : TreeExs) (spread : Bool) (k : Callee) (os : List Seen) (a b inner : Option Fault) (f : Option Fault)
      → k ≡ spread_over spread (callee text s (name_in g) (gives text s g)) → os ≡ seen text s es → inner ≡ quiet_fault text s k es os
      → IsLeast (CalleeFails text s (name_in g) (λ h. Fails text s g h) (gives text s g)) a → IsLeast (FailsInEach text s es) b
      → IsLesserWith (λ h. CallFails (first_pos g) k os h ⊎ IsFault inner h) (lesser a b) f
      → IsLeast (Fails text s (call g es spread)) f
  call_least g es spread k os a b inner f k_is os_is inner_is called listed own =
      let C = CalleeFails text s (name_in g) (λ h. Fails text s g h) (gives text s g) in
      let K = spread_over spread (callee text s (name_in g) (gives text s g)) in
      let U : Callee → List Seen → Fault → Type 0 = λ k1 os1 h. CallFails (first_pos g) k1 os1 h ⊎ IsFault (quiet_fault text s k1 es os1) h in
      let own0 = subst (λ (x : Option Fault). IsLeast (λ h. CallFails (first_pos g) k os h ⊎ IsFault x h) own.0) inner_is own.1 in
      let own1 = subst (λ (k1 : Callee). IsLeast (U k1 os) own.0) k_is own0 in
      let own2 = subst (λ (os1 : List Seen). IsLeast (U K os1) own.0) os_is own1 in
      subst (λ (h : Option Fault). IsLeast (Fails text s (call g es spread)) h) (sym own.2)
      (least_join (λ h. C h ⊎ FailsInEach text s es h) (U K (seen text s es)) (lesser a b) own.0 (least_join C (FailsInEach text s es) a b called listed) own2)

  pub length_least : (e : TreeEx) (f : Option Fault) (o : Option Operand) → IsLeast (FailsAsOperand text s e) f → o ≡ operand_in (gives text s e)
      → IsLeast (FailsEarly text s e) (lesser f (early_fault (call_in e) o))
  length_least e f o least is = operand_least (early_fault (call_in e)) e f o least is
