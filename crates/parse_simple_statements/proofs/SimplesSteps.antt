-- A terminal after an expression, an operator or a value of a simple statement divides the texts by it from the left.
use Rattle.std.proofs.Common.{◌≡◌, ℕ, if◌then◌else◌, Bool, true, false, List, [], ◌∷◌, inl, inr, Option, Some, None, refl, sym, subst}
use Rattle.base.specs.declared.pos.Pos.{Pos}
use Rattle.syntax.specs.declared.operator.ArithmeticOp.{ArithmeticOp}
use Rattle.syntax.specs.declared.expression.Name.{Name}
use Rattle.syntax.specs.Expressions.{Ex, Exs, none, some}
use Rattle.syntax.specs.Statements.{Simple, express, increment, decrement, Targets}
use Rattle.syntax.specs.Lists.{with_ex}
use Rattle.parse_expressions.specs.declared.terminal.Terminal.{Terminal}
use Rattle.parse_expressions.specs.declared.terminal.Terminal.TheVariants.{Operator, Range, Assign, Update, Define, Increment, Decrement, Comma, Period, LeftParen, LeftBracket, LeftBrace}
use Rattle.parse_expressions.specs.Grammar.{Mark, inside}
use Rattle.parse_expressions.specs.Machine as expression
use Rattle.parse_expressions.specs.Machine.{Open, at_operand, operand}
use Rattle.parse_expressions.proofs.Following as following
use Rattle.parse_expressions.proofs.Following.{Iff}
use Rattle.parse_simple_statements.specs.Simples.{Context, expression_context, Listed, to_assign, to_update, to_define, listed_simple, at_value, fails, names_in, defines_names, behind_one, behind_list, behind_left, after_left, behind_value, after_value, ranges_over, step, nesting_after}
use Rattle.parse_expressions.proofs.Quotient.{quotient as open_quotient}
use Rattle.parse_expressions.proofs.Relations.{changed}
use Rattle.parse_simple_statements.proofs.Marks.{next_at_read, next_at_other, iff_same, iff_trans, and_then, only_left, only_right}
use Rattle.parse_simple_statements.proofs.Starts.{NeverEnds, operand_starts}
use Rattle.parse_simple_statements.proofs.ValueLists.{MoreValues, values_begin, values_comma, values_other, values_apart, value_valid}
use Rattle.parse_simple_statements.proofs.SimplesFollowing.{RangeOver, BehindOperator, Operated, assigned, updated, defined, Single, expressed, incremented, decremented, Alone, BehindLeft, BehindValue, Apart, GoesOn, After}

left_on : (p : Context) (t : Terminal) → following.GoesOn (expression_context p) t → GoesOn p t
left_on p (Operator q op) on = tt
left_on p (LeftParen q) on = tt
left_on p (Period q) on = tt
left_on p (LeftBracket q) on = tt
left_on p (LeftBrace q) on = on
left_on p t on = absurd on

-- a terminal that no list of expressions goes on with
abbrev NoOperator : Terminal → Type 0
NoOperator Comma = ⊥
NoOperator (Assign q) = ⊥
NoOperator (Update q op) = ⊥
NoOperator (Define q) = ⊥
NoOperator t = Unit {0}

module _ (p : Context) (K : Simple → List Mark → Type 0) (R : Targets → Pos → List Mark → Type 0) where
  -- ---- after a value

  pub value_is_apart : Apart p K → (l : Listed) (es : Exs) → following.Apart (expression_context p) (BehindValue p K l es)
  value_is_apart apart l es = values_apart p.literals p.depth (λ all_of m. K (listed_simple l all_of) m) es (λ xs t j w on. apart.never (listed_simple l xs) t j w (left_on p t on))

  behind_value_step : Apart p K → (l : Listed) (es : Exs) (e : Ex) (t : Terminal) (j : ℕ) (w : List Mark) → Iff (BehindValue p K l es e (inside t j ∷ w)) (After p K R (behind_value l (with_ex es e) t) p.depth t j w)
  behind_value_step apart l es e Comma j w = values_comma p.literals p.depth _ es e j w (apart.never (listed_simple l (with_ex es e)) Comma j w tt)
  behind_value_step apart l es e t j w = values_other p.literals p.depth (λ all_of m. K (listed_simple l all_of) m) es e t j w (λ is. cc)

  pub value_after : Apart p K → (l : Listed) (es : Exs) (x : Open) (t : Terminal) (j : ℕ) (w : List Mark) (q : expression.Progress) → following.ValidNext (expression_context p) q
      → Iff (following.After (expression_context p) (BehindValue p K l es) q (expression.nesting (expression_context p) x t) t j w) (After p K R (after_value l es t q) (nesting_after (expression_context p) x t q) t j w)
  value_after apart l es x t j w expression.fails valid = iff_same _
  value_after apart l es x t j w (expression.goes y) valid = iff_same _
  value_after apart l es x t j w (expression.ends e) valid = let i = behind_value_step apart l es e t j w in (λ h. i.0 h.1, λ h. (valid, i.1 h))

  -- ---- after the operator

  value_read : Apart p K → (l : Listed) (t : Terminal) (j : ℕ) (w : List Mark) → Iff (following.Rest (expression_context p) (BehindValue p K l none) (at_operand []) (inside t j ∷ w)) (After p K R (after_value l none t (expression.step (expression_context p) (at_operand []) t)) p.depth t j w)
  value_read apart l t j w = iff_trans _ _ _ (open_quotient (expression_context p) (BehindValue p K l none) (at_operand []) t j w (value_valid p.literals p.depth) (value_is_apart apart l none)) (starts (operand [] t) (operand_starts t))
    where
      starts : (q : expression.Progress) → NeverEnds q → Iff (following.After (expression_context p) (BehindValue p K l none) q p.depth t j w) (After p K R (after_value l none t q) p.depth t j w)
      starts expression.fails never = iff_same _
      starts (expression.goes y) never = iff_same _
      starts (expression.ends e) never = absurd never

  range_read : (flag : Bool) (l : Listed) (at : Pos) (j : ℕ) (w : List Mark) → Iff ((flag ≡ true) × ((j ≡ p.depth) × RangeOver R l at w)) (After p K R (if flag then ranges_over l at else fails) p.depth (Range at) j w)
  range_read true (to_assign ls q) at j w = (λ h. h.1, λ h. (refl, h))
  range_read true (to_update ls q op) at j w = (λ h. absurd h.1.1, λ h. absurd h)
  range_read true (to_define xs q) at j w = (λ h. h.1, λ h. (refl, h))
  range_read false l at j w = (λ h. absurd (cc (h.0)), λ h. absurd h)

  pub operator_step : Apart p K → (l : Listed) (t : Terminal) (j : ℕ) (w : List Mark) → Iff (BehindOperator p K R l (inside t j ∷ w)) (After p K R (step p (at_value l) t) p.depth t j w)
  operator_step apart l (Range at) j w =
      only_right _ _ _
      (λ v. (value_read apart l (Range at) j w).0 ((values_begin p.literals p.depth _ (inside (Range at) j ∷ w)).0 v))
      (iff_trans _ _ _ (and_then _ _ _ (next_at_read Range p.depth (RangeOver R l) at j w (λ q e. cc))) (range_read p.ranges l at j w))
  operator_step apart l t j w =
      only_left _ _ _
      (λ h. next_at_other Range p.depth (RangeOver R l) t j w (λ q e. cc) h.1)
      (iff_trans _ _ _ (values_begin p.literals p.depth (λ all_of m. K (listed_simple l all_of) m) (inside t j ∷ w)) (value_read apart l t j w))

  -- ---- after an expression that a statement begins with

  alone_some : (es : Exs) (e g : Ex) (m : List Mark) → Alone p K (with_ex es e) g m → ⊥
  alone_some none e g m h = h
  alone_some (some a es) e g m h = h

  operated_other : (ls : Exs) (t : Terminal) (j : ℕ) (w : List Mark) → NoOperator t → Operated p K R ls (inside t j ∷ w) → ⊥
  operated_other ls _ j w never (assigned h) = never
  operated_other ls _ j w never (updated h) = never
  operated_other ls _ j w never (defined may is h) = never

  operated_comma : (ls : Exs) (j : ℕ) (w : List Mark) → Operated p K R ls (inside Comma j ∷ w) → ⊥
  operated_comma ls j w h = elim h [ ]

  single_other : Apart p K → (e : Ex) (t : Terminal) (j : ℕ) (w : List Mark) → ((q : Pos) → t ≡ Increment q → ⊥) → ((q : Pos) → t ≡ Decrement q → ⊥) → Single p K e (inside t j ∷ w) → K (express e) (inside t j ∷ w)
  single_other apart e t j w never nor (expressed f) = f
  single_other apart e _ j w never nor (incremented {q = q} f) = absurd (never q refl)
  single_other apart e _ j w never nor (decremented {q = q} f) = absurd (nor q refl)

  -- an operator comes next
  operator_next : Apart p K → (es : Exs) (e : Ex) (t : Terminal) (j : ℕ) (w : List Mark) → (t ≡ Comma → ⊥) → GoesOn p t → ((q : Pos) → t ≡ Increment q → ⊥) → ((q : Pos) → t ≡ Decrement q → ⊥) → Iff (BehindLeft p K R es e (inside t j ∷ w)) (Operated p K R (with_ex es e) (inside t j ∷ w))
  operator_next apart es e t j w not_comma on never nor = only_left _ _ _ (alone es) (values_other p.literals p.depth (Operated p K R) es e t j w not_comma)
    where
      alone : (xs : Exs) → Alone p K xs e (inside t j ∷ w) → ⊥
      alone none h = apart.never (express e) t j w on (single_other apart e t j w never nor h)
      alone (some a xs) h = h

  assign_read : (ls : Exs) (q : Pos) (j : ℕ) (w : List Mark) → Iff (Operated p K R ls (inside (Assign q) j ∷ w)) ((j ≡ p.depth) × BehindOperator p K R (to_assign ls q) w)
  assign_read ls q j w = (to j, λ h. subst (λ (i : ℕ). Operated p K R ls (inside (Assign q) i ∷ w)) (sym h.0) (assigned h.1))
    where
      to : (i : ℕ) → Operated p K R ls (inside (Assign q) i ∷ w) → (i ≡ p.depth) × BehindOperator p K R (to_assign ls q) w
      to _ (assigned h) = (refl, h)

  update_read : (ls : Exs) (q : Pos) (op : ArithmeticOp) (j : ℕ) (w : List Mark) → Iff (Operated p K R ls (inside (Update q op) j ∷ w)) ((j ≡ p.depth) × BehindOperator p K R (to_update ls q op) w)
  update_read ls q op j w = (to j, λ h. subst (λ (i : ℕ). Operated p K R ls (inside (Update q op) i ∷ w)) (sym h.0) (updated h.1))
    where
      to : (i : ℕ) → Operated p K R ls (inside (Update q op) i ∷ w) → (i ≡ p.depth) × BehindOperator p K R (to_update ls q op) w
      to _ (updated h) = (refl, h)

  define_read : (ls : Exs) (q : Pos) (j : ℕ) (w : List Mark) → Iff (Operated p K R ls (inside (Define q) j ∷ w)) ((j ≡ p.depth) × ((p.defines ≡ true) × (xs : List Name) × (names_in ls ≡ Some xs) × BehindOperator p K R (to_define xs q) w))
  define_read ls q j w = (to j, λ h. subst (λ (i : ℕ). Operated p K R ls (inside (Define q) i ∷ w)) (sym h.0) (defined h.1.0 h.1.2 h.1.3))
    where
      to : (i : ℕ) → Operated p K R ls (inside (Define q) i ∷ w) → (i ≡ p.depth) × ((p.defines ≡ true) × (xs : List Name) × (names_in ls ≡ Some xs) × BehindOperator p K R (to_define xs q) w)
      to _ (defined {xs = xs} may is h) = (refl, (may, xs, is, h))

  -- where a `:=` may stand, after names alone
  defines_read : (flag : Bool) (found : Option (List Name)) (q : Pos) (j : ℕ) (w : List Mark) → Iff ((j ≡ p.depth) × ((flag ≡ true) × (xs : List Name) × (found ≡ Some xs) × BehindOperator p K R (to_define xs q) w)) (After p K R (if flag then defines_names found q else fails) p.depth (Define q) j w)
  defines_read true (Some xs) q j w = (
    λ h.
        let d = h.1 in
        let same : d.1 ≡ xs = cc (d.2) in
        (h.0, subst (λ (ys : List Name). BehindOperator p K R (to_define ys q) w) same d.3),
    λ h. (h.0, (refl, xs, refl, h.1)),
  )
  defines_read true None q j w = (λ h. let d = h.1 in absurd (cc (d.2)), λ h. absurd h)
  defines_read false found q j w = (λ h. let d = h.1 in absurd (cc (d.0)), λ h. absurd h)

  left_comma : Apart p K → (es : Exs) (e : Ex) (j : ℕ) (w : List Mark) → Iff (BehindLeft p K R es e (inside Comma j ∷ w)) ((j ≡ p.depth) × following.Rest (expression_context p) (BehindLeft p K R (with_ex es e)) (at_operand []) w)
  left_comma apart es e j w =
      only_left _ _ _ (alone es)
      (iff_trans _ _ _ (values_comma p.literals p.depth (Operated p K R) es e j w (operated_comma (with_ex es e) j w))
      (and_then _ _ _ (
        changed (expression_context p) (MoreValues p.literals p.depth (Operated p K R) (with_ex es e)) (BehindLeft p K R (with_ex es e)) (at_operand []) w (λ g m h. inl h),
        changed (expression_context p) (BehindLeft p K R (with_ex es e)) (MoreValues p.literals p.depth (Operated p K R) (with_ex es e)) (at_operand []) w (λ g m h. elim h [ inl f ↦ f | inr f ↦ absurd (alone_some es e g m f) ]),
      )))
    where
      alone : (xs : Exs) → Alone p K xs e (inside Comma j ∷ w) → ⊥
      alone none h = apart.never (express e) Comma j w tt (single_other apart e Comma j w (λ q is. cc) (λ q is. cc) h)
      alone (some a xs) h = h

  -- ---- after an expression that is no list

  one_step : Apart p K → (e : Ex) (t : Terminal) (j : ℕ) (w : List Mark) → Iff (Single p K e (inside t j ∷ w)) (After p K R (behind_one e t) p.depth t j w)
  one_step apart e (Increment q) j w = (to j, λ h. subst (λ (i : ℕ). Single p K e (inside (Increment q) i ∷ w)) (sym h.0) (incremented h.1))
    where
      to : (i : ℕ) → Single p K e (inside (Increment q) i ∷ w) → (i ≡ p.depth) × K (increment e q) w
      to i (expressed f) = absurd (apart.never (express e) (Increment q) i w tt f)
      to _ (incremented f) = (refl, f)
  one_step apart e (Decrement q) j w = (to j, λ h. subst (λ (i : ℕ). Single p K e (inside (Decrement q) i ∷ w)) (sym h.0) (decremented h.1))
    where
      to : (i : ℕ) → Single p K e (inside (Decrement q) i ∷ w) → (i ≡ p.depth) × K (decrement e q) w
      to i (expressed f) = absurd (apart.never (express e) (Decrement q) i w tt f)
      to _ (decremented f) = (refl, f)
  one_step apart e t j w = (single_other apart e t j w (λ q is. cc) (λ q is. cc), λ f. expressed f)

  list_step : Apart p K → (es : Exs) (e : Ex) (t : Terminal) (j : ℕ) (w : List Mark) → Iff (Alone p K es e (inside t j ∷ w)) (After p K R (behind_list es e t) p.depth t j w)
  list_step apart none e t j w = one_step apart e t j w
  list_step apart (some a es) e t j w = iff_same _

  no_operator : (es : Exs) (e : Ex) (t : Terminal) (j : ℕ) (w : List Mark) → NoOperator t → Iff (BehindLeft p K R es e (inside t j ∷ w)) (Alone p K es e (inside t j ∷ w))
  no_operator es e t j w never = only_right _ _ _ (λ h. operated_other (with_ex es e) t j w never ((values_other p.literals p.depth (Operated p K R) es e t j w (λ is. subst NoOperator is never)).0 h)) (iff_same _)

  behind_left_step : Apart p K → (es : Exs) (e : Ex) (t : Terminal) (j : ℕ) (w : List Mark) → Iff (BehindLeft p K R es e (inside t j ∷ w)) (After p K R (behind_left p es e t) p.depth t j w)
  behind_left_step apart es e Comma j w = left_comma apart es e j w
  behind_left_step apart es e (Assign q) j w = iff_trans _ _ _ (operator_next apart es e (Assign q) j w (λ is. cc) tt (λ x is. cc) (λ x is. cc)) (assign_read (with_ex es e) q j w)
  behind_left_step apart es e (Update q op) j w = iff_trans _ _ _ (operator_next apart es e (Update q op) j w (λ is. cc) tt (λ x is. cc) (λ x is. cc)) (update_read (with_ex es e) q op j w)
  behind_left_step apart es e (Define q) j w = iff_trans _ _ _ (operator_next apart es e (Define q) j w (λ is. cc) tt (λ x is. cc) (λ x is. cc)) (iff_trans _ _ _ (define_read (with_ex es e) q j w) (defines_read p.defines (names_in (with_ex es e)) q j w))
  behind_left_step apart es e t j w = iff_trans _ _ _ (no_operator es e t j w tt) (list_step apart es e t j w)

  pub left_after : Apart p K → (es : Exs) (x : Open) (t : Terminal) (j : ℕ) (w : List Mark) (q : expression.Progress) → following.ValidNext (expression_context p) q
      → Iff (following.After (expression_context p) (BehindLeft p K R es) q (expression.nesting (expression_context p) x t) t j w) (After p K R (after_left p es t q) (nesting_after (expression_context p) x t q) t j w)
  left_after apart es x t j w expression.fails valid = iff_same _
  left_after apart es x t j w (expression.goes y) valid = iff_same _
  left_after apart es x t j w (expression.ends e) valid = let i = behind_left_step apart es e t j w in (λ h. i.0 h.1, λ h. (valid, i.1 h))

  pub left_is_apart : Apart p K → (es : Exs) → following.Apart (expression_context p) (BehindLeft p K R es)
  left_is_apart apart es = record { never = λ is e t j w on h. elim h [ inl f ↦ (values_is_apart).never is e t j w on f | inr f ↦ alone es e t j w on f ] }
    where
      operator_on : (ls : Exs) (t : Terminal) (j : ℕ) (w : List Mark) → following.GoesOn (expression_context p) t → Operated p K R ls (inside t j ∷ w) → ⊥
      operator_on ls _ j w on (assigned h) = on
      operator_on ls _ j w on (updated h) = on
      operator_on ls _ j w on (defined may is h) = on

      values_is_apart : following.Apart (expression_context p) (MoreValues p.literals p.depth (Operated p K R) es)
      values_is_apart = values_apart p.literals p.depth (Operated p K R) es operator_on

      alone : (xs : Exs) (e : Ex) (t : Terminal) (j : ℕ) (w : List Mark) → following.GoesOn (expression_context p) t → Alone p K xs e (inside t j ∷ w) → ⊥
      alone none e t j w on h = apart.never (express e) t j w (left_on p t on) (single_other apart e t j w (λ q is. subst (following.GoesOn (expression_context p)) is on) (λ q is. subst (following.GoesOn (expression_context p)) is on) h)
      alone (some a xs) e t j w on h = h
