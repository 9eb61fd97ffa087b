-- What each state keeps, and that some text follows in each of them.
use Rattle.std.proofs.Common.{◌≡◌, ℕ, suc, ◌≤◌, Bool, true, false, List, [], ◌∷◌, ◌⊎◌, inl, inr, Option, Some, None, refl, sym, subst, arith}
use Rattle.std.specs.Prelude.{if◌then◌else◌}
use Rattle.base.specs.declared.pos.Pos.{Pos}
use Rattle.syntax.specs.declared.operator.BinOp.{BinOp}
use Rattle.syntax.specs.declared.operator.UnOp.TheVariants.{Star}
use Rattle.syntax.specs.declared.expression.Name.{Name}
use Rattle.syntax.specs.Expressions.{Ex, number, string, name, unary, binary, paren, call, selector, index, slice, array_type, slice_type, literal, Exs, Bound, no_bound, bound_at, Elements, no_elements}
use Rattle.syntax.specs.Heights.{precedence}
use Rattle.syntax.specs.Lists.{with_ex, with_element}
use Rattle.parse_expressions.specs.declared.terminal.Terminal.{Terminal}
use Rattle.parse_expressions.specs.declared.terminal.Terminal.TheVariants.{Identifier, Number, String, Operator, Comma, Colon, Period, Ellipsis, LeftParen, RightParen, LeftBracket, RightBracket, LeftBrace, RightBrace}
use Rattle.parse_expressions.specs.Terminals.{Prefix, prefix, prefix_in}
use Rattle.parse_expressions.specs.Grammar.{Mark, inside, IsValue}
use Rattle.parse_expressions.specs.Frames.{Container, of_type, of_element, Frame, prefixed, enclosed, awaiting, calling, indexing, bounding, measuring, filling, pointing, of_array, of_slice, enclosed_type, open_depth, allows}
use Rattle.parse_expressions.specs.Machine.{Context, Open, at_operand, at_argument, at_spread, at_call_end, at_bracket, at_type_operand, at_type_end, at_type, at_operator, at_selector, at_index, at_high, at_element, at_value, at_element_end, fails, goes, ends, after_prefix, operand, type_done, after_type_prefix, type_operand, reduce, filled, closes, closes_reduced, brace_behind_name, behind_operand, is_bracket_type, allows_type, reduce_type, closes_type, behind_inner_type, behind_type, step}
use Rattle.parse_expressions.proofs.Growth.{tightness, IsLiteralType, IsTypeOnly, whole, more}
use Rattle.parse_expressions.proofs.Splits.{precedence_small}
use Rattle.parse_expressions.proofs.ListEnds.{argument_paren, element_brace}
use Rattle.parse_expressions.proofs.OpenFrames.{value_fits, value_unary, base_level, base_type_level, IsOpen, reduce_valid}
use Rattle.parse_expressions.proofs.ClosingSteps.{reduce_type_valid}
use Rattle.parse_expressions.proofs.Following.{level, Standing, Valid, Behind, contained, Close, Have, Wants, WantsType, Rest, TakesEx, TakesType, IsOperand, IsInnerType, TakesElement, ValidOpen, ValidNext}

-- ---- what each state keeps

-- an operand on top of fs
is_operand : (b : Context) (fs : List Frame) (e : Ex) → level b fs ≤ 6 → Valid b fs → 7 ≤ tightness e → IsValue e → IsOperand b fs e
is_operand b fs e small valid tight value = record { takes = record { level_small = small; valid = valid }; tight = tight; is_value = value }

prefix_valid : (b : Context) (fs : List Frame) (p : Option Prefix) → level b fs ≤ 6 → Valid b fs → ValidNext b (after_prefix fs p)
prefix_valid b fs None small valid = tt
prefix_valid b fs (Some (prefix pos op)) small valid = (omega arith, record { level_small = omega arith; valid = (small, valid) })

operand_valid : (b : Context) (fs : List Frame) (t : Terminal) → level b fs ≤ 6 → Valid b fs → ValidNext b (operand fs t)
operand_valid b fs (Number pos n) small valid = is_operand b fs (number pos n) small valid (omega arith) tt
operand_valid b fs (String pos end) small valid = is_operand b fs (string pos end) small valid (omega arith) tt
operand_valid b fs (Identifier x) small valid = is_operand b fs (name x) small valid (omega arith) tt
operand_valid b fs (LeftParen pos) small valid = (omega arith, record { level_small = omega arith; valid = (small, valid) })
operand_valid b fs (LeftBracket pos) small valid = valid
operand_valid b fs t small valid = prefix_valid b fs (prefix_in t) small valid

type_prefix_valid : (b : Context) (fs : List Frame) (p : Option Prefix) → level b fs ≡ 8 → Valid b fs → ValidNext b (after_type_prefix fs p)
type_prefix_valid b fs (Some (prefix pos Star)) is valid = record { level_is = refl; valid = (is, valid) }
type_prefix_valid b fs p is valid = tt

-- a type that was read inside another, or inside an expression, where it has brackets
type_done_valid : (b : Context) (fs : List Frame) (e : Ex) → Valid b fs → (level b fs ≡ 8) ⊎ ((7 ≤ tightness e) × IsTypeOnly e × (is_bracket_type e ≡ true)) → ValidOpen b (type_done fs e)
type_done_valid b (pointing pos ∷ fs) e valid is = type_done_valid b fs (unary pos Star e) valid.1 (inl valid.0)
type_done_valid b (of_array pos len ∷ fs) e valid is = type_done_valid b fs (array_type pos len e) valid (inr (omega arith, tt, refl))
type_done_valid b (of_slice pos ∷ fs) e valid is = type_done_valid b fs (slice_type pos e) valid (inr (omega arith, tt, refl))
type_done_valid b (enclosed_type pos ∷ fs) e valid is = record { level_is = valid.0; valid = valid.1 }
type_done_valid b [] e valid is = by b.types refl
  where
    by : (l : Bool) → b.types ≡ l → ValidOpen b (at_type [] e)
    by true types = inl (refl, types)
    by false types = elim is [
      | inl eight ↦ absurd (omega (arith, eight, base_level b types))
      | inr i ↦ inr (record { takes = record { level_small = omega (arith, base_level b types); valid = tt }; tight = i.0; is_type = i.1; stands = inl i.2 })
    ]
type_done_valid b (prefixed pos op ∷ fs) e valid is = elim is [ inl eight ↦ absurd (omega (arith, eight)) | inr i ↦ inr (record { takes = record { level_small = omega arith; valid = valid }; tight = i.0; is_type = i.1; stands = inl i.2 }) ]
type_done_valid b (awaiting a pos op ∷ fs) e valid is = elim is [ inl eight ↦ absurd (omega (arith, eight, precedence_small op)) | inr i ↦ inr (record { takes = record { level_small = omega (arith, precedence_small op); valid = valid }; tight = i.0; is_type = i.1; stands = inl i.2 }) ]
type_done_valid b (f ∷ fs) e valid is = elim is [ inl eight ↦ absurd (omega (arith, eight)) | inr i ↦ inr (record { takes = record { level_small = omega arith; valid = valid }; tight = i.0; is_type = i.1; stands = inl i.2 }) ]

type_operand_valid : (b : Context) (fs : List Frame) (t : Terminal) → level b fs ≡ 8 → Valid b fs → ValidNext b (type_operand fs t)
type_operand_valid b fs (Identifier x) is valid = type_done_valid b fs (name x) valid (inl is)
type_operand_valid b fs (LeftParen pos) is valid = record { level_is = refl; valid = (is, valid) }
type_operand_valid b fs (LeftBracket pos) is valid = valid
type_operand_valid b fs t is valid = type_prefix_valid b fs (prefix_in t) is valid

filled_valid : (b : Context) (fs : List Frame) (c : Container) (es : Elements) → level b fs ≤ 6 → Standing c fs → Valid b fs → ValidOpen b (filled fs c es)
filled_valid b fs (of_type t) es small stands valid = is_operand b fs (literal t es) small valid (omega arith) tt
filled_valid b (filling c before key ∷ fs) (of_element pos) es small stands valid = record { takes = record { level_small = valid.0; valid = valid.2 }; standing = valid.1 }
filled_valid b fs (of_element pos) es small stands valid = absurd stands

closes_valid : (b : Context) (fs : List Frame) (e : Ex) (t : Terminal) → IsOpen fs → Valid b fs → IsValue e → ValidNext b (closes fs e t)
closes_valid b [] e t is_open valid value = λ is. value
closes_valid b (enclosed pos ∷ fs) e RightParen is_open valid value = is_operand b fs (paren pos e) valid.0 valid.1 (omega arith) value
closes_valid b (enclosed pos ∷ fs) e t is_open valid value = tt
closes_valid b (calling f es ∷ fs) e Comma is_open valid value = record { level_small = valid.0; valid = valid.1 }
closes_valid b (calling f es ∷ fs) e Ellipsis is_open valid value = record { level_small = valid.0; valid = valid.1 }
closes_valid b (calling f es ∷ fs) e RightParen is_open valid value = is_operand b fs (call f (with_ex es e) false) valid.0 valid.1 (omega arith) tt
closes_valid b (calling f es ∷ fs) e t is_open valid value = tt
closes_valid b (indexing a pos ∷ fs) e RightBracket is_open valid value = is_operand b fs (index a pos e) valid.0 valid.1 (omega arith) tt
closes_valid b (indexing a pos ∷ fs) e Colon is_open valid value = record { level_small = valid.0; valid = valid.1 }
closes_valid b (indexing a pos ∷ fs) e t is_open valid value = tt
closes_valid b (bounding a pos low ∷ fs) e RightBracket is_open valid value = is_operand b fs (slice a pos low (bound_at e)) valid.0 valid.1 (omega arith) tt
closes_valid b (bounding a pos low ∷ fs) e t is_open valid value = tt
closes_valid b (measuring pos ∷ fs) e RightBracket is_open valid value = record { level_is = refl; valid = valid }
closes_valid b (measuring pos ∷ fs) e t is_open valid value = tt
closes_valid b (filling c es key ∷ fs) e Comma is_open valid value = record { takes = record { level_small = valid.0; valid = valid.2 }; standing = valid.1 }
closes_valid b (filling c es key ∷ fs) e (RightBrace end) is_open valid value = filled_valid b fs c (with_element es key e) valid.0 valid.1 valid.2
closes_valid b (filling c es key ∷ fs) e t is_open valid value = tt
closes_valid b (prefixed pos op ∷ fs) e t is_open valid value = absurd is_open
closes_valid b (awaiting a pos op ∷ fs) e t is_open valid value = absurd is_open
closes_valid b (pointing pos ∷ fs) e t is_open valid value = absurd is_open
closes_valid b (of_array pos len ∷ fs) e t is_open valid value = absurd is_open
closes_valid b (of_slice pos ∷ fs) e t is_open valid value = absurd is_open
closes_valid b (enclosed_type pos ∷ fs) e t is_open valid value = absurd is_open

ends_valid : (b : Context) (fs : List Frame) (e : Ex) (t : Terminal) → IsOperand b fs e → ValidNext b (closes_reduced fs e t)
ends_valid b fs e t o =
    let ok = reduce_valid b 0 fs e o.takes.level_small o.takes.valid (omega (arith, o.takes.level_small, o.tight)) (omega arith) (omega arith) o.is_value in
    closes_valid b (reduce 0 fs e).0 (reduce 0 fs e).1 t (ok.is_open refl) ok.takes.valid ok.is_value

operator_valid : (b : Context) (fs : List Frame) (e : Ex) (pos : Pos) (op : BinOp) → IsOperand b fs e → ValidOpen b (at_operand (awaiting (reduce (precedence op) fs e).1 pos op ∷ (reduce (precedence op) fs e).0))
operator_valid b fs e pos op o =
    let low = precedence_small op in
    let ok = reduce_valid b (precedence op) fs e o.takes.level_small o.takes.valid (omega (arith, o.takes.level_small, o.tight)) (omega (arith, low, o.tight)) low.1 o.is_value in
    (omega arith, record { level_small = omega (arith, low); valid = (ok.below low.0, ok.takes.valid) })

brace_valid : (b : Context) (fs : List Frame) (x : Name) (pos : Pos) → IsOperand b fs (name x) → ValidNext b (brace_behind_name b fs x pos)
brace_valid b fs x pos o = by (allows b.literals fs)
  where
    by : (l : Bool) → ValidNext b (if l then goes (at_element fs (of_type (name x)) no_elements) else closes_reduced fs (name x) (LeftBrace pos))
    by true = record { takes = o.takes; standing = tt }
    by false = ends_valid b fs (name x) (LeftBrace pos) o

behind_valid : (b : Context) (fs : List Frame) (e : Ex) (t : Terminal) → IsOperand b fs e → ValidNext b (behind_operand b fs e t)
behind_valid b fs e (Operator pos op) o = operator_valid b fs e pos op o
behind_valid b fs e (LeftParen pos) o = o.takes
behind_valid b fs e (Period pos) o = o.takes
behind_valid b fs e (LeftBracket pos) o = o.takes
behind_valid b fs (name x) (LeftBrace pos) o = brace_valid b fs x pos o
behind_valid b (filling c es None ∷ fs) (name x) Colon o = let v = o.takes.valid in record { takes = record { level_small = v.0; valid = v.2 }; standing = v.1 }
behind_valid b fs e t o = ends_valid b fs e t o

closes_type_valid : (b : Context) (fs : List Frame) (e : Ex) (t : Terminal) → Valid b fs → IsTypeOnly e → ValidNext b (closes_type fs e t)
closes_type_valid b (enclosed pos ∷ fs) e RightParen valid is = by (allows_type fs) refl
  where
    by : (l : Bool) → allows_type fs ≡ l → ValidNext b (if l then goes (at_type fs (paren pos e)) else fails)
    by true argument = inr (record { takes = record { level_small = valid.0; valid = valid.1 }; tight = omega arith; is_type = is; stands = inr argument })
    by false argument = tt
closes_type_valid b (calling f es ∷ fs) e Comma valid is = record { level_small = valid.0; valid = valid.1 }
closes_type_valid b (calling f es ∷ fs) e Ellipsis valid is = record { level_small = valid.0; valid = valid.1 }
closes_type_valid b (calling f es ∷ fs) e RightParen valid is = is_operand b fs (call f (with_ex es e) false) valid.0 valid.1 (omega arith) tt
closes_type_valid b fs e t valid is = tt

bracket_valid : (b : Context) (fs : List Frame) (e : Ex) (pos : Pos) → IsInnerType b fs e → ValidNext b (behind_inner_type fs e (LeftBrace pos))
bracket_valid b fs (array_type at len e) pos o = record { takes = o.takes; standing = tt }
bracket_valid b fs (slice_type at e) pos o = record { takes = o.takes; standing = tt }
bracket_valid b fs e pos o = tt

inner_type_valid : (b : Context) (fs : List Frame) (e : Ex) (t : Terminal) → IsInnerType b fs e → ValidNext b (behind_inner_type fs e t)
inner_type_valid b fs e (LeftBrace pos) o = bracket_valid b fs e pos o
inner_type_valid b fs e t o = let ok = reduce_type_valid b fs e o.takes (omega (arith, o.tight)) o.is_type in closes_type_valid b (reduce_type fs e).0 (reduce_type fs e).1 t ok.takes.valid ok.is_type

base_type_valid : (b : Context) (e : Ex) (t : Terminal) → ValidOpen b (at_type [] e) → ValidNext b (behind_type b [] e t)
base_type_valid b e t valid = by b.types refl
  where
    by : (l : Bool) → b.types ≡ l → ValidNext b (if l then ends e else behind_inner_type [] e t)
    by true is = λ no_types. absurd (cc (is, no_types))
    by false is = elim valid [ inl i ↦ absurd (cc (is, i.1)) | inr i ↦ inner_type_valid b [] e t i ]

at_type_valid : (b : Context) (fs : List Frame) (e : Ex) (t : Terminal) → ValidOpen b (at_type fs e) → ValidNext b (behind_type b fs e t)
at_type_valid b [] e t valid = base_type_valid b e t valid
at_type_valid b (f ∷ fs) e t valid = elim valid [ inl i ↦ absurd (cc (i.0)) | inr i ↦ inner_type_valid b (f ∷ fs) e t i ]

argument_valid : (b : Context) (fs : List Frame) (f : Ex) (es : Exs) (t : Terminal) → TakesEx b fs → ValidNext b (step b (at_argument fs f es) t)
argument_valid b fs f es RightParen takes = is_operand b fs (call f es false) takes.level_small takes.valid (omega arith) tt
argument_valid b fs f es t takes = operand_valid b (calling f es ∷ fs) t (omega arith) (takes.level_small, takes.valid)

spread_valid : (b : Context) (fs : List Frame) (f : Ex) (es : Exs) (t : Terminal) → TakesEx b fs → ValidNext b (step b (at_spread fs f es) t)
spread_valid b fs f es Comma takes = takes
spread_valid b fs f es RightParen takes = is_operand b fs (call f es true) takes.level_small takes.valid (omega arith) tt
spread_valid b fs f es t takes = tt

call_end_valid : (b : Context) (fs : List Frame) (f : Ex) (es : Exs) (t : Terminal) → TakesEx b fs → ValidNext b (step b (at_call_end fs f es) t)
call_end_valid b fs f es RightParen takes = is_operand b fs (call f es true) takes.level_small takes.valid (omega arith) tt
call_end_valid b fs f es t takes = tt

at_bracket_valid : (b : Context) (fs : List Frame) (pos : Pos) (t : Terminal) → Valid b fs → ValidNext b (step b (at_bracket fs pos) t)
at_bracket_valid b fs pos RightBracket valid = record { level_is = refl; valid = valid }
at_bracket_valid b fs pos t valid = operand_valid b (measuring pos ∷ fs) t (omega arith) valid

type_end_valid : (b : Context) (fs : List Frame) (pos : Pos) (e : Ex) (t : Terminal) → TakesType b fs → ValidNext b (step b (at_type_end fs pos e) t)
type_end_valid b fs pos e RightParen takes = type_done_valid b fs (paren pos e) takes.valid (inl takes.level_is)
type_end_valid b fs pos e t takes = tt

selector_valid : (b : Context) (fs : List Frame) (e : Ex) (pos : Pos) (t : Terminal) → TakesEx b fs → ValidNext b (step b (at_selector fs e pos) t)
selector_valid b fs e pos (Identifier x) takes = is_operand b fs (selector e pos x) takes.level_small takes.valid (omega arith) tt
selector_valid b fs e pos t takes = tt

index_valid : (b : Context) (fs : List Frame) (e : Ex) (pos : Pos) (t : Terminal) → TakesEx b fs → ValidNext b (step b (at_index fs e pos) t)
index_valid b fs e pos Colon takes = takes
index_valid b fs e pos t takes = operand_valid b (indexing e pos ∷ fs) t (omega arith) (takes.level_small, takes.valid)

high_valid : (b : Context) (fs : List Frame) (e : Ex) (pos : Pos) (low : Bound) (t : Terminal) → TakesEx b fs → ValidNext b (step b (at_high fs e pos low) t)
high_valid b fs e pos low RightBracket takes = is_operand b fs (slice e pos low no_bound) takes.level_small takes.valid (omega arith) tt
high_valid b fs e pos low t takes = operand_valid b (bounding e pos low ∷ fs) t (omega arith) (takes.level_small, takes.valid)

element_valid : (b : Context) (fs : List Frame) (c : Container) (es : Elements) (t : Terminal) → TakesElement b fs c → ValidNext b (step b (at_element fs c es) t)
element_valid b fs c es (RightBrace end) takes = filled_valid b fs c es takes.takes.level_small takes.standing takes.takes.valid
element_valid b fs c es (LeftBrace pos) takes = record { takes = record { level_small = omega arith; valid = (takes.takes.level_small, takes.standing, takes.takes.valid) }; standing = tt }
element_valid b fs c es t takes = operand_valid b (filling c es None ∷ fs) t (omega arith) (takes.takes.level_small, takes.standing, takes.takes.valid)

value_valid : (b : Context) (fs : List Frame) (c : Container) (es : Elements) (x : Name) (t : Terminal) → TakesElement b fs c → ValidNext b (step b (at_value fs c es x) t)
value_valid b fs c es x (LeftBrace pos) takes = record { takes = record { level_small = omega arith; valid = (takes.takes.level_small, takes.standing, takes.takes.valid) }; standing = tt }
value_valid b fs c es x t takes = operand_valid b (filling c es (Some x) ∷ fs) t (omega arith) (takes.takes.level_small, takes.standing, takes.takes.valid)

element_end_valid : (b : Context) (fs : List Frame) (c : Container) (es : Elements) (t : Terminal) → TakesElement b fs c → ValidNext b (step b (at_element_end fs c es) t)
element_end_valid b fs c es Comma takes = takes
element_end_valid b fs c es (RightBrace end) takes = filled_valid b fs c es takes.takes.level_small takes.standing takes.takes.valid
element_end_valid b fs c es t takes = tt

pub valid_next : (b : Context) (s : Open) (t : Terminal) → ValidOpen b s → ValidNext b (step b s t)
valid_next b (at_operand fs) t valid = operand_valid b fs t valid.1.level_small valid.1.valid
valid_next b (at_argument fs f es) t valid = argument_valid b fs f es t valid
valid_next b (at_spread fs f es) t valid = spread_valid b fs f es t valid
valid_next b (at_call_end fs f es) t valid = call_end_valid b fs f es t valid
valid_next b (at_bracket fs pos) t valid = at_bracket_valid b fs pos t valid
valid_next b (at_type_operand fs) t valid = type_operand_valid b fs t valid.level_is valid.valid
valid_next b (at_type_end fs pos e) t valid = type_end_valid b fs pos e t valid
valid_next b (at_type fs e) t valid = at_type_valid b fs e t valid
valid_next b (at_operator fs e) t valid = behind_valid b fs e t valid
valid_next b (at_selector fs e pos) t valid = selector_valid b fs e pos t valid
valid_next b (at_index fs e pos) t valid = index_valid b fs e pos t valid
valid_next b (at_high fs e pos low) t valid = high_valid b fs e pos low t valid
valid_next b (at_element fs c es) t valid = element_valid b fs c es t valid
valid_next b (at_value fs c es x) t valid = value_valid b fs c es x t valid
valid_next b (at_element_end fs c es) t valid = element_end_valid b fs c es t valid

pub valid_step : (b : Context) (s : Open) (t : Terminal) (next : Open) → ValidOpen b s → step b s t ≡ goes next → ValidOpen b next
valid_step b s t next valid is = subst (ValidNext b) is (valid_next b s t valid)

pub valid_end : (b : Context) (s : Open) (t : Terminal) (e : Ex) → ValidOpen b s → step b s t ≡ ends e → b.types ≡ false → IsValue e
valid_end b s t e valid is = subst (ValidNext b) is (valid_next b s t valid)

-- ---- some text follows in each state

abbrev origin : Pos
origin = record { offset = 0; line = 1; col = 1 }

abbrev some_name : Name
some_name = record { pos = origin; end = 0 }

level_cases : (b : Context) (fs : List Frame) → (level b fs ≤ 6) ⊎ (level b fs ≡ 8)
level_cases b [] = by b.types refl
  where
    by : (l : Bool) → b.types ≡ l → (level b [] ≤ 6) ⊎ (level b [] ≡ 8)
    by true is = inr (base_type_level b is)
    by false is = inl (omega (arith, base_level b is))
level_cases b (awaiting a pos op ∷ fs) = inl (omega (arith, precedence_small op))
level_cases b (pointing pos ∷ fs) = inr refl
level_cases b (of_array pos len ∷ fs) = inr refl
level_cases b (of_slice pos ∷ fs) = inr refl
level_cases b (enclosed_type pos ∷ fs) = inr refl
level_cases b (f ∷ fs) = inl (omega arith)

contained_value : (c : Container) (es : Elements) → IsValue (contained c es)
contained_value (of_type t) es = tt
contained_value (of_element pos) es = tt

contained_tight : (b : Context) (c : Container) (es : Elements) (fs : List Frame) → Standing c fs → level b fs ≤ 6 → level b fs ≤ tightness (contained c es)
contained_tight b (of_type t) es fs stands small = omega (arith, small)
contained_tight b (of_element pos) es (filling c before key ∷ fs) stands small = omega arith
contained_tight b (of_element pos) es fs stands small = absurd stands

bracket_literal : (l : Bool) (e : Ex) → is_bracket_type e ≡ true → IsLiteralType l e
bracket_literal l (array_type pos len e) is = tt
bracket_literal l (slice_type pos e) is = tt
bracket_literal l e is = absurd (cc (is))

module _ (b : Context) (K : Ex → List Mark → Type 0) (some : (e : Ex) → (b.types ≡ false → IsValue e) → (n : List Mark) × K e n) where
  -- some text closes fs after e
  abbrev SomeClose : List Frame → Ex → Type 0
  SomeClose fs e = (m : List Mark) × Close b K fs e m

  abbrev SomeHave : List Frame → Ex → Type 0
  SomeHave fs e = (m : List Mark) × Have b K fs e m

  have_some : (fs : List Frame) (e : Ex) → (level b fs ≤ tightness e) ⊎ (level b fs ≡ 8) → SomeClose fs e → SomeHave fs e
  have_some fs e holds i = (i.0, record { whole = e; rest = i.0; grows = whole holds; closes = i.1 })

  behind_some : (t : Terminal) (d : ℕ) (fs : List Frame) (e : Ex) → SomeHave fs e → (m : List Mark) × Behind t d (Have b K fs) e m
  behind_some t d fs e i = (inside t d ∷ i.0, record { rest = i.0; mark = refl; up = i.1 })

  -- a type with brackets: inside an expression it is that of a literal without elements
  bracket_some : (fs : List Frame) (e : Ex) → 7 ≤ tightness e → is_bracket_type e ≡ true → ((g : Ex) → (level b fs ≤ 6 → IsValue g) → SomeClose fs g) → SomeHave fs e
  bracket_some fs e tight is closes = elim (level_cases b fs) [
    | inl small ↦
        let i = closes (literal e no_elements) (λ l. tt) in
        let d = open_depth b.depth fs in
        let w : List Mark = inside (RightBrace origin) d ∷ i.0 in
        (inside (LeftBrace origin) d ∷ w, record { whole = literal e no_elements; rest = i.0; grows = more (LeftBrace origin) d w (omega (arith, small)) refl (refl, bracket_literal (allows b.literals fs) e is, no_elements, refl, (origin, refl)) tight (whole (inl (omega (arith, small)))); closes = i.1 })
    | inr types ↦ have_some fs e (inr types) (closes e (λ l. absurd (omega (arith, l, types))))
  ]

  close_some : (fs : List Frame) (e : Ex) → Valid b fs → (level b fs ≤ 6 → IsValue e) → SomeClose fs e
  close_some [] e valid value =
      let fits : b.types ≡ false → IsValue e = λ is. value (omega (arith, base_level b is)) in
      let i = some e fits in (i.0, (fits, i.1))
  close_some (prefixed pos op ∷ fs) e valid value =
      let v = value (omega arith) in
      let i = have_some fs (unary pos op e) (inl valid.0) (close_some fs (unary pos op e) valid.1 (λ l. value_unary pos op e v)) in
      (i.0, (value_fits op e v, i.1))
  close_some (enclosed pos ∷ fs) e valid value = behind_some RightParen (open_depth b.depth fs) fs (paren pos e) (have_some fs (paren pos e) (inl (omega (arith, valid.0))) (close_some fs (paren pos e) valid.1 (λ l. value (omega arith))))
  close_some (awaiting a pos op ∷ fs) e valid value =
      let i = have_some fs (binary pos op a e) (inl valid.0) (close_some fs (binary pos op a e) valid.1 (λ l. tt)) in
      (i.0, (value (omega (arith, precedence_small op)), i.1))
  close_some (calling f es ∷ fs) e valid value =
      let c : Ex = call f (with_ex es e) false in
      let i = have_some fs c (inl (omega (arith, valid.0))) (close_some fs c valid.1 (λ l. tt)) in
      (inside RightParen (open_depth b.depth fs) ∷ i.0, (argument_paren (open_depth b.depth fs) f (with_ex es e) (Have b K fs) (open_depth b.depth fs) i.0).1 (refl, i.1))
  close_some (indexing a pos ∷ fs) e valid value =
      let i = behind_some RightBracket (open_depth b.depth fs) fs (index a pos e) (have_some fs (index a pos e) (inl (omega (arith, valid.0))) (close_some fs (index a pos e) valid.1 (λ l. tt))) in
      (i.0, (value (omega arith), inl i.1))
  close_some (bounding a pos low ∷ fs) e valid value =
      let c : Ex = slice a pos low (bound_at e) in
      let i = behind_some RightBracket (open_depth b.depth fs) fs c (have_some fs c (inl (omega (arith, valid.0))) (close_some fs c valid.1 (λ l. tt))) in
      (i.0, (value (omega arith), i.1))
  close_some (measuring pos ∷ fs) e valid value =
      let i = bracket_some fs (array_type pos e (name some_name)) (omega arith) refl (λ g v. close_some fs g valid v) in
      let d = open_depth b.depth fs in
      (inside RightBracket d ∷ inside (Identifier some_name) (suc d) ∷ i.0, (value (omega arith), inside (Identifier some_name) (suc d) ∷ i.0, refl, record { whole = name some_name; rest = i.0; reads = refl; up = i.1 }))
  close_some (filling c es key ∷ fs) e valid value =
      let x : Ex = contained c (with_element es key e) in
      let i = have_some fs x (inl (contained_tight b c (with_element es key e) fs valid.1 valid.0)) (close_some fs x valid.2 (λ l. contained_value c (with_element es key e))) in
      (inside (RightBrace origin) (open_depth b.depth fs) ∷ i.0, inl (value (omega arith), (element_brace (allows b.literals fs) (open_depth b.depth fs) c (with_element es key e) (Have b K fs) origin (open_depth b.depth fs) i.0).1 (refl, i.1)))
  close_some (pointing pos ∷ fs) e valid value = have_some fs (unary pos Star e) (inr valid.0) (close_some fs (unary pos Star e) valid.1 (λ l. absurd (omega (arith, l, valid.0))))
  close_some (of_array pos len ∷ fs) e valid value = bracket_some fs (array_type pos len e) (omega arith) refl (λ g v. close_some fs g valid v)
  close_some (of_slice pos ∷ fs) e valid value = bracket_some fs (slice_type pos e) (omega arith) refl (λ g v. close_some fs g valid v)
  close_some (enclosed_type pos ∷ fs) e valid value = behind_some RightParen (open_depth b.depth fs) fs (paren pos e) (have_some fs (paren pos e) (inr valid.0) (close_some fs (paren pos e) valid.1 (λ l. absurd (omega (arith, l, valid.0)))))

  -- an argument may be a type
  argument_some : (fs : List Frame) (e : Ex) → Valid b fs → allows_type fs ≡ true → SomeClose fs e
  argument_some [] e valid is = absurd (cc (is))
  argument_some (prefixed pos Star ∷ fs) e valid is = let i = have_some fs (unary pos Star e) (inl valid.0) (argument_some fs (unary pos Star e) valid.1 is) in (i.0, (tt, i.1))
  argument_some (enclosed pos ∷ fs) e valid is = behind_some RightParen (open_depth b.depth fs) fs (paren pos e) (have_some fs (paren pos e) (inl (omega (arith, valid.0))) (argument_some fs (paren pos e) valid.1 is))
  argument_some (calling f es ∷ fs) e valid is =
      let c : Ex = call f (with_ex es e) false in
      let i = have_some fs c (inl (omega (arith, valid.0))) (close_some fs c valid.1 (λ l. tt)) in
      (inside RightParen (open_depth b.depth fs) ∷ i.0, (argument_paren (open_depth b.depth fs) f (with_ex es e) (Have b K fs) (open_depth b.depth fs) i.0).1 (refl, i.1))
  argument_some (f ∷ fs) e valid is = absurd (cc (is))

  operand_some : (fs : List Frame) (e : Ex) → IsOperand b fs e → SomeHave fs e
  operand_some fs e o = have_some fs e (inl (omega (arith, o.takes.level_small, o.tight))) (close_some fs e o.takes.valid (λ l. o.is_value))

  taken_some : (fs : List Frame) (e : Ex) → TakesEx b fs → 7 ≤ tightness e → IsValue e → SomeHave fs e
  taken_some fs e takes tight value = have_some fs e (inl (omega (arith, takes.level_small, tight))) (close_some fs e takes.valid (λ l. value))

  element_some : (fs : List Frame) (c : Container) (es : Elements) → TakesElement b fs c → SomeHave fs (contained c es)
  element_some fs c es t = have_some fs (contained c es) (inl (contained_tight b c es fs t.standing t.takes.level_small)) (close_some fs (contained c es) t.takes.valid (λ l. contained_value c es))

  wants_some : (fs : List Frame) → Valid b fs → (m : List Mark) × Wants b K fs m
  wants_some fs valid = let i = close_some fs (number origin 0) valid (λ l. tt) in (inside (Number origin 0) (open_depth b.depth fs) ∷ i.0, record { whole = number origin 0; rest = i.0; reads = refl; closes = i.1 })

  type_some : (fs : List Frame) → Valid b fs → (m : List Mark) × WantsType b K fs m
  type_some fs valid = let i = close_some fs (name some_name) valid (λ l. tt) in (inside (Identifier some_name) (open_depth b.depth fs) ∷ i.0, record { whole = name some_name; rest = i.0; reads = refl; up = i.1 })

  at_type_some : (fs : List Frame) (e : Ex) → ValidOpen b (at_type fs e) → SomeHave fs e
  at_type_some fs e valid = elim valid [
    | inl i ↦ outermost i.0 i.1
    | inr o ↦ elim o.stands [
      | inl is ↦ bracket_some fs e o.tight is (λ g v. close_some fs g o.takes.valid v)
      | inr is ↦ have_some fs e (inl (omega (arith, o.takes.level_small, o.tight))) (argument_some fs e o.takes.valid is)
    ]
  ]
    where
      outermost : fs ≡ [] → b.types ≡ true → SomeHave fs e
      outermost is types = subst (λ (gs : List Frame). SomeHave gs e) (sym is) (have_some [] e (inr (base_type_level b types)) (close_some [] e tt (λ l. absurd (omega (arith, l, base_type_level b types)))))

pub viable : (b : Context) (K : Ex → List Mark → Type 0) (s : Open) → ValidOpen b s → ((e : Ex) → (b.types ≡ false → IsValue e) → (n : List Mark) × K e n) → (w : List Mark) × Rest b K s w
viable b K (at_operand fs) valid some = wants_some b K some fs valid.1.valid
viable b K (at_argument fs f es) valid some = let i = behind_some b K some RightParen (open_depth b.depth fs) fs (call f es false) (taken_some b K some fs (call f es false) valid (omega arith) tt) in (i.0, inl i.1)
viable b K (at_spread fs f es) valid some = let i = taken_some b K some fs (call f es true) valid (omega arith) tt in (inside RightParen (open_depth b.depth fs) ∷ i.0, record { rest = i.0; closes = inl refl; up = i.1 })
viable b K (at_call_end fs f es) valid some = behind_some b K some RightParen (open_depth b.depth fs) fs (call f es true) (taken_some b K some fs (call f es true) valid (omega arith) tt)
viable b K (at_bracket fs pos) valid some = let i = type_some b K some (of_slice pos ∷ fs) valid in (inside RightBracket (open_depth b.depth fs) ∷ i.0, inl (i.0, refl, i.1))
viable b K (at_type_operand fs) valid some = type_some b K some fs valid.valid
viable b K (at_type_end fs pos e) valid some = behind_some b K some RightParen (open_depth b.depth fs) fs (paren pos e) (have_some b K some fs (paren pos e) (inr valid.level_is) (close_some b K some fs (paren pos e) valid.valid (λ l. absurd (omega (arith, l, valid.level_is)))))
viable b K (at_type fs e) valid some = at_type_some b K some fs e valid
viable b K (at_operator fs e) valid some = operand_some b K some fs e valid
viable b K (at_selector fs e pos) valid some = let i = taken_some b K some fs (selector e pos some_name) valid (omega arith) tt in (inside (Identifier some_name) (open_depth b.depth fs) ∷ i.0, (some_name, i.0, refl, i.1))
viable b K (at_index fs e pos) valid some = let i = wants_some b K some (indexing e pos ∷ fs) (valid.level_small, valid.valid) in (i.0, inr i.1)
viable b K (at_high fs e pos low) valid some = let i = taken_some b K some fs (slice e pos low no_bound) valid (omega arith) tt in (inside RightBracket (open_depth b.depth fs) ∷ i.0, record { high = no_bound; rest = i.0; reads = refl; up = i.1 })
viable b K (at_element fs c es) valid some = let i = element_some b K some fs c es valid in (inside (RightBrace origin) (open_depth b.depth fs) ∷ i.0, inl (origin, i.0, refl, i.1))
viable b K (at_value fs c es x) valid some = wants_some b K some (filling c es (Some x) ∷ fs) (valid.takes.level_small, valid.standing, valid.takes.valid)
viable b K (at_element_end fs c es) valid some =
    let i = element_some b K some fs c es valid in
    (inside (RightBrace origin) (open_depth b.depth fs) ∷ i.0, (element_brace (allows b.literals fs) (open_depth b.depth fs) c es (Have b K fs) origin (open_depth b.depth fs) i.0).1 (refl, i.1))
