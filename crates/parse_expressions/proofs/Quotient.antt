-- A terminal in a state divides the texts by it from the left.
use Rattle.std.proofs.Common.{◌≡◌, ℕ, suc, ◌≤◌, Bool, true, false, List, [], ◌∷◌, inl, inr, Some, None, refl, ap, subst, ◌∙◌, arith}
use Rattle.std.specs.Prelude.{if◌then◌else◌}
use Rattle.base.specs.declared.pos.Pos.{Pos}
use Rattle.syntax.specs.declared.expression.Name.{Name}
use Rattle.syntax.specs.Expressions.{Ex, name, unary, paren, call, selector, slice, array_type, slice_type, Exs, Bound, no_bound, Elements, no_elements}
use Rattle.syntax.specs.Lists.{with_element}
use Rattle.parse_expressions.specs.declared.terminal.Terminal.{Terminal}
use Rattle.parse_expressions.specs.declared.terminal.Terminal.TheVariants.{Identifier, Operator, Comma, Colon, Period, LeftParen, RightParen, LeftBracket, RightBracket, LeftBrace, RightBrace}
use Rattle.parse_expressions.specs.Grammar.{Mark, inside, IsValue}
use Rattle.parse_expressions.specs.Frames.{Container, of_type, Frame, calling, indexing, bounding, measuring, filling, of_slice, open_depth, allows}
use Rattle.parse_expressions.specs.Machine.{Context, Open, at_operand, at_argument, at_spread, at_call_end, at_bracket, at_type_operand, at_type_end, at_type, at_operator, at_selector, at_index, at_high, at_element, at_value, at_element_end, goes, ends, reduce, closes_reduced, brace_behind_name, behind_operand, behind_inner_type, behind_type, step, nesting_behind, nesting_behind_type, nesting_at_closes, nesting}
use Rattle.parse_expressions.proofs.Growth.{IsLiteralType}
use Rattle.parse_expressions.proofs.ListEnds.{element_first, element_comma, element_brace}
use Rattle.parse_expressions.proofs.OperandSteps.{iff_trans, headed, BraceNeeds, operand_step, brace_step, element_next, type_step, type_ends, type_whole}
use Rattle.parse_expressions.proofs.OpenFrames.{base_type_level, still, never_closes}
use Rattle.parse_expressions.proofs.ClosingSteps.{behind_step, filled_step, ends_step, brace_ends, type_ends_step, type_open}
use Rattle.parse_expressions.proofs.PostfixSteps.{operator_step, call_step, selector_step, HighNext, high_next, index_step, goes_on, brace_read}
use Rattle.parse_expressions.proofs.Following.{level, Over, Close, Have, Wants, WantsType, Rest, IsOperand, IsInnerType, TakesElement, ValidOpen, Apart, After, Iff}

-- a value that is no name begins no literal
no_type : (l : Bool) (e : Ex) → IsValue e → ((x : Name) → e ≡ name x → ⊥) → IsLiteralType l e → ⊥
no_type l (name x) value other is = other x refl
no_type l (array_type pos len e) value other is = value
no_type l (slice_type pos e) value other is = value
no_type l e value other is = is

module _ (b : Context) (K : Ex → List Mark → Type 0) where
  -- ---- in a call

  argument_step : (fs : List Frame) (f : Ex) (es : Exs) (t : Terminal) (j : ℕ) (w : List Mark) → Iff (Rest b K (at_argument fs f es) (inside t j ∷ w)) (After b K (step b (at_argument fs f es) t) (nesting b (at_argument fs f es) t) t j w)
  argument_step fs f es RightParen j w = (
    λ h. elim h [
      | inl i ↦ (behind_step RightParen (open_depth b.depth fs) (Have b K fs) (call f es false) j w).0 i
      | inr v ↦ absurd (headed b K (calling f es ∷ fs) RightParen j w (omega arith) v).at
    ],
    λ h. inl ((behind_step RightParen (open_depth b.depth fs) (Have b K fs) (call f es false) j w).1 h),
  )
  argument_step fs f es (LeftBrace pos) j w = (
    λ h. elim h [ inl i ↦ absurd (cc (i.mark)) | inr v ↦ (operand_step b K (calling f es ∷ fs) (LeftBrace pos) j w (omega arith) (omega arith)).0 v ],
    λ h. inr ((operand_step b K (calling f es ∷ fs) (LeftBrace pos) j w (omega arith) (omega arith)).1 h),
  )
  argument_step fs f es t j w = (
    λ h. elim h [ inl i ↦ absurd (cc (i.mark)) | inr v ↦ (operand_step b K (calling f es ∷ fs) t j w (omega arith) tt).0 v ],
    λ h. inr ((operand_step b K (calling f es ∷ fs) t j w (omega arith) tt).1 h),
  )

  spread_step : (fs : List Frame) (f : Ex) (es : Exs) (t : Terminal) (j : ℕ) (w : List Mark) → Iff (Rest b K (at_spread fs f es) (inside t j ∷ w)) (After b K (step b (at_spread fs f es) t) (nesting b (at_spread fs f es) t) t j w)
  spread_step fs f es Comma j w = (
    λ h. elim h.closes [
      | inl i ↦ absurd (cc (i))
      | inr i ↦ (cc (i), record { rest = h.rest; mark = cc (i); up = h.up })
    ],
    λ h. let c = h.1 in record { rest = c.rest; closes = inr (ap (λ (n : ℕ). inside Comma n ∷ w) h.0 ∙ ap (λ (ts : List Mark). inside Comma (suc (open_depth b.depth fs)) ∷ ts) c.mark); up = c.up },
  )
  spread_step fs f es RightParen j w = (
    λ h. elim h.closes [
      | inl i ↦ let same_w : h.rest ≡ w = cc (i) in (cc (i), subst (λ (ts : List Mark). Have b K fs (call f es true) ts) same_w h.up)
      | inr i ↦ absurd (cc (i))
    ],
    λ h. record { rest = w; closes = inl (ap (λ (n : ℕ). inside RightParen n ∷ w) h.0); up = h.1 },
  )
  spread_step fs f es t j w = (λ h. absurd (elim h.closes [ inl i ↦ cc (i) | inr i ↦ cc (i) ]), λ h. absurd h)

  call_end_step : (fs : List Frame) (f : Ex) (es : Exs) (t : Terminal) (j : ℕ) (w : List Mark) → Iff (Rest b K (at_call_end fs f es) (inside t j ∷ w)) (After b K (step b (at_call_end fs f es) t) (nesting b (at_call_end fs f es) t) t j w)
  call_end_step fs f es RightParen j w = behind_step RightParen (open_depth b.depth fs) (Have b K fs) (call f es true) j w
  call_end_step fs f es t j w = (λ h. absurd (cc (h.mark)), λ h. absurd h)

  -- ---- in brackets

  bracket_step : (fs : List Frame) (pos : Pos) (t : Terminal) (j : ℕ) (w : List Mark) → Iff (Rest b K (at_bracket fs pos) (inside t j ∷ w)) (After b K (step b (at_bracket fs pos) t) (nesting b (at_bracket fs pos) t) t j w)
  bracket_step fs pos RightBracket j w = (
    λ h. elim h [
      | inl i ↦ let same_w : i.0 ≡ w = cc (i.1) in (cc (i.1), subst (λ (ts : List Mark). WantsType b K (of_slice pos ∷ fs) ts) same_w i.2)
      | inr v ↦ absurd (headed b K (measuring pos ∷ fs) RightBracket j w (omega arith) v).at
    ],
    λ h. inl (w, ap (λ (n : ℕ). inside RightBracket n ∷ w) h.0, h.1),
  )
  bracket_step fs pos (LeftBrace at) j w = (
    λ h. elim h [ inl i ↦ absurd (cc (i.1)) | inr v ↦ (operand_step b K (measuring pos ∷ fs) (LeftBrace at) j w (omega arith) (omega arith)).0 v ],
    λ h. inr ((operand_step b K (measuring pos ∷ fs) (LeftBrace at) j w (omega arith) (omega arith)).1 h),
  )
  bracket_step fs pos t j w = (
    λ h. elim h [ inl i ↦ absurd (cc (i.1)) | inr v ↦ (operand_step b K (measuring pos ∷ fs) t j w (omega arith) tt).0 v ],
    λ h. inr ((operand_step b K (measuring pos ∷ fs) t j w (omega arith) tt).1 h),
  )

  index_begins : (fs : List Frame) (e : Ex) (pos : Pos) (t : Terminal) (j : ℕ) (w : List Mark) → Iff (Rest b K (at_index fs e pos) (inside t j ∷ w)) (After b K (step b (at_index fs e pos) t) (nesting b (at_index fs e pos) t) t j w)
  index_begins fs e pos Colon j w = (
    λ h. elim h [
      | inl i ↦ let same_w : i.0 ≡ w = cc (i.1) in (cc (i.1), subst (λ (ts : List Mark). Rest b K (at_high fs e pos no_bound) ts) same_w i.2)
      | inr v ↦ absurd (headed b K (indexing e pos ∷ fs) Colon j w (omega arith) v).at
    ],
    λ h. inl (w, ap (λ (n : ℕ). inside Colon n ∷ w) h.0, h.1),
  )
  index_begins fs e pos (LeftBrace at) j w = (
    λ h. elim h [ inl i ↦ absurd (cc (i.1)) | inr v ↦ (operand_step b K (indexing e pos ∷ fs) (LeftBrace at) j w (omega arith) (omega arith)).0 v ],
    λ h. inr ((operand_step b K (indexing e pos ∷ fs) (LeftBrace at) j w (omega arith) (omega arith)).1 h),
  )
  index_begins fs e pos t j w = (
    λ h. elim h [ inl i ↦ absurd (cc (i.1)) | inr v ↦ (operand_step b K (indexing e pos ∷ fs) t j w (omega arith) tt).0 v ],
    λ h. inr ((operand_step b K (indexing e pos ∷ fs) t j w (omega arith) tt).1 h),
  )

  high_step : (fs : List Frame) (e : Ex) (pos : Pos) (low : Bound) (t : Terminal) (j : ℕ) (w : List Mark) → Iff (HighNext b K fs e pos low (inside t j ∷ w)) (After b K (step b (at_high fs e pos low) t) (nesting b (at_high fs e pos low) t) t j w)
  high_step fs e pos low RightBracket j w = (
    λ h. elim h [
      | inl i ↦ (behind_step RightBracket (open_depth b.depth fs) (Have b K fs) (slice e pos low no_bound) j w).0 i
      | inr v ↦ absurd (headed b K (bounding e pos low ∷ fs) RightBracket j w (omega arith) v).at
    ],
    λ h. inl ((behind_step RightBracket (open_depth b.depth fs) (Have b K fs) (slice e pos low no_bound) j w).1 h),
  )
  high_step fs e pos low (LeftBrace at) j w = (
    λ h. elim h [ inl i ↦ absurd (cc (i.mark)) | inr v ↦ (operand_step b K (bounding e pos low ∷ fs) (LeftBrace at) j w (omega arith) (omega arith)).0 v ],
    λ h. inr ((operand_step b K (bounding e pos low ∷ fs) (LeftBrace at) j w (omega arith) (omega arith)).1 h),
  )
  high_step fs e pos low t j w = (
    λ h. elim h [ inl i ↦ absurd (cc (i.mark)) | inr v ↦ (operand_step b K (bounding e pos low ∷ fs) t j w (omega arith) tt).0 v ],
    λ h. inr ((operand_step b K (bounding e pos low ∷ fs) t j w (omega arith) tt).1 h),
  )

  selector_name : (fs : List Frame) (e : Ex) (pos : Pos) (t : Terminal) (j : ℕ) (w : List Mark) → Iff (Rest b K (at_selector fs e pos) (inside t j ∷ w)) (After b K (step b (at_selector fs e pos) t) (nesting b (at_selector fs e pos) t) t j w)
  selector_name fs e pos (Identifier x) j w = (
    λ h.
        let same_x : h.0 ≡ x = cc (h.2) in
        let same_w : h.1 ≡ w = cc (h.2) in
        (cc (h.2), subst (λ (ts : List Mark). Have b K fs (selector e pos x) ts) same_w (subst (λ (y : Name). Have b K fs (selector e pos y) h.1) same_x h.3)),
    λ h. (x, w, ap (λ (n : ℕ). inside (Identifier x) n ∷ w) h.0, h.1),
  )
  selector_name fs e pos t j w = (λ h. absurd (cc (h.2)), λ h. absurd h)

  -- ---- in braces

  element_begins : (fs : List Frame) (c : Container) (es : Elements) (t : Terminal) (j : ℕ) (w : List Mark) → TakesElement b fs c → Iff (Rest b K (at_element fs c es) (inside t j ∷ w)) (After b K (step b (at_element fs c es) t) (nesting b (at_element fs c es) t) t j w)
  element_begins fs c es (RightBrace end) j w takes = (
    λ h. elim h [
      | inl i ↦ let same_w : i.1 ≡ w = cc (i.2) in (cc (i.2), (filled_step b K fs c es w takes.standing).0 (subst (λ (ts : List Mark). Have b K fs _ ts) same_w i.3))
      | inr v ↦ absurd (headed b K (filling c es None ∷ fs) (RightBrace end) j w (omega arith) v).at
    ],
    λ h. inl (end, w, ap (λ (n : ℕ). inside (RightBrace end) n ∷ w) h.0, (filled_step b K fs c es w takes.standing).1 h.1),
  )
  element_begins fs c es (LeftBrace pos) j w takes = (
    λ h. elim h [ inl i ↦ absurd (cc (i.2)) | inr v ↦ (brace_step b K (filling c es None ∷ fs) pos j w refl).0 v ],
    λ h. inr ((brace_step b K (filling c es None ∷ fs) pos j w refl).1 h),
  )
  element_begins fs c es t j w takes = (
    λ h. elim h [ inl i ↦ absurd (cc (i.2)) | inr v ↦ (operand_step b K (filling c es None ∷ fs) t j w (omega arith) tt).0 v ],
    λ h. inr ((operand_step b K (filling c es None ∷ fs) t j w (omega arith) tt).1 h),
  )

  value_step : (fs : List Frame) (c : Container) (es : Elements) (x : Name) (t : Terminal) (j : ℕ) (w : List Mark) → Iff (Rest b K (at_value fs c es x) (inside t j ∷ w)) (After b K (step b (at_value fs c es x) t) (nesting b (at_value fs c es x) t) t j w)
  value_step fs c es x (LeftBrace pos) j w = brace_step b K (filling c es (Some x) ∷ fs) pos j w refl
  value_step fs c es x t j w = operand_step b K (filling c es (Some x) ∷ fs) t j w (omega arith) tt

  element_end_step : (fs : List Frame) (c : Container) (es : Elements) (t : Terminal) (j : ℕ) (w : List Mark) → TakesElement b fs c → Iff (Rest b K (at_element_end fs c es) (inside t j ∷ w)) (After b K (step b (at_element_end fs c es) t) (nesting b (at_element_end fs c es) t) t j w)
  element_end_step fs c es Comma j w takes =
      let i = element_comma (allows b.literals fs) (open_depth b.depth fs) c es (Have b K fs) j w in
      let n = element_next b K fs c es w in
      (λ h. let k = i.0 h in (k.0, n.0 k.1), λ h. i.1 (h.0, n.1 h.1))
  element_end_step fs c es (RightBrace end) j w takes =
      let i = element_brace (allows b.literals fs) (open_depth b.depth fs) c es (Have b K fs) end j w in
      let n = filled_step b K fs c es w takes.standing in
      (λ h. let k = i.0 h in (k.0, n.0 k.1), λ h. i.1 (h.0, n.1 h.1))
  element_end_step fs c es t j w takes = (λ h. absurd (element_first (allows b.literals fs) (open_depth b.depth fs) c es (Have b K fs) t j w h), λ h. absurd h)

  -- ---- after an operand

  named_brace : (fs : List Frame) (x : Name) (pos : Pos) (j : ℕ) (w : List Mark) → IsOperand b fs (name x) → Apart b K → Iff (Have b K fs (name x) (inside (LeftBrace pos) j ∷ w)) (After b K (brace_behind_name b fs x pos) (open_depth b.depth fs) (LeftBrace pos) j w)
  named_brace fs x pos j w o apart = by (allows b.literals fs) refl
    where
      by : (l : Bool) → allows b.literals fs ≡ l → Iff (Have b K fs (name x) (inside (LeftBrace pos) j ∷ w)) (After b K (if l then goes (at_element fs (of_type (name x)) no_elements) else closes_reduced fs (name x) (LeftBrace pos)) (open_depth b.depth fs) (LeftBrace pos) j w)
      by true is = brace_read b K fs (name x) pos j w o.takes.level_small o.tight is (λ h. never_closes b K fs (name x) (LeftBrace pos) j w apart is o.takes.level_small o.takes.valid h)
      by false is = iff_trans _ _ _ (ends_step b K fs (name x) (LeftBrace pos) j w o tt (λ q k l. cc) (λ c es gs y k m n. cc))
          (brace_ends b K (reduce 0 fs (name x)).0 (reduce 0 fs (name x)).1 pos (nesting_at_closes b.depth (reduce 0 fs (name x)).0 (LeftBrace pos)) (open_depth b.depth fs) j w)

  -- a key and its colon
  key_step : (c : Container) (es : Elements) (fs : List Frame) (x : Name) (j : ℕ) (w : List Mark) → IsOperand b (filling c es None ∷ fs) (name x) → Iff (Have b K (filling c es None ∷ fs) (name x) (inside Colon j ∷ w)) ((j ≡ suc (open_depth b.depth fs)) × Rest b K (at_value fs c es x) w)
  key_step c es fs x j w o = iff_trans _ _ _ (still (allows b.literals fs) 0 (suc (open_depth b.depth fs)) (Close b K (filling c es None ∷ fs)) (name x) Colon j w (omega arith) (omega arith) (λ f k m tight le. m)) (
    λ h. elim h [
      | inl a ↦ absurd (element_first (allows b.literals fs) (open_depth b.depth fs) c (with_element es None (name x)) (Over b fs (Close b K fs)) Colon j w a.1)
      | inr i ↦
          let k = i.1 in
          let same_x : k.key ≡ x = cc (k.is_name) in
          let same_w : k.behind ≡ w = cc (k.colon) in
          (cc (k.colon), subst (λ (ts : List Mark). Wants b K (filling c es (Some x) ∷ fs) ts) same_w (subst (λ (y : Name). Wants b K (filling c es (Some y) ∷ fs) k.behind) same_x (record { whole = k.value; rest = k.rest; reads = k.reads; closes = inl (k.is_value, k.closes) })))
    ],
    λ h. let v = h.1 in elim v.closes [
      | inl a ↦ inr (refl, record { key = x; is_name = refl; behind = w; colon = ap (λ (n : ℕ). inside Colon n ∷ w) h.0; value = v.whole; rest = v.rest; is_value = a.0; reads = v.reads; closes = a.1 })
      | inr k ↦ absurd (cc (k.0))
    ],
  )

  behind_operand_step : (fs : List Frame) (e : Ex) (t : Terminal) (j : ℕ) (w : List Mark) → IsOperand b fs e → Apart b K → Iff (Have b K fs e (inside t j ∷ w)) (After b K (behind_operand b fs e t) (nesting_behind b.depth fs e t) t j w)
  behind_operand_step fs e (Operator pos op) j w o apart = operator_step b K fs e pos op j w o apart
  behind_operand_step fs e (LeftParen pos) j w o apart = call_step b K fs e pos j w o apart
  behind_operand_step fs e (Period pos) j w o apart = selector_step b K fs e pos j w o apart
  behind_operand_step fs e (LeftBracket pos) j w o apart = index_step b K fs e pos j w o apart
  behind_operand_step fs (name x) (LeftBrace pos) j w o apart = named_brace fs x pos j w o apart
  behind_operand_step fs e (LeftBrace pos) j w o apart = ends_step b K fs e (LeftBrace pos) j w o tt (λ q k l. no_type (allows b.literals fs) e o.is_value (λ x m. cc) l) (λ c es gs y k m n. cc)
  behind_operand_step (filling c es None ∷ fs) (name x) Colon j w o apart = key_step c es fs x j w o
  behind_operand_step fs e t j w o apart = ends_step b K fs e t j w o tt (λ q k l. cc) (λ c es gs y k m n. cc)

  -- ---- after a type

  bracket_brace : (fs : List Frame) (e : Ex) (pos : Pos) (j : ℕ) (w : List Mark) → IsInnerType b fs e → Iff (Have b K fs e (inside (LeftBrace pos) j ∷ w)) (After b K (behind_inner_type fs e (LeftBrace pos)) (open_depth b.depth fs) (LeftBrace pos) j w)
  bracket_brace fs (array_type at len e) pos j w o = brace_read b K fs (array_type at len e) pos j w o.takes.level_small o.tight tt (λ h. type_open b K fs (array_type at len e) pos j w o.takes tt h)
  bracket_brace fs (slice_type at e) pos j w o = brace_read b K fs (slice_type at e) pos j w o.takes.level_small o.tight tt (λ h. type_open b K fs (slice_type at e) pos j w o.takes tt h)
  bracket_brace fs (paren at e) pos j w o = (λ h. absurd ((goes_on b K fs (paren at e) (LeftBrace pos) j w o.takes.level_small (λ c. type_open b K fs (paren at e) pos j w o.takes o.is_type c)).0 h).makes.1, λ h. absurd h)
  bracket_brace fs (unary at op e) pos j w o = absurd (omega (arith, o.tight))
  bracket_brace fs e pos j w o = absurd o.is_type

  inner_type_step : (fs : List Frame) (e : Ex) (t : Terminal) (j : ℕ) (w : List Mark) → IsInnerType b fs e → Iff (Have b K fs e (inside t j ∷ w)) (After b K (behind_inner_type fs e t) (nesting_behind_type b.depth fs e t) t j w)
  inner_type_step fs e (LeftBrace pos) j w o = bracket_brace fs e pos j w o
  inner_type_step fs e t j w o = type_ends_step b K fs e t j w o tt

  base_type_step : (e : Ex) (t : Terminal) (j : ℕ) (w : List Mark) → ValidOpen b (at_type [] e) → Iff (Have b K [] e (inside t j ∷ w)) (After b K (behind_type b [] e t) (nesting_behind_type b.depth [] e t) t j w)
  base_type_step e t j w valid = by b.types refl
    where
      inner : b.types ≡ false → IsInnerType b [] e
      inner is = elim valid [ inl i ↦ absurd (cc (is, i.1)) | inr i ↦ i ]

      by : (l : Bool) → b.types ≡ l → Iff (Have b K [] e (inside t j ∷ w)) (After b K (if l then ends e else behind_inner_type [] e t) (nesting_behind_type b.depth [] e t) t j w)
      by true is = type_whole b.literals (level b []) b.depth (Close b K []) e (inside t j ∷ w) (base_type_level b is)
      by false is = inner_type_step [] e t j w (inner is)

  type_end_step : (fs : List Frame) (pos : Pos) (e : Ex) (t : Terminal) (j : ℕ) (w : List Mark) → Iff (Rest b K (at_type_end fs pos e) (inside t j ∷ w)) (After b K (step b (at_type_end fs pos e) t) (nesting b (at_type_end fs pos e) t) t j w)
  type_end_step fs pos e RightParen j w =
      let i = behind_step RightParen (open_depth b.depth fs) (Have b K fs) (paren pos e) j w in
      let n = type_ends b K fs (paren pos e) w in
      (λ h. let k = i.0 h in (k.0, n.0 k.1), λ h. i.1 (h.0, n.1 h.1))
  type_end_step fs pos e t j w = (λ h. absurd (cc (h.mark)), λ h. absurd h)

  at_type_step : (fs : List Frame) (e : Ex) (t : Terminal) (j : ℕ) (w : List Mark) → ValidOpen b (at_type fs e) → Iff (Have b K fs e (inside t j ∷ w)) (After b K (behind_type b fs e t) (nesting_behind_type b.depth fs e t) t j w)
  at_type_step [] e t j w valid = base_type_step e t j w valid
  at_type_step (f ∷ fs) e t j w valid = elim valid [ inl i ↦ absurd (cc (i.0)) | inr i ↦ inner_type_step (f ∷ fs) e t j w i ]

-- what a brace needs of the place of an operand
brace_needs : (b : Context) (fs : List Frame) (t : Terminal) → 1 ≤ level b fs → BraceNeeds t (level b fs)
brace_needs b fs (LeftBrace pos) least = least
brace_needs b fs t least = tt

-- ---- every state

pub quotient : (b : Context) (K : Ex → List Mark → Type 0) (s : Open) (t : Terminal) (j : ℕ) (w : List Mark) → ValidOpen b s → Apart b K → Iff (Rest b K s (inside t j ∷ w)) (After b K (step b s t) (nesting b s t) t j w)
quotient b K (at_operand fs) t j w valid apart = operand_step b K fs t j w valid.1.level_small (brace_needs b fs t valid.0)
quotient b K (at_argument fs f es) t j w valid apart = argument_step b K fs f es t j w
quotient b K (at_spread fs f es) t j w valid apart = spread_step b K fs f es t j w
quotient b K (at_call_end fs f es) t j w valid apart = call_end_step b K fs f es t j w
quotient b K (at_bracket fs pos) t j w valid apart = bracket_step b K fs pos t j w
quotient b K (at_type_operand fs) t j w valid apart = type_step b K fs t j w valid.level_is
quotient b K (at_type_end fs pos e) t j w valid apart = type_end_step b K fs pos e t j w
quotient b K (at_type fs e) t j w valid apart = at_type_step b K fs e t j w valid
quotient b K (at_operator fs e) t j w valid apart = behind_operand_step b K fs e t j w valid apart
quotient b K (at_selector fs e pos) t j w valid apart = selector_name b K fs e pos t j w
quotient b K (at_index fs e pos) t j w valid apart = index_begins b K fs e pos t j w
quotient b K (at_high fs e pos low) t j w valid apart = iff_trans _ _ _ (high_next b K fs e pos low (inside t j ∷ w)) (high_step b K fs e pos low t j w)
quotient b K (at_element fs c es) t j w valid apart = element_begins b K fs c es t j w valid
quotient b K (at_value fs c es x) t j w valid apart = value_step b K fs c es x t j w
quotient b K (at_element_end fs c es) t j w valid apart = element_end_step b K fs c es t j w valid
