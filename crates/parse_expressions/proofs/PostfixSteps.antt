-- A terminal that goes on with an operand divides the texts by it from the left.
use Rattle.std.proofs.Common.{◌≡◌, ℕ, suc, max, ◌≤◌, List, ◌∷◌, ◌⊎◌, inl, inr, refl, subst, arith}
use Rattle.base.specs.declared.pos.Pos.{Pos}
use Rattle.syntax.specs.declared.operator.BinOp.{BinOp}
use Rattle.syntax.specs.Expressions.{Ex, binary, call, selector, index, slice, literal, none, Bound, no_bound, bound_at, no_elements}
use Rattle.syntax.specs.Heights.{precedence, height}
use Rattle.parse_expressions.specs.declared.terminal.Terminal.{Terminal}
use Rattle.parse_expressions.specs.declared.terminal.Terminal.TheVariants.{Operator, Colon, Period, LeftParen, LeftBracket, RightBracket, LeftBrace}
use Rattle.parse_expressions.specs.Grammar.{Mark, inside, IsValue, ReadsEx, ReadsBound}
use Rattle.parse_expressions.specs.Frames.{of_type, Frame, awaiting, bounding, open_depth, allows}
use Rattle.parse_expressions.specs.Machine.{Context, at_operand, at_argument, at_selector, at_index, at_high, at_element, reduce}
use Rattle.parse_expressions.proofs.Growth.{tightness, IsLiteralType, MakesOf, more}
use Rattle.parse_expressions.proofs.Splits.{precedence_small, next}
use Rattle.parse_expressions.proofs.ListEnds.{whole_call, whole_elements}
use Rattle.parse_expressions.proofs.OperandSteps.{iff_trans, element_next, argument_next}
use Rattle.parse_expressions.proofs.OpenFrames.{Weak, never_closes, reduced, reduce_valid}
use Rattle.parse_expressions.proofs.Following.{level, Behind, Close, Have, Wants, Rest, IsOperand, Apart, Iff}

module _ (b : Context) (K : Ex → List Mark → Type 0) where
  -- what t makes of e, and what may follow that
  pub record Made (fs : List Frame) (e : Ex) (t : Terminal) (j : ℕ) (w : List Mark) : Type 0 where
    pub made : Ex
    pub between : List Mark
    pub makes : MakesOf (allows b.literals fs) (open_depth b.depth fs) e t j w made between
    pub tight : tightness made ≤ tightness e
    pub have : Have b K fs made between

  pub goes_on : (fs : List Frame) (e : Ex) (t : Terminal) (j : ℕ) (w : List Mark) → level b fs ≤ 6 → (Close b K fs e (inside t j ∷ w) → ⊥) → Iff (Have b K fs e (inside t j ∷ w)) (Made fs e t j w)
  goes_on fs e t j w small never = (
    λ h. elim (next t j w h.grows refl) [
      | inl i ↦ absurd (never (subst (λ (x : Ex). Close b K fs x (inside t j ∷ w)) i.0 (subst (λ (ts : List Mark). Close b K fs h.whole ts) i.1 h.closes)))
      | inr n ↦ record { made = n.made; between = n.between; makes = n.makes; tight = n.tight; have = record { whole = h.whole; rest = h.rest; grows = n.grows; closes = h.closes } }
    ],
    λ h. record { whole = h.have.whole; rest = h.have.rest; grows = more t j w (omega (arith, small)) refl h.makes h.tight h.have.grows; closes = h.have.closes },
  )

  -- ---- a binary operator

  pub operator_read : (fs : List Frame) (e : Ex) (pos : Pos) (op : BinOp) (j : ℕ) (w : List Mark) → level b fs ≤ 6 → IsValue e → precedence op ≤ tightness e → (Close b K fs e (inside (Operator pos op) j ∷ w) → ⊥) → Iff (Have b K fs e (inside (Operator pos op) j ∷ w)) ((j ≡ max (open_depth b.depth fs) (suc (height e))) × Rest b K (at_operand (awaiting e pos op ∷ fs)) w)
  operator_read fs e pos op j w small value tight never = iff_trans _ _ _ (goes_on fs e (Operator pos op) j w small never) (
    λ h. let m = h.makes in (m.0, record { whole = m.2; rest = h.between; reads = m.5; closes = (m.4, subst (λ (x : Ex). Have b K fs x h.between) m.3 h.have) }),
    λ h. let v = h.1 in record { made = binary pos op e v.whole; between = v.rest; makes = (h.0, value, v.whole, refl, v.closes.0, v.reads); tight = tight; have = v.closes.1 },
  )

  pub operator_step : (fs : List Frame) (e : Ex) (pos : Pos) (op : BinOp) (j : ℕ) (w : List Mark) → IsOperand b fs e → Apart b K → Iff (Have b K fs e (inside (Operator pos op) j ∷ w)) ((j ≡ max (open_depth b.depth (reduce (precedence op) fs e).0) (suc (height (reduce (precedence op) fs e).1))) × Rest b K (at_operand (awaiting (reduce (precedence op) fs e).1 pos op ∷ (reduce (precedence op) fs e).0)) w)
  operator_step fs e pos op j w o apart =
      let low = precedence_small op in
      let enough : level b fs ≤ tightness e = omega (arith, o.takes.level_small, o.tight) in
      let ok = reduce_valid b (precedence op) fs e o.takes.level_small o.takes.valid enough (omega (arith, low, o.tight)) low.1 o.is_value in
      let weak : Weak (precedence op) (Operator pos op) = omega arith in
      iff_trans _ _ _ (reduced b K (precedence op) fs e (Operator pos op) j w low.1 weak (λ q is i. cc) o.takes.level_small o.takes.valid enough o.is_value)
      (operator_read (reduce (precedence op) fs e).0 (reduce (precedence op) fs e).1 pos op j w ok.takes.level_small ok.is_value ok.tight (λ h. never_closes b K (reduce (precedence op) fs e).0 (reduce (precedence op) fs e).1 (Operator pos op) j w apart (ok.below low.0) ok.takes.level_small ok.takes.valid h))

  -- ---- a postfix

  pub call_step : (fs : List Frame) (e : Ex) (pos : Pos) (j : ℕ) (w : List Mark) → IsOperand b fs e → Apart b K → Iff (Have b K fs e (inside (LeftParen pos) j ∷ w)) ((j ≡ max (open_depth b.depth fs) (suc (height e))) × Rest b K (at_argument fs e none) w)
  call_step fs e pos j w o apart = iff_trans _ _ _ (goes_on fs e (LeftParen pos) j w o.takes.level_small (λ h. never_closes b K fs e (LeftParen pos) j w apart tt o.takes.level_small o.takes.valid h)) (
    λ h. let m = h.makes in (m.0, (argument_next b K fs e none w).0 ((whole_call (open_depth b.depth fs) e (Have b K fs) w).0 (m.2, m.3, h.between, m.5, subst (λ (x : Ex). Have b K fs x h.between) m.4 h.have))),
    λ h.
        let c = (whole_call (open_depth b.depth fs) e (Have b K fs) w).1 ((argument_next b K fs e none w).1 h.1) in
        record { made = call e c.0 c.1; between = c.2; makes = (h.0, o.is_value, c.0, c.1, refl, c.3); tight = o.tight; have = c.4 },
  )

  pub selector_step : (fs : List Frame) (e : Ex) (pos : Pos) (j : ℕ) (w : List Mark) → IsOperand b fs e → Apart b K → Iff (Have b K fs e (inside (Period pos) j ∷ w)) ((j ≡ max (open_depth b.depth fs) (suc (height e))) × Rest b K (at_selector fs e pos) w)
  selector_step fs e pos j w o apart = iff_trans _ _ _ (goes_on fs e (Period pos) j w o.takes.level_small (λ h. never_closes b K fs e (Period pos) j w apart tt o.takes.level_small o.takes.valid h)) (
    λ h. let m = h.makes in (m.0, (m.2, h.between, m.4, subst (λ (x : Ex). Have b K fs x h.between) m.3 h.have)),
    λ h. let c = h.1 in record { made = selector e pos c.0; between = c.1; makes = (h.0, o.is_value, c.0, refl, c.2); tight = o.tight; have = c.3 },
  )

  -- the high bound of a slice expression
  abbrev pub HighNext : List Frame → Ex → Pos → Bound → List Mark → Type 0
  HighNext fs a pos low w = Behind RightBracket (open_depth b.depth fs) (Have b K fs) (slice a pos low no_bound) w ⊎ Wants b K (bounding a pos low ∷ fs) w

  pub high_next : (fs : List Frame) (a : Ex) (pos : Pos) (low : Bound) (w : List Mark) → Iff (Rest b K (at_high fs a pos low) w) (HighNext fs a pos low w)
  high_next fs a pos low w = (
    λ h. to h.high h.rest h.reads h.up,
    λ h. elim h [
      | inl i ↦ record { high = no_bound; rest = i.rest; reads = i.mark; up = i.up }
      | inr v ↦ let c = v.closes in record { high = bound_at v.whole; rest = c.1.rest; reads = (c.0, subst (λ (ts : List Mark). ReadsEx (allows b.literals fs) 1 (suc (open_depth b.depth fs)) v.whole w ts) c.1.mark v.reads); up = c.1.up }
    ],
  )
    where
      to : (high : Bound) (rest : List Mark) → ReadsBound (allows b.literals fs) (suc (open_depth b.depth fs)) high w (inside RightBracket (open_depth b.depth fs) ∷ rest) → Have b K fs (slice a pos low high) rest → HighNext fs a pos low w
      to no_bound rest r u = inl (record { rest = rest; mark = r; up = u })
      to (bound_at e) rest r u = inr (record { whole = e; rest = inside RightBracket (open_depth b.depth fs) ∷ rest; reads = r.1; closes = (r.0, record { rest = rest; mark = refl; up = u }) })

  -- from after the bracket of an index or slice expression on
  index_next : (fs : List Frame) (e : Ex) (pos : Pos) (w : List Mark) → Made fs e (LeftBracket pos) (max (open_depth b.depth fs) (suc (height e))) w → Rest b K (at_index fs e pos) w
  index_next fs e pos w h = elim h.makes.2 [
    | inl i ↦ inr (record { whole = i.0; rest = inside RightBracket (open_depth b.depth fs) ∷ h.between; reads = i.3; closes = (i.2, inl (record { rest = h.between; mark = refl; up = subst (λ (x : Ex). Have b K fs x h.between) i.1 h.have })) })
    | inr i ↦ to i.0 i.1 i.2 i.4 i.5 (subst (λ (x : Ex). Have b K fs x h.between) i.3 h.have)
  ]
    where
      to : (low high : Bound) (m : List Mark) → ReadsBound (allows b.literals fs) (suc (open_depth b.depth fs)) low w (inside Colon (suc (open_depth b.depth fs)) ∷ m) → ReadsBound (allows b.literals fs) (suc (open_depth b.depth fs)) high m (inside RightBracket (open_depth b.depth fs) ∷ h.between) → Have b K fs (slice e pos low high) h.between → Rest b K (at_index fs e pos) w
      to no_bound high m r s u = inl (m, r, record { high = high; rest = h.between; reads = s; up = u })
      to (bound_at x) high m r s u = inr (record { whole = x; rest = inside Colon (suc (open_depth b.depth fs)) ∷ m; reads = r.1; closes = (r.0, inr (m, refl, record { high = high; rest = h.between; reads = s; up = u })) })

  index_back : (fs : List Frame) (e : Ex) (pos : Pos) (j : ℕ) (w : List Mark) → IsOperand b fs e → j ≡ max (open_depth b.depth fs) (suc (height e)) → Rest b K (at_index fs e pos) w → Made fs e (LeftBracket pos) j w
  index_back fs e pos j w o is (inl i) =
      let c = i.2 in
      record { made = slice e pos no_bound c.high; between = c.rest; makes = (is, o.is_value, inr (no_bound, c.high, i.0, refl, i.1, c.reads)); tight = o.tight; have = c.up }
  index_back fs e pos j w o is (inr v) = elim v.closes.1 [
    | inl i ↦ record { made = index e pos v.whole; between = i.rest; makes = (is, o.is_value, inl (v.whole, refl, v.closes.0, subst (λ (ts : List Mark). ReadsEx (allows b.literals fs) 1 (suc (open_depth b.depth fs)) v.whole w ts) i.mark v.reads)); tight = o.tight; have = i.up }
    | inr i ↦ let c = i.2 in record { made = slice e pos (bound_at v.whole) c.high; between = c.rest; makes = (is, o.is_value, inr (bound_at v.whole, c.high, i.0, refl, (v.closes.0, subst (λ (ts : List Mark). ReadsEx (allows b.literals fs) 1 (suc (open_depth b.depth fs)) v.whole w ts) i.1 v.reads), c.reads)); tight = o.tight; have = c.up }
  ]

  pub index_step : (fs : List Frame) (e : Ex) (pos : Pos) (j : ℕ) (w : List Mark) → IsOperand b fs e → Apart b K → Iff (Have b K fs e (inside (LeftBracket pos) j ∷ w)) ((j ≡ max (open_depth b.depth fs) (suc (height e))) × Rest b K (at_index fs e pos) w)
  index_step fs e pos j w o apart = iff_trans _ _ _ (goes_on fs e (LeftBracket pos) j w o.takes.level_small (λ h. never_closes b K fs e (LeftBracket pos) j w apart tt o.takes.level_small o.takes.valid h)) (
    λ h. (h.makes.0, index_next fs e pos w (subst (λ (i : ℕ). Made fs e (LeftBracket pos) i w) h.makes.0 h)),
    λ h. index_back fs e pos j w o h.0 h.1,
  )

  -- ---- a brace after the type of a literal

  pub brace_read : (fs : List Frame) (e : Ex) (pos : Pos) (j : ℕ) (w : List Mark) → level b fs ≤ 6 → 7 ≤ tightness e → IsLiteralType (allows b.literals fs) e → (Close b K fs e (inside (LeftBrace pos) j ∷ w) → ⊥) → Iff (Have b K fs e (inside (LeftBrace pos) j ∷ w)) ((j ≡ open_depth b.depth fs) × Rest b K (at_element fs (of_type e) no_elements) w)
  brace_read fs e pos j w small tight is never = iff_trans _ _ _ (goes_on fs e (LeftBrace pos) j w small never) (
    λ h. let m = h.makes in (m.0, (element_next b K fs (of_type e) no_elements w).0 ((whole_elements (allows b.literals fs) (open_depth b.depth fs) (of_type e) (Have b K fs) w).0 (m.2, h.between, m.4, subst (λ (x : Ex). Have b K fs x h.between) m.3 h.have))),
    λ h.
        let c = (whole_elements (allows b.literals fs) (open_depth b.depth fs) (of_type e) (Have b K fs) w).1 ((element_next b K fs (of_type e) no_elements w).1 h.1) in
        record { made = literal e c.0; between = c.1; makes = (h.0, is, c.0, refl, c.2); tight = tight; have = c.3 },
  )
