-- A terminal after what no operator or postfix goes on with divides the texts by it from the left.
use Rattle.std.proofs.Common.{◌≡◌, ℕ, ◌≤◌, leb, Bool, true, false, List, [], ◌∷◌, inl, inr, Option, None, refl, ap, subst, arith}
use Rattle.std.specs.Prelude.{if◌then◌else◌}
use Rattle.std.proofs.lemmas.Bool.{cases_Bool}
use Rattle.base.specs.declared.pos.Pos.{Pos}
use Rattle.syntax.specs.declared.operator.UnOp.{UnOp}
use Rattle.syntax.specs.declared.operator.UnOp.TheVariants.{Star}
use Rattle.syntax.specs.declared.expression.Name.{Name}
use Rattle.syntax.specs.Expressions.{Ex, name, unary, binary, paren, index, slice, elements, bound_at, Elements}
use Rattle.syntax.specs.Heights.{precedence}
use Rattle.syntax.specs.Lists.{with_ex, with_element}
use Rattle.parse_expressions.specs.declared.terminal.Terminal.{Terminal}
use Rattle.parse_expressions.specs.declared.terminal.Terminal.TheVariants.{Operator, Comma, Colon, Period, Ellipsis, LeftParen, RightParen, LeftBracket, RightBracket, LeftBrace, RightBrace}
use Rattle.parse_expressions.specs.Grammar.{Mark, inside, IsValue, FitsPrefix}
use Rattle.parse_expressions.specs.Frames.{Container, of_type, of_element, Frame, prefixed, enclosed, awaiting, calling, indexing, bounding, measuring, filling, pointing, of_array, of_slice, enclosed_type, open_depth, allows}
use Rattle.parse_expressions.specs.Machine.{Context, at_high, at_type, at_type_operand, fails, goes, allows_type, reduce, reduce_type, filled, closes, closes_reduced, closes_type, nesting_at_closes}
use Rattle.parse_expressions.proofs.Growth.{tightness, IsLiteralType, IsTypeOnly, MakesOf, Grows, whole, more}
use Rattle.parse_expressions.proofs.Splits.{precedence_small, made_tight}
use Rattle.parse_expressions.proofs.ListEnds.{argument_first, argument_comma, argument_paren, argument_ellipsis, element_first, element_comma, element_brace}
use Rattle.parse_expressions.proofs.OperandSteps.{iff_trans, element_next, argument_next}
use Rattle.parse_expressions.proofs.OpenFrames.{value_type, base_types, Stays, still, loose_stays, type_stays, NoBrace, Weak, NoLiteral, reduced, IsOpen, reduce_valid}
use Rattle.parse_expressions.proofs.Following.{level, Standing, Valid, Behind, ElementsEnd, contained, Over, Close, Have, Rest, TakesEx, IsOperand, IsInnerType, After, Iff}

-- the elements of a literal without a type do not grow
elements_same : {l : Bool} {p d : ℕ} {c g : Ex} {ts rest : List Mark} → Grows l p d c ts g rest → tightness c ≡ 0 → (g ≡ c) × (rest ≡ ts)
elements_same (whole fits) loose = (refl, refl)
elements_same {l = l} {d = d} {c = c} (more {f = f} {k = k} t j w small is made tight grows) loose = absurd (omega (arith, loose, tight, made_tight l d c t j w f k made))

pub behind_step : (u : Terminal) (d : ℕ) (Up : Ex → List Mark → Type 0) (c : Ex) (j : ℕ) (w : List Mark) → Iff (Behind u d Up c (inside u j ∷ w)) ((j ≡ d) × Up c w)
behind_step u d Up c j w = (
  λ h. let same_w : h.rest ≡ w = cc (h.mark) in (cc (h.mark), subst (λ (ts : List Mark). Up c ts) same_w h.up),
  λ h. record { rest = w; mark = ap (λ (i : ℕ). inside u i ∷ w) h.0; up = h.1 },
)

and_value : (A B C : Type 0) → A → Iff B C → Iff (A × B) C
and_value A B C a f = (λ h. f.0 h.1, λ c. (a, f.1 c))

-- the name x, with a colon after it, is no key
abbrev pub NoKey : List Frame → Ex → Terminal → Type 0
NoKey fs e t = (c : Container) (es : Elements) (gs : List Frame) (x : Name) → fs ≡ filling c es None ∷ gs → e ≡ name x → t ≡ Colon → ⊥

module _ (b : Context) (K : Ex → List Mark → Type 0) where
  -- after the closing brace of elements
  pub filled_step : (fs : List Frame) (c : Container) (es : Elements) (m : List Mark) → Standing c fs → Iff (Have b K fs (contained c es) m) (Rest b K (filled fs c es) m)
  filled_step fs (of_type t) es m stands = (λ h. h, λ h. h)
  filled_step (filling c before key ∷ fs) (of_element pos) es m stands = (
    λ h.
        let i = elements_same h.grows refl in
        to (subst (λ (x : Ex). Close b K (filling c before key ∷ fs) x m) i.0 (subst (λ (ts : List Mark). Close b K (filling c before key ∷ fs) h.whole ts) i.1 h.closes)),
    λ h. record { whole = elements pos es; rest = m; grows = whole (inl (omega arith)); closes = inl (tt, h) },
  )
    where
      to : Close b K (filling c before key ∷ fs) (elements pos es) m → ElementsEnd (allows b.literals fs) (open_depth b.depth fs) c (with_element before key (elements pos es)) (Have b K fs) m
      to (inl i) = i.1
      to (inr i) = absurd (cc (i.1.is_name))
  filled_step fs (of_element pos) es m stands = absurd stands

  -- ---- after a value

  pub close_step : (fs : List Frame) (e : Ex) (t : Terminal) (j : ℕ) (w : List Mark) → IsOpen fs → Valid b fs → IsValue e → NoKey fs e t → Iff (Close b K fs e (inside t j ∷ w)) (After b K (closes fs e t) (nesting_at_closes b.depth fs t) t j w)
  close_step [] e t j w is_open valid value no_colon = (λ h. h, λ h. h)
  close_step (enclosed pos ∷ fs) e RightParen j w is_open valid value no_colon = behind_step RightParen (open_depth b.depth fs) (Over b fs (Close b K fs)) (paren pos e) j w
  close_step (enclosed pos ∷ fs) e t j w is_open valid value no_colon = (λ h. absurd (cc (h.mark)), λ h. absurd h)
  close_step (calling f es ∷ fs) e Comma j w is_open valid value no_colon =
      let i = argument_comma (open_depth b.depth fs) f (with_ex es e) (Over b fs (Close b K fs)) j w in
      let n = argument_next b K fs f (with_ex es e) w in
      (λ h. let a = i.0 h in (a.0, n.0 a.1), λ h. i.1 (h.0, n.1 h.1))
  close_step (calling f es ∷ fs) e Ellipsis j w is_open valid value no_colon = argument_ellipsis (open_depth b.depth fs) f (with_ex es e) (Over b fs (Close b K fs)) j w
  close_step (calling f es ∷ fs) e RightParen j w is_open valid value no_colon = argument_paren (open_depth b.depth fs) f (with_ex es e) (Over b fs (Close b K fs)) j w
  close_step (calling f es ∷ fs) e t j w is_open valid value no_colon = (λ h. absurd (argument_first (open_depth b.depth fs) f (with_ex es e) (Over b fs (Close b K fs)) t j w h), λ h. absurd h)
  close_step (indexing a pos ∷ fs) e RightBracket j w is_open valid value no_colon = (
    λ h. elim h.1 [
      | inl i ↦ (behind_step RightBracket (open_depth b.depth fs) (Over b fs (Close b K fs)) (index a pos e) j w).0 i
      | inr i ↦ absurd (cc (i.1))
    ],
    λ h. (value, inl ((behind_step RightBracket (open_depth b.depth fs) (Over b fs (Close b K fs)) (index a pos e) j w).1 h)),
  )
  close_step (indexing a pos ∷ fs) e Colon j w is_open valid value no_colon = (
    λ h. elim h.1 [
      | inl i ↦ absurd (cc (i.mark))
      | inr i ↦ let same_w : i.0 ≡ w = cc (i.1) in (cc (i.1), subst (λ (ts : List Mark). Rest b K (at_high fs a pos (bound_at e)) ts) same_w i.2)
    ],
    λ h. (value, inr (w, ap (λ (i : ℕ). inside Colon i ∷ w) h.0, h.1)),
  )
  close_step (indexing a pos ∷ fs) e t j w is_open valid value no_colon = (λ h. absurd (elim h.1 [ inl i ↦ cc (i.mark) | inr i ↦ cc (i.1) ]), λ h. absurd h)
  close_step (bounding a pos low ∷ fs) e RightBracket j w is_open valid value no_colon = and_value (IsValue e) _ _ value (behind_step RightBracket (open_depth b.depth fs) (Over b fs (Close b K fs)) (slice a pos low (bound_at e)) j w)
  close_step (bounding a pos low ∷ fs) e t j w is_open valid value no_colon = (λ h. absurd (cc (h.1.mark)), λ h. absurd h)
  close_step (measuring pos ∷ fs) e RightBracket j w is_open valid value no_colon = (
    λ h. let same_w : h.1 ≡ w = cc (h.2) in (cc (h.2), subst (λ (ts : List Mark). Rest b K (at_type_operand (of_array pos e ∷ fs)) ts) same_w h.3),
    λ h. (value, w, ap (λ (i : ℕ). inside RightBracket i ∷ w) h.0, h.1),
  )
  close_step (measuring pos ∷ fs) e t j w is_open valid value no_colon = (λ h. absurd (cc (h.2)), λ h. absurd h)
  close_step (filling c es key ∷ fs) e Comma j w is_open valid value no_colon =
      let i = element_comma (allows b.literals fs) (open_depth b.depth fs) c (with_element es key e) (Over b fs (Close b K fs)) j w in
      let n = element_next b K fs c (with_element es key e) w in (
        λ h. elim h [ inl a ↦ let k = i.0 a.1 in (k.0, n.0 k.1) | inr k ↦ absurd (cc (k.1.colon)) ],
        λ h. inl (value, i.1 (h.0, n.1 h.1)),
      )
  close_step (filling c es key ∷ fs) e (RightBrace end) j w is_open valid value no_colon =
      let i = element_brace (allows b.literals fs) (open_depth b.depth fs) c (with_element es key e) (Over b fs (Close b K fs)) end j w in
      let n = filled_step fs c (with_element es key e) w valid.1 in (
        λ h. elim h [ inl a ↦ let k = i.0 a.1 in (k.0, n.0 k.1) | inr k ↦ absurd (cc (k.1.colon)) ],
        λ h. inl (value, i.1 (h.0, n.1 h.1)),
      )
  close_step (filling c es key ∷ fs) e Colon j w is_open valid value no_colon = (
    λ h. absurd (elim h [
      | inl a ↦ element_first (allows b.literals fs) (open_depth b.depth fs) c (with_element es key e) (Over b fs (Close b K fs)) Colon j w a.1
      | inr k ↦ no_colon c es fs k.1.key (ap (λ (x : Option Name). filling c es x ∷ fs) k.0) k.1.is_name refl
    ]),
    λ h. absurd h,
  )
  close_step (filling c es key ∷ fs) e t j w is_open valid value no_colon = (
    λ h. absurd (elim h [
      | inl a ↦ element_first (allows b.literals fs) (open_depth b.depth fs) c (with_element es key e) (Over b fs (Close b K fs)) t j w a.1
      | inr k ↦ cc (k.1.colon)
    ]),
    λ h. absurd h,
  )
  close_step (prefixed pos op ∷ fs) e t j w is_open valid value no_colon = absurd is_open
  close_step (awaiting a pos op ∷ fs) e t j w is_open valid value no_colon = absurd is_open
  close_step (pointing pos ∷ fs) e t j w is_open valid value no_colon = absurd is_open
  close_step (of_array pos len ∷ fs) e t j w is_open valid value no_colon = absurd is_open
  close_step (of_slice pos ∷ fs) e t j w is_open valid value no_colon = absurd is_open
  close_step (enclosed_type pos ∷ fs) e t j w is_open valid value no_colon = absurd is_open

  -- ---- after what is reduced

  no_key_reduced : (p : ℕ) (fs : List Frame) (e : Ex) (t : Terminal) → NoKey fs e t → NoKey (reduce p fs e).0 (reduce p fs e).1 t
  no_key_reduced p (prefixed pos op ∷ fs) e t no_colon = no_key_reduced p fs (unary pos op e) t (λ c es gs x i k n. cc)
  no_key_reduced p (awaiting a pos op ∷ fs) e t no_colon = elim (cases_Bool (leb p (precedence op))) [
    | inl is ↦ rw is (no_key_reduced p fs (binary pos op a e) t (λ c es gs x i k n. cc))
    | inr is ↦ rw is no_colon
  ]
  no_key_reduced p fs e t no_colon = no_colon

  no_literal_reduced : (p : ℕ) (fs : List Frame) (e : Ex) (t : Terminal) → NoLiteral (allows b.literals fs) e t → NoLiteral (allows b.literals (reduce p fs e).0) (reduce p fs e).1 t
  no_literal_reduced p (prefixed pos op ∷ fs) e t brace = no_literal_reduced p fs (unary pos op e) t (λ q is i. i)
  no_literal_reduced p (awaiting a pos op ∷ fs) e t brace = elim (cases_Bool (leb p (precedence op))) [
    | inl is ↦ rw is (no_literal_reduced p fs (binary pos op a e) t (λ q i k. k))
    | inr is ↦ rw is brace
  ]
  no_literal_reduced p fs e t brace = brace

  ends_stays : (l : Bool) (q d : ℕ) (c : Ex) (t : Terminal) (j : ℕ) (w : List Mark) → Weak 0 t → NoLiteral l c t → Stays l q d c t j w
  ends_stays l q d c (Operator pos op) j w weak brace f k m tight le = absurd (omega (arith, weak, precedence_small op))
  ends_stays l q d c (LeftBrace pos) j w weak brace f k m tight le = brace pos refl m.1
  ends_stays l q d c (LeftParen pos) j w weak brace f k m tight le = weak
  ends_stays l q d c (Period pos) j w weak brace f k m tight le = weak
  ends_stays l q d c (LeftBracket pos) j w weak brace f k m tight le = weak
  ends_stays l q d c t j w weak brace f k m tight le = m

  pub ends_step : (fs : List Frame) (e : Ex) (t : Terminal) (j : ℕ) (w : List Mark) → IsOperand b fs e → Weak 0 t → NoLiteral (allows b.literals fs) e t → NoKey fs e t → Iff (Have b K fs e (inside t j ∷ w)) (After b K (closes_reduced fs e t) (nesting_at_closes b.depth (reduce 0 fs e).0 t) t j w)
  ends_step fs e t j w o weak brace no_colon =
      let enough : level b fs ≤ tightness e = omega (arith, o.takes.level_small, o.tight) in
      let ok = reduce_valid b 0 fs e o.takes.level_small o.takes.valid enough (omega arith) (omega arith) o.is_value in
      iff_trans _ _ _ (reduced b K 0 fs e t j w (omega arith) weak brace o.takes.level_small o.takes.valid enough o.is_value)
      (iff_trans _ _ _
      (still (allows b.literals (reduce 0 fs e).0) (level b (reduce 0 fs e).0) (open_depth b.depth (reduce 0 fs e).0) (Close b K (reduce 0 fs e).0) (reduce 0 fs e).1 t j w (omega (arith, ok.takes.level_small)) ok.holds (ends_stays (allows b.literals (reduce 0 fs e).0) (level b (reduce 0 fs e).0) (open_depth b.depth (reduce 0 fs e).0) (reduce 0 fs e).1 t j w weak (no_literal_reduced 0 fs e t brace)))
      (close_step (reduce 0 fs e).0 (reduce 0 fs e).1 t j w (ok.is_open refl) ok.takes.valid ok.is_value (no_key_reduced 0 fs e t no_colon)))

  -- the nesting of a brace where the expression ends is not asked for
  pub brace_ends : (fs : List Frame) (e : Ex) (pos : Pos) (n k j : ℕ) (w : List Mark) → Iff (After b K (closes fs e (LeftBrace pos)) n (LeftBrace pos) j w) (After b K (closes fs e (LeftBrace pos)) k (LeftBrace pos) j w)
  brace_ends [] e pos n k j w = (λ h. h, λ h. h)
  brace_ends (f ∷ fs) e pos n k j w = (λ h. absurd (no f fs n h), λ h. absurd (no f fs k h))
    where
      no : (f : Frame) (fs : List Frame) (i : ℕ) → After b K (closes (f ∷ fs) e (LeftBrace pos)) i (LeftBrace pos) j w → ⊥
      no (enclosed q) fs i h = h
      no (calling g es) fs i h = h
      no (indexing a q) fs i h = h
      no (bounding a q low) fs i h = h
      no (measuring q) fs i h = h
      no (filling c es key) fs i h = h
      no g fs i h = h

-- ---- after a type

-- what closing the `*` before a type leaves open
abbrev pub NoStar : List Frame → Type 0
NoStar (prefixed pos Star ∷ fs) = ⊥
NoStar fs = Unit {0}

pub record IsTypeReduced (b : Context) (fs : List Frame) (e : Ex) : Type 0 where
  pub takes : TakesEx b fs
  pub tight : 6 ≤ tightness e
  pub is_type : IsTypeOnly e
  pub no_star : NoStar fs

pub reduce_type_valid : (b : Context) (fs : List Frame) (e : Ex) → TakesEx b fs → 6 ≤ tightness e → IsTypeOnly e → IsTypeReduced b (reduce_type fs e).0 (reduce_type fs e).1
reduce_type_valid b (prefixed pos Star ∷ fs) e takes tight is = reduce_type_valid b fs (unary pos Star e) (record { level_small = takes.valid.0; valid = takes.valid.1 }) (omega arith) is
reduce_type_valid b fs e takes tight is = record { takes = takes; tight = tight; is_type = is; no_star = tt }

-- a type that begins no literal does not grow
type_makes : (l : Bool) (d : ℕ) (c : Ex) (t : Terminal) (j : ℕ) (w : List Mark) (f : Ex) (k : List Mark) → IsTypeOnly c → (IsLiteralType l c → ⊥) → MakesOf l d c t j w f k → ⊥
type_makes l d c (Operator pos op) j w f k is plain m = value_type c m.1 is
type_makes l d c (LeftParen pos) j w f k is plain m = value_type c m.1 is
type_makes l d c (Period pos) j w f k is plain m = value_type c m.1 is
type_makes l d c (LeftBracket pos) j w f k is plain m = value_type c m.1 is
type_makes l d c (LeftBrace pos) j w f k is plain m = plain m.1
type_makes l d c t j w f k is plain m = m

type_grown : {l : Bool} {p d : ℕ} {c g : Ex} {ts rest : List Mark} → Grows l p d c ts g rest → IsTypeOnly c → (IsLiteralType l c → ⊥) → (g ≡ c) × (rest ≡ ts)
type_grown (whole fits) is plain = (refl, refl)
type_grown {l = l} {d = d} {c = c} (more {f = f} {k = k} t j w small eq made tight grows) is plain = absurd (type_makes l d c t j w f k is plain made)

type_fits : (op : UnOp) (e : Ex) (pos : Pos) (fs : List Frame) → FitsPrefix op e → IsTypeOnly e → NoStar (prefixed pos op ∷ fs) → ⊥
type_fits Star e pos fs fits is no_star = no_star
type_fits op e pos fs fits is no_star = value_type e fits is

module _ (b : Context) (K : Ex → List Mark → Type 0) where
  type_still : (fs : List Frame) (e : Ex) (t : Terminal) (j : ℕ) (w : List Mark) → level b fs ≤ 6 → 6 ≤ tightness e → IsTypeOnly e → NoBrace t → Iff (Have b K fs e (inside t j ∷ w)) (Close b K fs e (inside t j ∷ w))
  type_still fs e t j w small tight is no_brace = still (allows b.literals fs) (level b fs) (open_depth b.depth fs) (Close b K fs) e t j w (omega (arith, small)) (omega (arith, small, tight)) (type_stays (allows b.literals fs) (level b fs) (open_depth b.depth fs) e t j w is no_brace)

  type_reduced : (fs : List Frame) (e : Ex) (t : Terminal) (j : ℕ) (w : List Mark) → TakesEx b fs → 6 ≤ tightness e → IsTypeOnly e → NoBrace t → Iff (Have b K fs e (inside t j ∷ w)) (Have b K (reduce_type fs e).0 (reduce_type fs e).1 (inside t j ∷ w))
  type_reduced (prefixed pos Star ∷ fs) e t j w takes tight is no_brace =
      iff_trans _ _ _ (type_still (prefixed pos Star ∷ fs) e t j w takes.level_small tight is no_brace)
      (iff_trans _ _ _ (and_value (Unit {0}) _ _ tt (λ h. h, λ h. h)) (type_reduced fs (unary pos Star e) t j w (record { level_small = takes.valid.0; valid = takes.valid.1 }) (omega arith) is no_brace))
  type_reduced fs e t j w takes tight is no_brace = (λ h. h, λ h. h)

  -- only as an argument does a type stand for itself
  type_never : (fs : List Frame) (e : Ex) (m : List Mark) → TakesEx b fs → IsTypeOnly e → allows_type fs ≡ false → Close b K fs e m → ⊥
  type_never [] e m takes is argument h = value_type e (h.0 (base_types b takes.level_small)) is
  type_never (prefixed pos Star ∷ fs) e m takes is argument h =
      let i = type_grown h.1.grows is (λ no_literal. no_literal) in
      type_never fs (unary pos Star e) m (record { level_small = takes.valid.0; valid = takes.valid.1 }) is argument (subst (λ (x : Ex). Close b K fs x m) i.0 (subst (λ (ts : List Mark). Close b K fs h.1.whole ts) i.1 h.1.closes))
  type_never (prefixed pos op ∷ fs) e m takes is argument h = value_type e h.0 is
  type_never (enclosed pos ∷ fs) e m takes is argument h =
      let i = type_grown h.up.grows is (λ no_literal. no_literal) in
      type_never fs (paren pos e) h.rest (record { level_small = takes.valid.0; valid = takes.valid.1 }) is argument (subst (λ (x : Ex). Close b K fs x h.rest) i.0 (subst (λ (ts : List Mark). Close b K fs h.up.whole ts) i.1 h.up.closes))
  type_never (calling f es ∷ fs) e m takes is argument h = cc
  type_never (awaiting a pos op ∷ fs) e m takes is argument h = value_type e h.0 is
  type_never (indexing a pos ∷ fs) e m takes is argument h = value_type e h.0 is
  type_never (bounding a pos low ∷ fs) e m takes is argument h = value_type e h.0 is
  type_never (measuring pos ∷ fs) e m takes is argument h = value_type e h.0 is
  type_never (filling c es key ∷ fs) e m takes is argument h = elim h [ inl a ↦ value_type e a.0 is | inr k ↦ subst IsTypeOnly k.1.is_name is ]
  type_never (pointing pos ∷ fs) e m takes is argument h = omega (arith, takes.level_small)
  type_never (of_array pos len ∷ fs) e m takes is argument h = omega (arith, takes.level_small)
  type_never (of_slice pos ∷ fs) e m takes is argument h = omega (arith, takes.level_small)
  type_never (enclosed_type pos ∷ fs) e m takes is argument h = omega (arith, takes.level_small)

  type_close_step : (fs : List Frame) (e : Ex) (t : Terminal) (j : ℕ) (w : List Mark) → TakesEx b fs → IsTypeOnly e → NoStar fs → Iff (Close b K fs e (inside t j ∷ w)) (After b K (closes_type fs e t) (nesting_at_closes b.depth fs t) t j w)
  type_close_step [] e t j w takes is no_star = (λ h. absurd (value_type e (h.0 (base_types b takes.level_small)) is), λ h. absurd h)
  type_close_step (enclosed pos ∷ fs) e RightParen j w takes is no_star = by (allows_type fs) refl
    where
      by : (l : Bool) → allows_type fs ≡ l → Iff (Close b K (enclosed pos ∷ fs) e (inside RightParen j ∷ w)) (After b K (if l then goes (at_type fs (paren pos e)) else fails) (open_depth b.depth fs) RightParen j w)
      by true argument = behind_step RightParen (open_depth b.depth fs) (Over b fs (Close b K fs)) (paren pos e) j w
      by false argument = (λ h. absurd (type_never (enclosed pos ∷ fs) e (inside RightParen j ∷ w) takes is argument h), λ h. absurd h)
  type_close_step (enclosed pos ∷ fs) e t j w takes is no_star = (λ h. absurd (cc (h.mark)), λ h. absurd h)
  type_close_step (calling f es ∷ fs) e Comma j w takes is no_star =
      let i = argument_comma (open_depth b.depth fs) f (with_ex es e) (Over b fs (Close b K fs)) j w in
      let n = argument_next b K fs f (with_ex es e) w in
      (λ h. let a = i.0 h in (a.0, n.0 a.1), λ h. i.1 (h.0, n.1 h.1))
  type_close_step (calling f es ∷ fs) e Ellipsis j w takes is no_star = argument_ellipsis (open_depth b.depth fs) f (with_ex es e) (Over b fs (Close b K fs)) j w
  type_close_step (calling f es ∷ fs) e RightParen j w takes is no_star = argument_paren (open_depth b.depth fs) f (with_ex es e) (Over b fs (Close b K fs)) j w
  type_close_step (calling f es ∷ fs) e t j w takes is no_star = (λ h. absurd (argument_first (open_depth b.depth fs) f (with_ex es e) (Over b fs (Close b K fs)) t j w h), λ h. absurd h)
  type_close_step (prefixed pos op ∷ fs) e t j w takes is no_star = (λ h. absurd (type_fits op e pos fs h.0 is no_star), λ h. absurd h)
  type_close_step (awaiting a pos op ∷ fs) e t j w takes is no_star = (λ h. absurd (value_type e h.0 is), λ h. absurd h)
  type_close_step (indexing a pos ∷ fs) e t j w takes is no_star = (λ h. absurd (value_type e h.0 is), λ h. absurd h)
  type_close_step (bounding a pos low ∷ fs) e t j w takes is no_star = (λ h. absurd (value_type e h.0 is), λ h. absurd h)
  type_close_step (measuring pos ∷ fs) e t j w takes is no_star = (λ h. absurd (value_type e h.0 is), λ h. absurd h)
  type_close_step (filling c es key ∷ fs) e t j w takes is no_star = (λ h. absurd (elim h [ inl a ↦ value_type e a.0 is | inr k ↦ subst IsTypeOnly k.1.is_name is ]), λ h. absurd h)
  type_close_step (pointing pos ∷ fs) e t j w takes is no_star = absurd (omega (arith, takes.level_small))
  type_close_step (of_array pos len ∷ fs) e t j w takes is no_star = absurd (omega (arith, takes.level_small))
  type_close_step (of_slice pos ∷ fs) e t j w takes is no_star = absurd (omega (arith, takes.level_small))
  type_close_step (enclosed_type pos ∷ fs) e t j w takes is no_star = absurd (omega (arith, takes.level_small))

  -- a terminal but a brace after a type inside an expression
  pub type_ends_step : (fs : List Frame) (e : Ex) (t : Terminal) (j : ℕ) (w : List Mark) → IsInnerType b fs e → NoBrace t → Iff (Have b K fs e (inside t j ∷ w)) (After b K (closes_type (reduce_type fs e).0 (reduce_type fs e).1 t) (nesting_at_closes b.depth (reduce_type fs e).0 t) t j w)
  type_ends_step fs e t j w o no_brace =
      let ok = reduce_type_valid b fs e o.takes (omega (arith, o.tight)) o.is_type in
      iff_trans _ _ _ (type_reduced fs e t j w o.takes (omega (arith, o.tight)) o.is_type no_brace)
      (iff_trans _ _ _ (type_still (reduce_type fs e).0 (reduce_type fs e).1 t j w ok.takes.level_small ok.tight ok.is_type no_brace)
      (type_close_step (reduce_type fs e).0 (reduce_type fs e).1 t j w ok.takes ok.is_type ok.no_star))

  -- a type does not end before a brace
  pub type_open : (fs : List Frame) (e : Ex) (pos : Pos) (j : ℕ) (w : List Mark) → TakesEx b fs → IsTypeOnly e → Close b K fs e (inside (LeftBrace pos) j ∷ w) → ⊥
  type_open [] e pos j w takes is h = value_type e (h.0 (base_types b takes.level_small)) is
  type_open (prefixed at Star ∷ fs) e pos j w takes is h =
      type_open fs (unary at Star e) pos j w (record { level_small = takes.valid.0; valid = takes.valid.1 }) is
      ((still (allows b.literals fs) (level b fs) (open_depth b.depth fs) (Close b K fs) (unary at Star e) (LeftBrace pos) j w (omega (arith, takes.valid.0)) takes.valid.0 (loose_stays (allows b.literals fs) (level b fs) (open_depth b.depth fs) (unary at Star e) (LeftBrace pos) j w (omega arith) (λ i. i) tt)).0 h.1)
  type_open (prefixed at op ∷ fs) e pos j w takes is h = value_type e h.0 is
  type_open (enclosed at ∷ fs) e pos j w takes is h = cc (h.mark)
  type_open (calling f es ∷ fs) e pos j w takes is h = argument_first (open_depth b.depth fs) f (with_ex es e) (Over b fs (Close b K fs)) (LeftBrace pos) j w h
  type_open (awaiting a at op ∷ fs) e pos j w takes is h = value_type e h.0 is
  type_open (indexing a at ∷ fs) e pos j w takes is h = value_type e h.0 is
  type_open (bounding a at low ∷ fs) e pos j w takes is h = value_type e h.0 is
  type_open (measuring at ∷ fs) e pos j w takes is h = value_type e h.0 is
  type_open (filling c es key ∷ fs) e pos j w takes is h = elim h [ inl a ↦ value_type e a.0 is | inr k ↦ subst IsTypeOnly k.1.is_name is ]
  type_open (pointing at ∷ fs) e pos j w takes is h = omega (arith, takes.level_small)
  type_open (of_array at len ∷ fs) e pos j w takes is h = omega (arith, takes.level_small)
  type_open (of_slice at ∷ fs) e pos j w takes is h = omega (arith, takes.level_small)
  type_open (enclosed_type at ∷ fs) e pos j w takes is h = omega (arith, takes.level_small)
