-- What closes after an operand: for each step of the machine, the same texts before and after it.
use Rattle.std.proofs.Common.{◌≡◌, ℕ, suc, ◌≤◌, leb, Bool, true, false, List, [], ◌∷◌, inl, inr, refl, sym, ap, subst, arith}
use Rattle.std.specs.Prelude.{if◌then◌else◌}
use Rattle.std.proofs.lemmas.Bool.{cases_Bool}
use borrow.Author.Tests.{leb-true, leb-false}
use Rattle.base.specs.declared.pos.Pos.{Pos}
use Rattle.syntax.specs.declared.operator.UnOp.{UnOp}
use Rattle.syntax.specs.declared.operator.UnOp.TheVariants.{Star}
use Rattle.syntax.specs.Expressions.{Ex, unary, binary, paren, array_type, slice_type}
use Rattle.syntax.specs.Heights.{precedence}
use Rattle.parse_expressions.specs.declared.terminal.Terminal.{Terminal}
use Rattle.parse_expressions.specs.declared.terminal.Terminal.TheVariants.{Operator, Comma, Colon, Period, Ellipsis, LeftParen, RightParen, LeftBracket, RightBracket, LeftBrace, RightBrace}
use Rattle.parse_expressions.specs.Grammar.{Mark, inside, IsValue, FitsPrefix}
use Rattle.parse_expressions.specs.Frames.{Frame, prefixed, enclosed, awaiting, calling, indexing, bounding, measuring, filling, pointing, of_array, of_slice, enclosed_type, open_depth, allows}
use Rattle.parse_expressions.specs.Machine.{Context, reduce}
use Rattle.parse_expressions.proofs.Growth.{tightness, IsLiteralType, IsTypeOnly, MakesOf, whole}
use Rattle.parse_expressions.proofs.Splits.{precedence_small, grown_from, next}
use Rattle.parse_expressions.proofs.ListEnds.{EndsArgument, argument_first, EndsElement, element_first}
use Rattle.parse_expressions.proofs.OperandSteps.{iff_trans}
use Rattle.parse_expressions.proofs.Following.{level, Valid, Grown, Behind, Over, Close, Have, TakesEx, GoesOn, Apart, Iff}

-- ---- values and types

pub value_type : (e : Ex) → IsValue e → IsTypeOnly e → ⊥
value_type (array_type pos len e) value is = value
value_type (slice_type pos e) value is = value
value_type (unary pos Star e) value is = value_type e value is
value_type (paren pos e) value is = value_type e value is
value_type e value is = is

pub value_fits : (op : UnOp) (e : Ex) → IsValue e → FitsPrefix op e
value_fits Star e value = tt
value_fits op e value = value

pub value_unary : (pos : Pos) (op : UnOp) (e : Ex) → IsValue e → IsValue (unary pos op e)
value_unary pos Star e value = value
value_unary pos op e value = tt

-- the flag of a context in which an expression may stand
pub base_types : (b : Context) → level b [] ≤ 6 → b.types ≡ false
base_types b small = of b.types small
  where
    of : (types : Bool) → (if types then 8 else 1) ≤ 6 → types ≡ false
    of true le = absurd (omega (arith, le))
    of false le = refl

pub base_level : (b : Context) → b.types ≡ false → level b [] ≡ 1
base_level b is = ap (λ (x : Bool). if x then 8 else 1) is

pub base_type_level : (b : Context) → b.types ≡ true → level b [] ≡ 8
base_type_level b is = ap (λ (x : Bool). if x then 8 else 1) is

-- ---- what does not grow

-- c makes nothing that fits its place with t after it
abbrev pub Stays : Bool → ℕ → ℕ → Ex → Terminal → ℕ → List Mark → Type 0
Stays l p d c t j w = (f : Ex) (k : List Mark) → MakesOf l d c t j w f k → tightness f ≤ tightness c → p ≤ tightness f → ⊥

pub still : (l : Bool) (p d : ℕ) (Up : Ex → List Mark → Type 0) (c : Ex) (t : Terminal) (j : ℕ) (w : List Mark) → p ≤ 7 → p ≤ tightness c → Stays l p d c t j w → Iff (Grown l p d Up c (inside t j ∷ w)) (Up c (inside t j ∷ w))
still l p d Up c t j w small holds stays = (
  λ h. elim (next t j w h.grows refl) [
    | inl i ↦ subst (λ (x : Ex). Up x (inside t j ∷ w)) i.0 (subst (λ (ts : List Mark). Up h.whole ts) i.1 h.closes)
    | inr n ↦ absurd (stays n.made n.between n.makes n.tight (grown_from n.grows small))
  ],
  λ u. record { whole = c; rest = inside t j ∷ w; grows = whole (inl holds); closes = u },
)

-- t goes on with no more than what binds less tightly than p
abbrev pub Weak : ℕ → Terminal → Type 0
Weak p (Operator pos op) = precedence op ≤ p
Weak p (LeftParen pos) = ⊥
Weak p (Period pos) = ⊥
Weak p (LeftBracket pos) = ⊥
Weak p t = Unit {0}

-- a brace after e begins no literal
abbrev pub NoLiteral : Bool → Ex → Terminal → Type 0
NoLiteral l e t = (pos : Pos) → t ≡ LeftBrace pos → IsLiteralType l e → ⊥

pub weak_stays : (l : Bool) (p q d : ℕ) (c : Ex) (t : Terminal) (j : ℕ) (w : List Mark) → Weak p t → NoLiteral l c t → suc p ≤ q → Stays l q d c t j w
weak_stays l p q d c (Operator pos op) j w weak brace above f k m tight le =
    let low : q ≤ precedence op = subst (λ (x : Ex). q ≤ tightness x) m.3 le in
    omega (arith, low, weak, above)
weak_stays l p q d c (LeftParen pos) j w weak brace above f k m tight le = weak
weak_stays l p q d c (Period pos) j w weak brace above f k m tight le = weak
weak_stays l p q d c (LeftBracket pos) j w weak brace above f k m tight le = weak
weak_stays l p q d c (LeftBrace pos) j w weak brace above f k m tight le = brace pos refl m.1
weak_stays l p q d c t j w weak brace above f k m tight le = m

-- an operator binds tighter than n
abbrev pub Above : ℕ → Terminal → Type 0
Above n (Operator pos op) = suc n ≤ precedence op
Above n t = Unit {0}

-- an expression that holds together less tightly than t is nothing that t goes on with
pub loose_stays : (l : Bool) (p d : ℕ) (c : Ex) (t : Terminal) (j : ℕ) (w : List Mark) → tightness c ≤ 6 → (IsLiteralType l c → ⊥) → Above (tightness c) t → Stays l p d c t j w
loose_stays l p d c (Operator pos op) j w loose plain above f k m tight le =
    let high : precedence op ≤ tightness c = subst (λ (x : Ex). tightness x ≤ tightness c) m.3 tight in
    omega (arith, high, above)
loose_stays l p d c (LeftParen pos) j w loose plain above f k m tight le = let high : 7 ≤ tightness c = subst (λ (x : Ex). tightness x ≤ tightness c) m.4 tight in omega (arith, high, loose)
loose_stays l p d c (Period pos) j w loose plain above f k m tight le = let high : 7 ≤ tightness c = subst (λ (x : Ex). tightness x ≤ tightness c) m.3 tight in omega (arith, high, loose)
loose_stays l p d c (LeftBracket pos) j w loose plain above f k m tight le = elim m.2 [
  | inl i ↦ let high : 7 ≤ tightness c = subst (λ (x : Ex). tightness x ≤ tightness c) i.1 tight in omega (arith, high, loose)
  | inr i ↦ let high : 7 ≤ tightness c = subst (λ (x : Ex). tightness x ≤ tightness c) i.3 tight in omega (arith, high, loose)
]
loose_stays l p d c (LeftBrace pos) j w loose plain above f k m tight le = plain m.1
loose_stays l p d c t j w loose plain above f k m tight le = m

-- no terminal but a brace goes on with what is a type alone
abbrev pub NoBrace : Terminal → Type 0
NoBrace (LeftBrace pos) = ⊥
NoBrace t = Unit {0}

pub type_stays : (l : Bool) (p d : ℕ) (c : Ex) (t : Terminal) (j : ℕ) (w : List Mark) → IsTypeOnly c → NoBrace t → Stays l p d c t j w
type_stays l p d c (Operator pos op) j w is no_brace f k m tight le = value_type c m.1 is
type_stays l p d c (LeftParen pos) j w is no_brace f k m tight le = value_type c m.1 is
type_stays l p d c (Period pos) j w is no_brace f k m tight le = value_type c m.1 is
type_stays l p d c (LeftBracket pos) j w is no_brace f k m tight le = value_type c m.1 is
type_stays l p d c (LeftBrace pos) j w is no_brace f k m tight le = no_brace
type_stays l p d c t j w is no_brace f k m tight le = m

-- ---- what goes on before anything closes

-- the terminal t goes on with what stands at a place of level p, where l says whether a name begins a literal
abbrev pub Reaches : ℕ → Bool → Terminal → Type 0
Reaches p l (Operator pos op) = p ≤ precedence op
Reaches p l (LeftParen pos) = Unit {0}
Reaches p l (Period pos) = Unit {0}
Reaches p l (LeftBracket pos) = Unit {0}
Reaches p l (LeftBrace pos) = l ≡ true
Reaches p l t = ⊥

reaches_less : (p q : ℕ) (l : Bool) (t : Terminal) → q ≤ p → Reaches p l t → Reaches q l t
reaches_less p q l (Operator pos op) le r = omega (arith, le, r)
reaches_less p q l (LeftParen pos) le r = tt
reaches_less p q l (Period pos) le r = tt
reaches_less p q l (LeftBracket pos) le r = tt
reaches_less p q l (LeftBrace pos) le r = r
reaches_less p q l t le r = absurd r

reaches_above : (n : ℕ) (l : Bool) (t : Terminal) → Reaches (suc n) l t → Above n t
reaches_above n l (Operator pos op) r = r
reaches_above n l t r = tt

reaches_prefix : (l : Bool) (t : Terminal) → Reaches 6 l t → Above 6 t
reaches_prefix l (Operator pos op) r = absurd (omega (arith, r, precedence_small op))
reaches_prefix l t r = tt

reaches_base : (b : Context) (p : ℕ) (t : Terminal) → Reaches p b.literals t → GoesOn b t
reaches_base b p (Operator pos op) r = tt
reaches_base b p (LeftParen pos) r = tt
reaches_base b p (Period pos) r = tt
reaches_base b p (LeftBracket pos) r = tt
reaches_base b p (LeftBrace pos) r = r
reaches_base b p t r = absurd r

module _ (b : Context) (K : Ex → List Mark → Type 0) where
  behind_first : (u t : Terminal) (d : ℕ) (Up : Ex → List Mark → Type 0) (c : Ex) (j : ℕ) (w : List Mark) → Behind u d Up c (inside t j ∷ w) → t ≡ u
  behind_first u t d Up c j w h = cc (h.mark)

  pub never_closes : (fs : List Frame) (e : Ex) (t : Terminal) (j : ℕ) (w : List Mark) → Apart b K → Reaches (level b fs) (allows b.literals fs) t → level b fs ≤ 6 → Valid b fs → Close b K fs e (inside t j ∷ w) → ⊥
  never_closes [] e t j w apart r small valid h = apart.never (base_types b small) e t j w (reaches_base b (level b []) t r) h.1
  never_closes (prefixed pos op ∷ fs) e t j w apart r small valid h =
      never_closes fs (unary pos op e) t j w apart (reaches_less 6 (level b fs) (allows b.literals fs) t valid.0 r) valid.0 valid.1
      ((still (allows b.literals fs) (level b fs) (open_depth b.depth fs) (Close b K fs) (unary pos op e) t j w (omega (arith, valid.0)) valid.0 (loose_stays (allows b.literals fs) (level b fs) (open_depth b.depth fs) (unary pos op e) t j w (omega arith) (λ i. i) (reaches_prefix (allows b.literals fs) t r))).0 h.1)
  never_closes (enclosed pos ∷ fs) e t j w apart r small valid h = let at : t ≡ RightParen = cc (h.mark) in subst (Reaches 1 true) at r
  never_closes (awaiting a pos op ∷ fs) e t j w apart r small valid h =
      let low : level b fs ≤ 6 = omega (arith, valid.0, precedence_small op) in
      never_closes fs (binary pos op a e) t j w apart (reaches_less (suc (precedence op)) (level b fs) (allows b.literals fs) t (omega (arith, valid.0)) r) low valid.1
      ((still (allows b.literals fs) (level b fs) (open_depth b.depth fs) (Close b K fs) (binary pos op a e) t j w (omega (arith, low)) valid.0 (loose_stays (allows b.literals fs) (level b fs) (open_depth b.depth fs) (binary pos op a e) t j w (omega (arith, precedence_small op)) (λ i. i) (reaches_above (precedence op) (allows b.literals fs) t r))).0 h.1)
  never_closes (calling f es ∷ fs) e t j w apart r small valid h = both t r (argument_first (open_depth b.depth fs) f _ (Over b fs (Close b K fs)) t j w h)
    where
      both : (u : Terminal) → Reaches 1 true u → EndsArgument u → ⊥
      both Comma r i = r
      both Ellipsis r i = r
      both RightParen r i = r
      both u r i = i
  never_closes (indexing a pos ∷ fs) e t j w apart r small valid h = elim h.1 [
    | inl i ↦ let at : t ≡ RightBracket = cc (i.mark) in subst (Reaches 1 (allows b.literals fs)) at r
    | inr i ↦ let at : t ≡ Colon = cc (i.1) in subst (Reaches 1 (allows b.literals fs)) at r
  ]
  never_closes (bounding a pos low ∷ fs) e t j w apart r small valid h = let at : t ≡ RightBracket = cc (h.1.mark) in subst (Reaches 1 (allows b.literals fs)) at r
  never_closes (measuring pos ∷ fs) e t j w apart r small valid h = let at : t ≡ RightBracket = cc (h.2) in subst (Reaches 1 (allows b.literals fs)) at r
  never_closes (filling c es key ∷ fs) e t j w apart r small valid h = elim h [
    | inl i ↦ both t r (element_first (allows b.literals fs) (open_depth b.depth fs) c _ (Over b fs (Close b K fs)) t j w i.1)
    | inr i ↦ let at : t ≡ Colon = cc (i.1.colon) in subst (Reaches 0 (allows b.literals fs)) at r
  ]
    where
      both : (u : Terminal) → Reaches 0 (allows b.literals fs) u → EndsElement u → ⊥
      both Comma r i = r
      both (RightBrace end) r i = r
      both u r i = i
  never_closes (pointing pos ∷ fs) e t j w apart r small valid h = omega (arith, small)
  never_closes (of_array pos len ∷ fs) e t j w apart r small valid h = omega (arith, small)
  never_closes (of_slice pos ∷ fs) e t j w apart r small valid h = omega (arith, small)
  never_closes (enclosed_type pos ∷ fs) e t j w apart r small valid h = omega (arith, small)

  -- ---- closing all that binds at least as tightly as p

  have_close : (p : ℕ) (fs : List Frame) (e : Ex) (t : Terminal) (j : ℕ) (w : List Mark) → level b fs ≤ 6 → level b fs ≤ tightness e → suc p ≤ level b fs → Weak p t → NoLiteral (allows b.literals fs) e t → Iff (Have b K fs e (inside t j ∷ w)) (Close b K fs e (inside t j ∷ w))
  have_close p fs e t j w small holds above weak brace = still (allows b.literals fs) (level b fs) (open_depth b.depth fs) (Close b K fs) e t j w (omega (arith, small)) holds (weak_stays (allows b.literals fs) p (level b fs) (open_depth b.depth fs) e t j w weak brace above)

  and_is : (A B : Type 0) → A → Iff (A × B) B
  and_is A B a = (λ h. h.1, λ y. (a, y))

  pub reduced : (p : ℕ) (fs : List Frame) (e : Ex) (t : Terminal) (j : ℕ) (w : List Mark) → p ≤ 5 → Weak p t → NoLiteral (allows b.literals fs) e t → level b fs ≤ 6 → Valid b fs → level b fs ≤ tightness e → IsValue e → Iff (Have b K fs e (inside t j ∷ w)) (Have b K (reduce p fs e).0 (reduce p fs e).1 (inside t j ∷ w))
  reduced p (prefixed pos op ∷ fs) e t j w low weak brace small valid holds value =
      iff_trans _ _ _ (have_close p (prefixed pos op ∷ fs) e t j w small holds (omega (arith, low)) weak brace)
      (iff_trans _ _ _ (and_is (FitsPrefix op e) (Over b fs (Close b K fs) (unary pos op e) (inside t j ∷ w)) (value_fits op e value))
      (reduced p fs (unary pos op e) t j w low weak (λ q is i. i) valid.0 valid.1 valid.0 (value_unary pos op e value)))
  reduced p (awaiting a pos op ∷ fs) e t j w low weak brace small valid holds value =
      elim (cases_Bool (leb p (precedence op))) [
        | inl is ↦ rw is (
            iff_trans _ _ _ (have_close p (awaiting a pos op ∷ fs) e t j w small holds (omega (arith, leb-true p (precedence op) is)) weak brace)
            (iff_trans _ _ _ (and_is (IsValue e) (Over b fs (Close b K fs) (binary pos op a e) (inside t j ∷ w)) value)
            (reduced p fs (binary pos op a e) t j w low weak (λ q is i. i) (omega (arith, valid.0, precedence_small op)) valid.1 valid.0 tt)))
        | inr is ↦ rw is (λ h. h, λ h. h)
      ]
  reduced p fs e t j w low weak brace small valid holds value = (λ h. h, λ h. h)

-- what closing leaves open
abbrev pub IsOpen : List Frame → Type 0
IsOpen (prefixed pos op ∷ fs) = ⊥
IsOpen (awaiting a pos op ∷ fs) = ⊥
IsOpen (pointing pos ∷ fs) = ⊥
IsOpen (of_array pos len ∷ fs) = ⊥
IsOpen (of_slice pos ∷ fs) = ⊥
IsOpen (enclosed_type pos ∷ fs) = ⊥
IsOpen fs = Unit {0}

pub record IsReduced (b : Context) (p : ℕ) (fs : List Frame) (e : Ex) : Type 0 where
  pub takes : TakesEx b fs
  pub is_value : IsValue e
  pub holds : level b fs ≤ tightness e
  pub below : 1 ≤ p → level b fs ≤ p
  pub tight : p ≤ tightness e
  pub is_open : p ≡ 0 → IsOpen fs

pub reduce_valid : (b : Context) (p : ℕ) (fs : List Frame) (e : Ex) → level b fs ≤ 6 → Valid b fs → level b fs ≤ tightness e → p ≤ tightness e → p ≤ 5 → IsValue e → IsReduced b p (reduce p fs e).0 (reduce p fs e).1
reduce_valid b p (prefixed pos op ∷ fs) e small valid holds tight low value = reduce_valid b p fs (unary pos op e) valid.0 valid.1 valid.0 (omega (arith, low)) low (value_unary pos op e value)
reduce_valid b p (awaiting a pos op ∷ fs) e small valid holds tight low value =
    elim (cases_Bool (leb p (precedence op))) [
      | inl is ↦ rw is (reduce_valid b p fs (binary pos op a e) (omega (arith, valid.0, precedence_small op)) valid.1 valid.0 (leb-true p (precedence op) is) low tt)
      | inr is ↦ rw is (record { takes = record { level_small = small; valid = valid }; is_value = value; holds = holds; below = λ least. leb-false p (precedence op) is; tight = tight; is_open = λ z. absurd (omega (arith, z, leb-false p (precedence op) is)) })
    ]
reduce_valid b p [] e small valid holds tight low value = record { takes = record { level_small = small; valid = valid }; is_value = value; holds = holds; below = λ least. subst (λ (n : ℕ). n ≤ p) (sym (base_level b (base_types b small))) least; tight = tight; is_open = λ z. tt }
reduce_valid b p (pointing pos ∷ fs) e small valid holds tight low value = absurd (omega (arith, small))
reduce_valid b p (of_array pos len ∷ fs) e small valid holds tight low value = absurd (omega (arith, small))
reduce_valid b p (of_slice pos ∷ fs) e small valid holds tight low value = absurd (omega (arith, small))
reduce_valid b p (enclosed_type pos ∷ fs) e small valid holds tight low value = absurd (omega (arith, small))
reduce_valid b p fs e small valid holds tight low value = record { takes = record { level_small = small; valid = valid }; is_value = value; holds = holds; below = λ least. omega (arith, least); tight = tight; is_open = λ z. tt }
