-- The first terminal of an operand or a type says what its head is.
use Rattle.std.proofs.Common.{◌≡◌, ℕ, suc, ◌≤◌, Bool, true, List, ◌∷◌, ◌⊎◌, inl, inr, Option, Some, None, refl, sym, ap, subst, arith}
use Rattle.base.specs.declared.pos.Pos.{Pos}
use Rattle.syntax.specs.declared.operator.UnOp.TheVariants.{Star}
use Rattle.syntax.specs.Expressions.{Ex, number, string, name, unary, paren, array_type, slice_type, elements, Elements}
use Rattle.parse_expressions.specs.declared.terminal.Terminal.{Terminal}
use Rattle.parse_expressions.specs.declared.terminal.Terminal.TheVariants.{Identifier, Number, String, LeftParen, RightParen, LeftBracket, RightBracket, LeftBrace}
use Rattle.parse_expressions.specs.Terminals.{Prefix, prefix, prefix_in}
use Rattle.parse_expressions.specs.Grammar.{Mark, inside, IsValue, FitsPrefix, ReadsEx, ReadsType, ReadsElements}
use Rattle.parse_expressions.proofs.Growth.{tightness}
use Rattle.parse_expressions.proofs.Splits.{IsHead}

-- a type that begins with a bracket, from after the bracket on
abbrev pub BracketAt : Bool → ℕ → Pos → List Mark → Ex → List Mark → Type 0
BracketAt l d pos w e m = ((len c : Ex) × (n : List Mark) × (e ≡ array_type pos len c) × (IsValue len × ReadsEx l 1 (suc d) len w (inside RightBracket d ∷ n)) × ReadsType l (suc d) c n m) ⊎ ((c : Ex) × (n : List Mark) × (e ≡ slice_type pos c) × (w ≡ inside RightBracket d ∷ n) × ReadsType l (suc d) c n m)

-- ---- operands

abbrev pub PrefixAt : Bool → ℕ → Option Prefix → ℕ → List Mark → Ex → List Mark → Type 0
PrefixAt l d None j w h m = ⊥
PrefixAt l d (Some (prefix pos op)) j w h m = (j ≡ d) × (c : Ex) × (h ≡ unary pos op c) × FitsPrefix op c × ReadsEx l 6 (suc d) c w m

-- the head h that begins with a terminal, which has the nesting j and the marks w after it, and leaves m
abbrev pub HeadAt : Bool → ℕ → Terminal → ℕ → List Mark → Ex → List Mark → Type 0
HeadAt l d (Number pos n) j w h m = (j ≡ d) × (h ≡ number pos n) × (w ≡ m)
HeadAt l d (String pos end) j w h m = (j ≡ d) × (h ≡ string pos end) × (w ≡ m)
HeadAt l d (Identifier x) j w h m = (j ≡ d) × (h ≡ name x) × (w ≡ m)
HeadAt l d (LeftParen pos) j w h m = (j ≡ d) × (c : Ex) × (h ≡ paren pos c) × ReadsEx true 1 (suc d) c w (inside RightParen d ∷ m)
HeadAt l d (LeftBracket pos) j w h m = (j ≡ d) × BracketAt l d pos w h m
HeadAt l d (LeftBrace pos) j w h m = (j ≡ d) × (es : Elements) × (h ≡ elements pos es) × ReadsElements l d es w m
HeadAt l d t j w h m = PrefixAt l d (prefix_in t) j w h m

prefix_head : (l : Bool) (d : ℕ) (t : Terminal) (j : ℕ) (w : List Mark) (h : Ex) (m : List Mark) (p : Prefix) → prefix_in t ≡ Some p → PrefixAt l d (Some p) j w h m → HeadAt l d t j w h m
prefix_head l d (Number pos n) j w h m p is a = absurd (cc (is))
prefix_head l d (String pos end) j w h m p is a = absurd (cc (is))
prefix_head l d (Identifier x) j w h m p is a = absurd (cc (is))
prefix_head l d (LeftParen pos) j w h m p is a = absurd (cc (is))
prefix_head l d (LeftBracket pos) j w h m p is a = absurd (cc (is))
prefix_head l d (LeftBrace pos) j w h m p is a = absurd (cc (is))
prefix_head l d t j w h m p is a = subst (λ (x : Option Prefix). PrefixAt l d x j w h m) (sym is) a

pub head_at : (l : Bool) (d : ℕ) (t : Terminal) (j : ℕ) (w : List Mark) (h : Ex) (m : List Mark) → IsHead h → ReadsEx l 0 d h (inside t j ∷ w) m → HeadAt l d t j w h m
head_at l d t j w (number pos n) m is r = let at : Number pos n ≡ t = cc in subst (λ (x : Terminal). HeadAt l d x j w (number pos n) m) at (cc, refl, cc)
head_at l d t j w (string pos end) m is r = let at : String pos end ≡ t = cc in subst (λ (x : Terminal). HeadAt l d x j w (string pos end) m) at (cc, refl, cc)
head_at l d t j w (name x) m is r = let at : Identifier x ≡ t = cc in subst (λ (y : Terminal). HeadAt l d y j w (name x) m) at (cc, refl, cc)
head_at l d t j w (unary pos op e) m is r =
    let at : r.1 ≡ t = cc (r.4) in
    let same_w : r.2 ≡ w = cc (r.4) in
    prefix_head l d t j w (unary pos op e) m (prefix pos op) (subst (λ (x : Terminal). prefix_in x ≡ Some (prefix pos op)) at r.3) (cc (r.4), e, refl, r.5, subst (λ (ts : List Mark). ReadsEx l 6 (suc d) e ts m) same_w r.6)
head_at l d t j w (paren pos e) m is r =
    let at : LeftParen pos ≡ t = cc (r.1) in
    let same_w : r.0 ≡ w = cc (r.1) in
    subst (λ (x : Terminal). HeadAt l d x j w (paren pos e) m) at (cc (r.1), e, refl, subst (λ (ts : List Mark). ReadsEx true 1 (suc d) e ts (inside RightParen d ∷ m)) same_w r.2)
head_at l d t j w (array_type pos len e) m is r =
    let at : LeftBracket pos ≡ t = cc (r.2) in
    let same_w : r.0 ≡ w = cc (r.2) in
    subst (λ (x : Terminal). HeadAt l d x j w (array_type pos len e) m) at (cc (r.2), inl (len, e, r.1, refl, (r.3.0, subst (λ (ts : List Mark). ReadsEx l 1 (suc d) len ts (inside RightBracket d ∷ r.1)) same_w r.3.1), r.4))
head_at l d t j w (slice_type pos e) m is r =
    let at : LeftBracket pos ≡ t = cc (r.1) in
    let same_w : w ≡ inside RightBracket d ∷ r.0 = cc (r.1) in
    subst (λ (x : Terminal). HeadAt l d x j w (slice_type pos e) m) at (cc (r.1), inr (e, r.0, refl, same_w, r.2))
head_at l d t j w (elements pos es) m is r =
    let at : LeftBrace pos ≡ t = cc (r.2) in
    let same_w : r.1 ≡ w = cc (r.2) in
    subst (λ (x : Terminal). HeadAt l d x j w (elements pos es) m) at (cc (r.2), es, refl, subst (λ (ts : List Mark). ReadsElements l d es ts m) same_w r.3)
head_at l d t j w h m is r = absurd is

-- a type with brackets is read in each place
pub bracket_reads : (l : Bool) (d : ℕ) (pos : Pos) (w : List Mark) (e : Ex) (m : List Mark) → BracketAt l d pos w e m → (q : ℕ) → ReadsEx l q d e (inside (LeftBracket pos) d ∷ w) m
bracket_reads l d pos w e m b q = elim b [
  | inl i ↦ subst (λ (x : Ex). ReadsEx l q d x (inside (LeftBracket pos) d ∷ w) m) (sym i.3) (w, i.2, refl, i.4, i.5)
  | inr i ↦ subst (λ (x : Ex). ReadsEx l q d x (inside (LeftBracket pos) d ∷ w) m) (sym i.2) (i.1, ap (λ (ts : List Mark). inside (LeftBracket pos) d ∷ ts) i.3, i.4)
]

pub bracket_tight : (l : Bool) (d : ℕ) (pos : Pos) (w : List Mark) (e : Ex) (m : List Mark) → BracketAt l d pos w e m → 7 ≤ tightness e
bracket_tight l d pos w e m b = elim b [
  | inl i ↦ subst (λ (x : Ex). 7 ≤ tightness x) (sym i.3) (omega arith)
  | inr i ↦ subst (λ (x : Ex). 7 ≤ tightness x) (sym i.2) (omega arith)
]

-- ---- types

abbrev pub TypePrefixAt : Bool → ℕ → Option Prefix → ℕ → List Mark → Ex → List Mark → Type 0
TypePrefixAt l d (Some (prefix pos Star)) j w e m = (j ≡ d) × (c : Ex) × (e ≡ unary pos Star c) × ReadsType l (suc d) c w m
TypePrefixAt l d _ j w e m = ⊥

abbrev pub TypeAt : Bool → ℕ → Terminal → ℕ → List Mark → Ex → List Mark → Type 0
TypeAt l d (Identifier x) j w e m = (j ≡ d) × (e ≡ name x) × (w ≡ m)
TypeAt l d (LeftParen pos) j w e m = (j ≡ d) × (c : Ex) × (e ≡ paren pos c) × ReadsType true (suc d) c w (inside RightParen d ∷ m)
TypeAt l d (LeftBracket pos) j w e m = (j ≡ d) × BracketAt l d pos w e m
TypeAt l d t j w e m = TypePrefixAt l d (prefix_in t) j w e m

prefix_type : (l : Bool) (d : ℕ) (t : Terminal) (j : ℕ) (w : List Mark) (e : Ex) (m : List Mark) (p : Prefix) → prefix_in t ≡ Some p → TypePrefixAt l d (Some p) j w e m → TypeAt l d t j w e m
prefix_type l d (Identifier x) j w e m p is a = absurd (cc (is))
prefix_type l d (LeftParen pos) j w e m p is a = absurd (cc (is))
prefix_type l d (LeftBracket pos) j w e m p is a = absurd (cc (is))
prefix_type l d t j w e m p is a = subst (λ (x : Option Prefix). TypePrefixAt l d x j w e m) (sym is) a

pub type_at : (l : Bool) (d : ℕ) (t : Terminal) (j : ℕ) (w : List Mark) (e : Ex) (m : List Mark) → ReadsType l d e (inside t j ∷ w) m → TypeAt l d t j w e m
type_at l d t j w (name x) m r = let at : Identifier x ≡ t = cc in subst (λ (y : Terminal). TypeAt l d y j w (name x) m) at (cc, refl, cc)
type_at l d t j w (unary pos Star e) m r =
    let at : r.0 ≡ t = cc (r.3) in
    let same_w : r.1 ≡ w = cc (r.3) in
    prefix_type l d t j w (unary pos Star e) m (prefix pos Star) (subst (λ (x : Terminal). prefix_in x ≡ Some (prefix pos Star)) at r.2) (cc (r.3), e, refl, subst (λ (ts : List Mark). ReadsType l (suc d) e ts m) same_w r.4)
type_at l d t j w (paren pos e) m r =
    let at : LeftParen pos ≡ t = cc (r.1) in
    let same_w : r.0 ≡ w = cc (r.1) in
    subst (λ (x : Terminal). TypeAt l d x j w (paren pos e) m) at (cc (r.1), e, refl, subst (λ (ts : List Mark). ReadsType true (suc d) e ts (inside RightParen d ∷ m)) same_w r.2)
type_at l d t j w (array_type pos len e) m r =
    let at : LeftBracket pos ≡ t = cc (r.2) in
    let same_w : r.0 ≡ w = cc (r.2) in
    subst (λ (x : Terminal). TypeAt l d x j w (array_type pos len e) m) at (cc (r.2), inl (len, e, r.1, refl, (r.3.0, subst (λ (ts : List Mark). ReadsEx l 1 (suc d) len ts (inside RightBracket d ∷ r.1)) same_w r.3.1), r.4))
type_at l d t j w (slice_type pos e) m r =
    let at : LeftBracket pos ≡ t = cc (r.1) in
    let same_w : w ≡ inside RightBracket d ∷ r.0 = cc (r.1) in
    subst (λ (x : Terminal). TypeAt l d x j w (slice_type pos e) m) at (cc (r.1), inr (e, r.0, refl, same_w, r.2))
type_at l d t j w e m r = absurd r

-- and back
pub bracket_type : (l : Bool) (d : ℕ) (pos : Pos) (w : List Mark) (e : Ex) (m : List Mark) → BracketAt l d pos w e m → ReadsType l d e (inside (LeftBracket pos) d ∷ w) m
bracket_type l d pos w e m b = elim b [
  | inl i ↦ subst (λ (x : Ex). ReadsType l d x (inside (LeftBracket pos) d ∷ w) m) (sym i.3) (w, i.2, refl, i.4, i.5)
  | inr i ↦ subst (λ (x : Ex). ReadsType l d x (inside (LeftBracket pos) d ∷ w) m) (sym i.2) (i.1, ap (λ (ts : List Mark). inside (LeftBracket pos) d ∷ ts) i.3, i.4)
]
