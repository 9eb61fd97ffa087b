-- Expressions from left to right: what a terminal makes of the expression after which it stands.
use Rattle.std.proofs.Common.{◌≡◌, ℕ, suc, max, ◌≤◌, Bool, true, List, ◌∷◌, ◌⊎◌}
use Rattle.syntax.specs.declared.operator.UnOp.TheVariants.{Star}
use Rattle.syntax.specs.declared.expression.Name.{Name}
use Rattle.syntax.specs.Expressions.{Ex, name, unary, binary, paren, call, selector, index, slice, array_type, slice_type, literal, elements, Exs, Bound, Elements}
use Rattle.syntax.specs.Heights.{precedence, height}
use Rattle.parse_expressions.specs.declared.terminal.Terminal.{Terminal}
use Rattle.parse_expressions.specs.declared.terminal.Terminal.TheVariants.{Identifier, Operator, Colon, Period, LeftParen, LeftBracket, RightBracket, LeftBrace}
use Rattle.parse_expressions.specs.Grammar.{Mark, inside, IsValue, ReadsEx, ReadsBound, ReadsArguments, ReadsElements}

-- how tightly an expression holds together
abbrev pub tightness : Ex → ℕ
tightness (unary pos op e) = 6
tightness (binary pos op a b) = precedence op
tightness (elements pos es) = 0
tightness _ = 7

-- the type of a literal; one that is a name begins a literal only where l is true
abbrev pub IsLiteralType : Bool → Ex → Type 0
IsLiteralType l (name x) = l ≡ true
IsLiteralType l (array_type pos len e) = Unit {0}
IsLiteralType l (slice_type pos e) = Unit {0}
IsLiteralType l _ = ⊥

-- a type that is no value
abbrev pub IsTypeOnly : Ex → Type 0
IsTypeOnly (array_type pos len e) = Unit {0}
IsTypeOnly (slice_type pos e) = Unit {0}
IsTypeOnly (unary pos Star e) = IsTypeOnly e
IsTypeOnly (paren pos e) = IsTypeOnly e
IsTypeOnly _ = ⊥

-- The terminal t, with the nesting j and the marks w after it, stands after the expression c, which is inside of d brackets. It
-- makes c the leftmost part of g, and leaves rest.
abbrev pub MakesOf : Bool → ℕ → Ex → Terminal → ℕ → List Mark → Ex → List Mark → Type 0
MakesOf l d c (Operator pos op) j w g rest = (j ≡ max d (suc (height c))) × IsValue c × (b : Ex) × (g ≡ binary pos op c b) × IsValue b × ReadsEx l (suc (precedence op)) d b w rest
MakesOf l d c (LeftParen pos) j w g rest = (j ≡ max d (suc (height c))) × IsValue c × (es : Exs) × (spread : Bool) × (g ≡ call c es spread) × ReadsArguments d es spread w rest
MakesOf l d c (Period pos) j w g rest = (j ≡ max d (suc (height c))) × IsValue c × (x : Name) × (g ≡ selector c pos x) × (w ≡ inside (Identifier x) d ∷ rest)
MakesOf l d c (LeftBracket pos) j w g rest = (j ≡ max d (suc (height c))) × IsValue c × (((i : Ex) × (g ≡ index c pos i) × IsValue i × ReadsEx l 1 (suc d) i w (inside RightBracket d ∷ rest)) ⊎ ((low high : Bound) × (m : List Mark) × (g ≡ slice c pos low high) × ReadsBound l (suc d) low w (inside Colon (suc d) ∷ m) × ReadsBound l (suc d) high m (inside RightBracket d ∷ rest)))
MakesOf l d c (LeftBrace pos) j w g rest = (j ≡ d) × IsLiteralType l c × (es : Elements) × (g ≡ literal c es) × ReadsElements l d es w rest
MakesOf l d c _ j w g rest = ⊥

-- g is an expression that fits a place of precedence p and whose leftmost part is c; the marks ts after c lead to rest. Where a type is
-- wanted, as p ≡ 8 says, it is c alone.
pub data Grows : Bool → ℕ → ℕ → Ex → List Mark → Ex → List Mark → Type 0 where
  whole : {l : Bool} {p d : ℕ} {c : Ex} {ts : List Mark} → (p ≤ tightness c) ⊎ (p ≡ 8) → Grows l p d c ts c ts
  more : {l : Bool} {p d : ℕ} {c f g : Ex} {ts k rest : List Mark} (t : Terminal) (j : ℕ) (w : List Mark) → p ≤ 7 → ts ≡ inside t j ∷ w → MakesOf l d c t j w f k → tightness f ≤ tightness c → Grows l p d f k g rest → Grows l p d c ts g rest
