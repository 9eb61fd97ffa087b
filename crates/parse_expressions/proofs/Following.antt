-- What may follow in each state of the machine, where the relation K says what may follow the whole expression or type.
use Rattle.std.proofs.Common.{◌≡◌, ℕ, suc, ◌≤◌, Bool, true, false, List, [], ◌∷◌, ◌⊎◌, Some, None}
use Rattle.std.specs.Prelude.{if◌then◌else◌}
use Rattle.base.specs.declared.pos.Pos.{Pos}
use Rattle.syntax.specs.declared.operator.UnOp.TheVariants.{Star}
use Rattle.syntax.specs.declared.expression.Name.{Name}
use Rattle.syntax.specs.Expressions.{Ex, name, unary, binary, paren, call, selector, index, slice, array_type, slice_type, literal, elements, Exs, Bound, no_bound, bound_at, Elements}
use Rattle.syntax.specs.Heights.{precedence}
use Rattle.syntax.specs.Lists.{appended, with_ex, elements_joined, with_element}
use Rattle.parse_expressions.specs.declared.terminal.Terminal.{Terminal}
use Rattle.parse_expressions.specs.declared.terminal.Terminal.TheVariants.{Identifier, Operator, Comma, Colon, Period, LeftParen, RightParen, LeftBracket, RightBracket, LeftBrace, RightBrace}
use Rattle.parse_expressions.specs.Grammar.{Mark, inside, IsValue, FitsPrefix, ReadsEx, ReadsType, ReadsBound, ReadsMore, ClosesArguments, ReadsMoreElements, ClosesElements}
use Rattle.parse_expressions.specs.Frames.{Container, of_type, of_element, Frame, prefixed, enclosed, awaiting, calling, indexing, bounding, measuring, filling, pointing, of_array, of_slice, enclosed_type, open_depth, allows}
use Rattle.parse_expressions.specs.Machine.{Context, Open, at_operand, at_argument, at_spread, at_call_end, at_bracket, at_type_operand, at_type_end, at_type, at_operator, at_selector, at_index, at_high, at_element, at_value, at_element_end, Progress, fails, goes, ends, is_bracket_type, allows_type}
use Rattle.parse_expressions.proofs.Growth.{tightness, IsTypeOnly, Grows}

-- ---- the places inside what is open

-- the least precedence of what may stand at the open place; 8 where a type is wanted
abbrev pub level : Context → List Frame → ℕ
level b [] = if b.types then 8 else 1
level b (prefixed pos op ∷ fs) = 6
level b (enclosed pos ∷ fs) = 1
level b (awaiting a pos op ∷ fs) = suc (precedence op)
level b (calling f es ∷ fs) = 1
level b (indexing a pos ∷ fs) = 1
level b (bounding a pos low ∷ fs) = 1
level b (measuring pos ∷ fs) = 1
level b (filling c es key ∷ fs) = 0
level b (pointing pos ∷ fs) = 8
level b (of_array pos len ∷ fs) = 8
level b (of_slice pos ∷ fs) = 8
level b (enclosed_type pos ∷ fs) = 8

-- elements without a type are themselves an element
abbrev pub Standing : Container → List Frame → Type 0
Standing (of_type t) fs = Unit {0}
Standing (of_element pos) (filling c es key ∷ fs) = Unit {0}
Standing (of_element pos) _ = ⊥

-- each frame stands where an expression may stand, or where a type may
abbrev pub Valid : Context → List Frame → Type 0
Valid b [] = Unit {0}
Valid b (awaiting a pos op ∷ fs) = (level b fs ≤ precedence op) × Valid b fs
Valid b (measuring pos ∷ fs) = Valid b fs
Valid b (filling c es key ∷ fs) = (level b fs ≤ 6) × Standing c fs × Valid b fs
Valid b (pointing pos ∷ fs) = (level b fs ≡ 8) × Valid b fs
Valid b (of_array pos len ∷ fs) = Valid b fs
Valid b (of_slice pos ∷ fs) = Valid b fs
Valid b (enclosed_type pos ∷ fs) = (level b fs ≡ 8) × Valid b fs
Valid b (f ∷ fs) = (level b fs ≤ 6) × Valid b fs

-- ---- what may follow an expression that is whole

-- it is what c grows to, and then Up
pub record Grown (l : Bool) (p d : ℕ) (Up : Ex → List Mark → Type 0) (c : Ex) (m : List Mark) : Type 0 where
  pub whole : Ex
  pub rest : List Mark
  pub grows : Grows l p d c m whole rest
  pub closes : Up whole rest

-- the other arguments of a call inside of d brackets, and its end
pub record ArgumentsEnd (d : ℕ) (f : Ex) (es : Exs) (Up : Ex → List Mark → Type 0) (m : List Mark) : Type 0 where
  pub others : Exs
  pub spread : Bool
  pub between : List Mark
  pub rest : List Mark
  pub reads : ReadsMore true (suc d) others m between
  pub closes : ClosesArguments d spread between rest
  pub up : Up (call f (appended es others) spread) rest

-- after the `...` of a call
pub record SpreadEnd (d : ℕ) (f : Ex) (es : Exs) (Up : Ex → List Mark → Type 0) (m : List Mark) : Type 0 where
  pub rest : List Mark
  pub closes : (m ≡ inside RightParen d ∷ rest) ⊎ (m ≡ inside Comma (suc d) ∷ inside RightParen d ∷ rest)
  pub up : Up (call f es true) rest

-- the high bound of a slice expression, after the colon
pub record HighEnd (l : Bool) (d : ℕ) (a : Ex) (pos : Pos) (low : Bound) (Up : Ex → List Mark → Type 0) (m : List Mark) : Type 0 where
  pub high : Bound
  pub rest : List Mark
  pub reads : ReadsBound l (suc d) high m (inside RightBracket d ∷ rest)
  pub up : Up (slice a pos low high) rest

abbrev pub contained : Container → Elements → Ex
contained (of_type t) es = literal t es
contained (of_element pos) es = elements pos es

-- the other elements of a literal, and its end
pub record ElementsEnd (l : Bool) (d : ℕ) (c : Container) (es : Elements) (Up : Ex → List Mark → Type 0) (m : List Mark) : Type 0 where
  pub others : Elements
  pub between : List Mark
  pub rest : List Mark
  pub reads : ReadsMoreElements l (suc d) others m between
  pub closes : ClosesElements d between rest
  pub up : Up (contained c (elements_joined es others)) rest

-- the name x was a key: after its colon stands the value
pub record KeyEnd (l : Bool) (d : ℕ) (c : Container) (es : Elements) (Up : Ex → List Mark → Type 0) (e : Ex) (m : List Mark) : Type 0 where
  pub key : Name
  pub is_name : e ≡ name key
  pub behind : List Mark
  pub colon : m ≡ inside Colon (suc d) ∷ behind
  pub value : Ex
  pub rest : List Mark
  pub is_value : IsValue value
  pub reads : ReadsEx l 0 (suc d) value behind rest
  pub closes : ElementsEnd l d c (with_element es (Some key) value) Up rest

-- an expression or a type c after which a mark stands
pub record Behind (t : Terminal) (d : ℕ) (Up : Ex → List Mark → Type 0) (c : Ex) (m : List Mark) : Type 0 where
  pub rest : List Mark
  pub mark : m ≡ inside t d ∷ rest
  pub up : Up c rest

-- a type
pub record TypeRead (l : Bool) (d : ℕ) (Up : Ex → List Mark → Type 0) (m : List Mark) : Type 0 where
  pub whole : Ex
  pub rest : List Mark
  pub reads : ReadsType l d whole m rest
  pub up : Up whole rest

-- an expression c on top of fs, which may still grow before it is whole
abbrev pub Over : Context → List Frame → (Ex → List Mark → Type 0) → Ex → List Mark → Type 0
Over b fs Up c m = Grown (allows b.literals fs) (level b fs) (open_depth b.depth fs) Up c m

-- what may follow e, which is whole: K, once nothing is open
abbrev pub Close : Context → (Ex → List Mark → Type 0) → List Frame → Ex → List Mark → Type 0
Close b K [] e m = (b.types ≡ false → IsValue e) × K e m
Close b K (prefixed pos op ∷ fs) e m = FitsPrefix op e × Over b fs (Close b K fs) (unary pos op e) m
Close b K (enclosed pos ∷ fs) e m = Behind RightParen (open_depth b.depth fs) (Over b fs (Close b K fs)) (paren pos e) m
Close b K (awaiting a pos op ∷ fs) e m = IsValue e × Over b fs (Close b K fs) (binary pos op a e) m
Close b K (calling f es ∷ fs) e m = ArgumentsEnd (open_depth b.depth fs) f (with_ex es e) (Over b fs (Close b K fs)) m
Close b K (indexing a pos ∷ fs) e m = IsValue e × (Behind RightBracket (open_depth b.depth fs) (Over b fs (Close b K fs)) (index a pos e) m ⊎ ((n : List Mark) × (m ≡ inside Colon (suc (open_depth b.depth fs)) ∷ n) × HighEnd (allows b.literals fs) (open_depth b.depth fs) a pos (bound_at e) (Over b fs (Close b K fs)) n))
Close b K (bounding a pos low ∷ fs) e m = IsValue e × Behind RightBracket (open_depth b.depth fs) (Over b fs (Close b K fs)) (slice a pos low (bound_at e)) m
Close b K (measuring pos ∷ fs) e m = IsValue e × (n : List Mark) × (m ≡ inside RightBracket (open_depth b.depth fs) ∷ n) × TypeRead (allows b.literals fs) (suc (open_depth b.depth fs)) (λ t k. Over b fs (Close b K fs) (array_type pos e t) k) n
Close b K (filling c es key ∷ fs) e m = (IsValue e × ElementsEnd (allows b.literals fs) (open_depth b.depth fs) c (with_element es key e) (Over b fs (Close b K fs)) m) ⊎ ((key ≡ None) × KeyEnd (allows b.literals fs) (open_depth b.depth fs) c es (Over b fs (Close b K fs)) e m)
Close b K (pointing pos ∷ fs) e m = Over b fs (Close b K fs) (unary pos Star e) m
Close b K (of_array pos len ∷ fs) e m = Over b fs (Close b K fs) (array_type pos len e) m
Close b K (of_slice pos ∷ fs) e m = Over b fs (Close b K fs) (slice_type pos e) m
Close b K (enclosed_type pos ∷ fs) e m = Behind RightParen (open_depth b.depth fs) (Over b fs (Close b K fs)) (paren pos e) m

-- ---- what may follow where something is wanted

-- after e, which may still grow
abbrev pub Have : Context → (Ex → List Mark → Type 0) → List Frame → Ex → List Mark → Type 0
Have b K fs e m = Over b fs (Close b K fs) e m

-- where an operand is wanted
pub record Wants (b : Context) (K : Ex → List Mark → Type 0) (fs : List Frame) (m : List Mark) : Type 0 where
  pub whole : Ex
  pub rest : List Mark
  pub reads : ReadsEx (allows b.literals fs) (level b fs) (open_depth b.depth fs) whole m rest
  pub closes : Close b K fs whole rest

-- where a type is wanted
abbrev pub WantsType : Context → (Ex → List Mark → Type 0) → List Frame → List Mark → Type 0
WantsType b K fs m = TypeRead (allows b.literals fs) (open_depth b.depth fs) (Close b K fs) m

-- what may follow in a state
abbrev pub Rest : Context → (Ex → List Mark → Type 0) → Open → List Mark → Type 0
Rest b K (at_operand fs) m = Wants b K fs m
Rest b K (at_argument fs f es) m = Behind RightParen (open_depth b.depth fs) (Have b K fs) (call f es false) m ⊎ Wants b K (calling f es ∷ fs) m
Rest b K (at_spread fs f es) m = SpreadEnd (open_depth b.depth fs) f es (Have b K fs) m
Rest b K (at_call_end fs f es) m = Behind RightParen (open_depth b.depth fs) (Have b K fs) (call f es true) m
Rest b K (at_bracket fs pos) m = ((n : List Mark) × (m ≡ inside RightBracket (open_depth b.depth fs) ∷ n) × WantsType b K (of_slice pos ∷ fs) n) ⊎ Wants b K (measuring pos ∷ fs) m
Rest b K (at_type_operand fs) m = WantsType b K fs m
Rest b K (at_type_end fs pos e) m = Behind RightParen (open_depth b.depth fs) (Have b K fs) (paren pos e) m
Rest b K (at_type fs e) m = Have b K fs e m
Rest b K (at_operator fs e) m = Have b K fs e m
Rest b K (at_selector fs e pos) m = (x : Name) × (n : List Mark) × (m ≡ inside (Identifier x) (open_depth b.depth fs) ∷ n) × Have b K fs (selector e pos x) n
Rest b K (at_index fs e pos) m = ((n : List Mark) × (m ≡ inside Colon (suc (open_depth b.depth fs)) ∷ n) × HighEnd (allows b.literals fs) (open_depth b.depth fs) e pos no_bound (Have b K fs) n) ⊎ Wants b K (indexing e pos ∷ fs) m
Rest b K (at_high fs e pos low) m = HighEnd (allows b.literals fs) (open_depth b.depth fs) e pos low (Have b K fs) m
Rest b K (at_element fs c es) m = ((end : Pos) × (n : List Mark) × (m ≡ inside (RightBrace end) (open_depth b.depth fs) ∷ n) × Have b K fs (contained c es) n) ⊎ Wants b K (filling c es None ∷ fs) m
Rest b K (at_value fs c es x) m = Wants b K (filling c es (Some x) ∷ fs) m
Rest b K (at_element_end fs c es) m = ElementsEnd (allows b.literals fs) (open_depth b.depth fs) c es (Have b K fs) m

-- ---- what each state keeps

-- an expression may stand on top of fs
pub record TakesEx (b : Context) (fs : List Frame) : Type 0 where
  pub level_small : level b fs ≤ 6
  pub valid : Valid b fs

-- a type may stand on top of fs
pub record TakesType (b : Context) (fs : List Frame) : Type 0 where
  pub level_is : level b fs ≡ 8
  pub valid : Valid b fs

-- an operand on top of fs
pub record IsOperand (b : Context) (fs : List Frame) (e : Ex) : Type 0 where
  pub takes : TakesEx b fs
  pub tight : 7 ≤ tightness e
  pub is_value : IsValue e

-- a type inside an expression: the type of a literal, or an argument
pub record IsInnerType (b : Context) (fs : List Frame) (e : Ex) : Type 0 where
  pub takes : TakesEx b fs
  pub tight : 7 ≤ tightness e
  pub is_type : IsTypeOnly e
  pub stands : (is_bracket_type e ≡ true) ⊎ (allows_type fs ≡ true)

-- the elements of a container on top of fs
pub record TakesElement (b : Context) (fs : List Frame) (c : Container) : Type 0 where
  pub takes : TakesEx b fs
  pub standing : Standing c fs

abbrev pub ValidOpen : Context → Open → Type 0
ValidOpen b (at_operand fs) = (1 ≤ level b fs) × TakesEx b fs
ValidOpen b (at_argument fs f es) = TakesEx b fs
ValidOpen b (at_spread fs f es) = TakesEx b fs
ValidOpen b (at_call_end fs f es) = TakesEx b fs
ValidOpen b (at_bracket fs pos) = Valid b fs
ValidOpen b (at_type_operand fs) = TakesType b fs
ValidOpen b (at_type_end fs pos e) = TakesType b fs
ValidOpen b (at_type fs e) = ((fs ≡ []) × (b.types ≡ true)) ⊎ IsInnerType b fs e
ValidOpen b (at_operator fs e) = IsOperand b fs e
ValidOpen b (at_selector fs e pos) = TakesEx b fs
ValidOpen b (at_index fs e pos) = TakesEx b fs
ValidOpen b (at_high fs e pos low) = TakesEx b fs
ValidOpen b (at_element fs c es) = TakesElement b fs c
ValidOpen b (at_value fs c es x) = TakesElement b fs c
ValidOpen b (at_element_end fs c es) = TakesElement b fs c

abbrev pub ValidNext : Context → Progress → Type 0
ValidNext b fails = Unit {0}
ValidNext b (goes s) = ValidOpen b s
ValidNext b (ends e) = b.types ≡ false → IsValue e

-- ---- a terminal, and what follows it

-- a terminal that goes on with an expression that is whole
abbrev pub GoesOn : Context → Terminal → Type 0
GoesOn b (Operator pos op) = Unit {0}
GoesOn b (LeftParen pos) = Unit {0}
GoesOn b (Period pos) = Unit {0}
GoesOn b (LeftBracket pos) = Unit {0}
GoesOn b (LeftBrace pos) = b.literals ≡ true
GoesOn b _ = ⊥

-- no such terminal follows a whole expression
pub record Apart (b : Context) (K : Ex → List Mark → Type 0) : Type 0 where
  pub never : b.types ≡ false → (e : Ex) (t : Terminal) (j : ℕ) (w : List Mark) → GoesOn b t → K e (inside t j ∷ w) → ⊥

-- What may follow a terminal t of nesting j, where the machine makes this progress at it; n is the nesting where it goes on. Where the
-- expression ended before t, t is not taken.
abbrev pub After : Context → (Ex → List Mark → Type 0) → Progress → ℕ → Terminal → ℕ → List Mark → Type 0
After b K fails n t j w = ⊥
After b K (goes s) n t j w = (j ≡ n) × Rest b K s w
After b K (ends e) n t j w = (b.types ≡ false → IsValue e) × K e (inside t j ∷ w)

abbrev pub Iff : Type 0 → Type 0 → Type 0
Iff A B = (A → B) × (B → A)
