-- The relation that says what may follow a whole expression may be replaced.
use Rattle.std.proofs.Common.{ℕ, Bool, List, [], ◌∷◌, inl, inr, Some, None}
use Rattle.base.specs.declared.pos.Pos.{Pos}
use Rattle.syntax.specs.Expressions.{Ex, array_type, Exs, Bound, Elements}
use Rattle.parse_expressions.specs.declared.terminal.Terminal.{Terminal}
use Rattle.parse_expressions.specs.Grammar.{Mark}
use Rattle.parse_expressions.specs.Frames.{Container, Frame, prefixed, enclosed, awaiting, calling, indexing, bounding, measuring, filling, pointing, of_array, of_slice, enclosed_type, open_depth, allows}
use Rattle.parse_expressions.specs.Machine.{Context, Open, at_operand, at_argument, at_spread, at_call_end, at_bracket, at_type_operand, at_type_end, at_type, at_operator, at_selector, at_index, at_high, at_element, at_value, at_element_end}
use Rattle.parse_expressions.proofs.Following.{level, Grown, ArgumentsEnd, HighEnd, ElementsEnd, KeyEnd, Behind, TypeRead, Over, Close, Have, Wants, Rest}

-- what is true of each whole expression and its rest
abbrev Each : (Ex → List Mark → Type 0) → (Ex → List Mark → Type 0) → Type 0
Each K L = (e : Ex) (m : List Mark) → K e m → L e m

grown_each : (l : Bool) (p d : ℕ) (K L : Ex → List Mark → Type 0) (c : Ex) (m : List Mark) → Each K L → Grown l p d K c m → Grown l p d L c m
grown_each l p d K L c m f h = record { whole = h.whole; rest = h.rest; grows = h.grows; closes = f h.whole h.rest h.closes }

arguments_each : (d : ℕ) (g : Ex) (es : Exs) (K L : Ex → List Mark → Type 0) (m : List Mark) → Each K L → ArgumentsEnd d g es K m → ArgumentsEnd d g es L m
arguments_each d g es K L m f h = record { others = h.others; spread = h.spread; between = h.between; rest = h.rest; reads = h.reads; closes = h.closes; up = f _ h.rest h.up }

high_each : (l : Bool) (d : ℕ) (a : Ex) (pos : Pos) (low : Bound) (K L : Ex → List Mark → Type 0) (m : List Mark) → Each K L → HighEnd l d a pos low K m → HighEnd l d a pos low L m
high_each l d a pos low K L m f h = record { high = h.high; rest = h.rest; reads = h.reads; up = f _ h.rest h.up }

elements_each : (l : Bool) (d : ℕ) (c : Container) (es : Elements) (K L : Ex → List Mark → Type 0) (m : List Mark) → Each K L → ElementsEnd l d c es K m → ElementsEnd l d c es L m
elements_each l d c es K L m f h = record { others = h.others; between = h.between; rest = h.rest; reads = h.reads; closes = h.closes; up = f _ h.rest h.up }

key_each : (l : Bool) (d : ℕ) (c : Container) (es : Elements) (K L : Ex → List Mark → Type 0) (e : Ex) (m : List Mark) → Each K L → KeyEnd l d c es K e m → KeyEnd l d c es L e m
key_each l d c es K L e m f h = record { key = h.key; is_name = h.is_name; behind = h.behind; colon = h.colon; value = h.value; rest = h.rest; is_value = h.is_value; reads = h.reads; closes = elements_each l d c _ K L h.rest f h.closes }

behind_each : (t : Terminal) (d : ℕ) (K L : Ex → List Mark → Type 0) (c : Ex) (m : List Mark) → Each K L → Behind t d K c m → Behind t d L c m
behind_each t d K L c m f h = record { rest = h.rest; mark = h.mark; up = f c h.rest h.up }

type_each : (l : Bool) (d : ℕ) (K L : Ex → List Mark → Type 0) (m : List Mark) → Each K L → TypeRead l d K m → TypeRead l d L m
type_each l d K L m f h = record { whole = h.whole; rest = h.rest; reads = h.reads; up = f h.whole h.rest h.up }

over_each : (b : Context) (fs : List Frame) (K L : Ex → List Mark → Type 0) → Each K L → Each (Over b fs K) (Over b fs L)
over_each b fs K L f c m h = grown_each (allows b.literals fs) (level b fs) (open_depth b.depth fs) K L c m f h

close_each : (b : Context) (K L : Ex → List Mark → Type 0) → Each K L → (fs : List Frame) → Each (Close b K fs) (Close b L fs)
close_each b K L f [] e m h = (h.0, f e m h.1)
close_each b K L f (prefixed pos op ∷ fs) e m h = (h.0, over_each b fs (Close b K fs) (Close b L fs) (close_each b K L f fs) _ m h.1)
close_each b K L f (enclosed pos ∷ fs) e m h = behind_each _ _ _ _ _ m (over_each b fs (Close b K fs) (Close b L fs) (close_each b K L f fs)) h
close_each b K L f (awaiting a pos op ∷ fs) e m h = (h.0, over_each b fs (Close b K fs) (Close b L fs) (close_each b K L f fs) _ m h.1)
close_each b K L f (calling g es ∷ fs) e m h = arguments_each _ _ _ _ _ m (over_each b fs (Close b K fs) (Close b L fs) (close_each b K L f fs)) h
close_each b K L f (indexing a pos ∷ fs) e m h = (
  h.0,
  elim h.1 [
    | inl i ↦ inl (behind_each _ _ _ _ _ m (over_each b fs (Close b K fs) (Close b L fs) (close_each b K L f fs)) i)
    | inr i ↦ inr (i.0, i.1, high_each _ _ _ _ _ _ _ i.0 (over_each b fs (Close b K fs) (Close b L fs) (close_each b K L f fs)) i.2)
  ],
)
close_each b K L f (bounding a pos low ∷ fs) e m h = (h.0, behind_each _ _ _ _ _ m (over_each b fs (Close b K fs) (Close b L fs) (close_each b K L f fs)) h.1)
close_each b K L f (measuring pos ∷ fs) e m h = (h.0, h.1, h.2, type_each _ _ _ _ h.1 (λ t k. over_each b fs (Close b K fs) (Close b L fs) (close_each b K L f fs) (array_type pos e t) k) h.3)
close_each b K L f (filling c es key ∷ fs) e m h = elim h [
  | inl i ↦ inl (i.0, elements_each _ _ _ _ _ _ m (over_each b fs (Close b K fs) (Close b L fs) (close_each b K L f fs)) i.1)
  | inr i ↦ inr (i.0, key_each _ _ _ _ _ _ e m (over_each b fs (Close b K fs) (Close b L fs) (close_each b K L f fs)) i.1)
]
close_each b K L f (pointing pos ∷ fs) e m h = over_each b fs (Close b K fs) (Close b L fs) (close_each b K L f fs) _ m h
close_each b K L f (of_array pos len ∷ fs) e m h = over_each b fs (Close b K fs) (Close b L fs) (close_each b K L f fs) _ m h
close_each b K L f (of_slice pos ∷ fs) e m h = over_each b fs (Close b K fs) (Close b L fs) (close_each b K L f fs) _ m h
close_each b K L f (enclosed_type pos ∷ fs) e m h = behind_each _ _ _ _ _ m (over_each b fs (Close b K fs) (Close b L fs) (close_each b K L f fs)) h

have_each : (b : Context) (K L : Ex → List Mark → Type 0) → Each K L → (fs : List Frame) → Each (Have b K fs) (Have b L fs)
have_each b K L f fs = over_each b fs (Close b K fs) (Close b L fs) (close_each b K L f fs)

wants_each : (b : Context) (K L : Ex → List Mark → Type 0) → Each K L → (fs : List Frame) (m : List Mark) → Wants b K fs m → Wants b L fs m
wants_each b K L f fs m h = record { whole = h.whole; rest = h.rest; reads = h.reads; closes = close_each b K L f fs h.whole h.rest h.closes }

pub changed : (b : Context) (K L : Ex → List Mark → Type 0) (s : Open) (w : List Mark) → ((e : Ex) (m : List Mark) → K e m → L e m) → Rest b K s w → Rest b L s w
changed b K L (at_operand fs) w f h = wants_each b K L f fs w h
changed b K L (at_argument fs g es) w f h = elim h [ inl i ↦ inl (behind_each _ _ _ _ _ w (have_each b K L f fs) i) | inr v ↦ inr (wants_each b K L f (calling g es ∷ fs) w v) ]
changed b K L (at_spread fs g es) w f h = record { rest = h.rest; closes = h.closes; up = have_each b K L f fs _ h.rest h.up }
changed b K L (at_call_end fs g es) w f h = behind_each _ _ _ _ _ w (have_each b K L f fs) h
changed b K L (at_bracket fs pos) w f h = elim h [ inl i ↦ inl (i.0, i.1, type_each _ _ _ _ i.0 (close_each b K L f (of_slice pos ∷ fs)) i.2) | inr v ↦ inr (wants_each b K L f (measuring pos ∷ fs) w v) ]
changed b K L (at_type_operand fs) w f h = type_each _ _ _ _ w (close_each b K L f fs) h
changed b K L (at_type_end fs pos e) w f h = behind_each _ _ _ _ _ w (have_each b K L f fs) h
changed b K L (at_type fs e) w f h = have_each b K L f fs e w h
changed b K L (at_operator fs e) w f h = have_each b K L f fs e w h
changed b K L (at_selector fs e pos) w f h = (h.0, h.1, h.2, have_each b K L f fs _ h.1 h.3)
changed b K L (at_index fs e pos) w f h = elim h [ inl i ↦ inl (i.0, i.1, high_each _ _ _ _ _ _ _ i.0 (have_each b K L f fs) i.2) | inr v ↦ inr (wants_each b K L f (indexing e pos ∷ fs) w v) ]
changed b K L (at_high fs e pos low) w f h = high_each _ _ _ _ _ _ _ w (have_each b K L f fs) h
changed b K L (at_element fs c es) w f h = elim h [ inl i ↦ inl (i.0, i.1, i.2, have_each b K L f fs _ i.1 i.3) | inr v ↦ inr (wants_each b K L f (filling c es None ∷ fs) w v) ]
changed b K L (at_value fs c es x) w f h = wants_each b K L f (filling c es (Some x) ∷ fs) w h
changed b K L (at_element_end fs c es) w f h = elements_each _ _ _ _ _ _ w (have_each b K L f fs) h
