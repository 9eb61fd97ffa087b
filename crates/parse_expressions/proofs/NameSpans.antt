-- The names and strings of an expression stand where tokens of the text stand.
use Rattle.std.proofs.Common.{ℕ, suc, Bool, true, List, [], ◌∷◌, Option, Some, None, subst}
use Rattle.syntax.specs.declared.operator.UnOp.TheVariants.{Star}
use Rattle.syntax.specs.declared.expression.Name.{Name}
use Rattle.syntax.specs.Expressions.{Ex, number, string, name, unary, binary, paren, call, selector, index, slice, array_type, slice_type, literal, elements, Exs, none, some, Bound, no_bound, bound_at, Elements, no_elements, element}
use Rattle.syntax.specs.Heights.{precedence}
use Rattle.syntax.specs.Spans.{IsSpan, IsNameSpan, KeySpan, ExSpans, ExsSpans, BoundSpans, ElementsSpans}
use Rattle.parse_expressions.specs.declared.terminal.Terminal.{Terminal}
use Rattle.parse_expressions.specs.declared.terminal.Terminal.TheVariants.{Identifier, String, Operator, Colon, Period, LeftParen, RightParen, LeftBracket, RightBracket, LeftBrace}
use Rattle.parse_expressions.specs.Grammar.{Mark, inside, behind, ReadsEx, ReadsType, ReadsLiteralType, ReadsBound, ReadsArguments, ReadsMore, ReadsElements, ReadsMoreElements, ReadsKey, ReadsExs, ClosesArguments, closing, comma_closing, spread_closing, spread_comma_closing, ClosesElements, elements_closing, elements_comma_closing}

-- a name or string stands in a text of n bytes
abbrev pub HasSpan : ℕ → Terminal → Type 0
HasSpan n (Identifier x) = IsNameSpan n x
HasSpan n (String pos end) = IsSpan n pos end
HasSpan n _ = Unit {0}

abbrev pub HaveSpans : ℕ → List Mark → Type 0
HaveSpans n [] = Unit {0}
HaveSpans n (inside t d ∷ ms) = HasSpan n t × HaveSpans n ms

module _ (n : ℕ) where
  arguments_end_spans : {d : ℕ} {spread : Bool} {ts rest : List Mark} → ClosesArguments d spread ts rest → HaveSpans n ts → HaveSpans n rest
  arguments_end_spans closing a = a.1
  arguments_end_spans comma_closing a = a.1.1
  arguments_end_spans spread_closing a = a.1.1
  arguments_end_spans spread_comma_closing a = a.1.1.1

  elements_end_spans : {d : ℕ} {ts rest : List Mark} → ClosesElements d ts rest → HaveSpans n ts → HaveSpans n rest
  elements_end_spans elements_closing a = a.1
  elements_end_spans elements_comma_closing a = a.1.1

  key_spans : (d : ℕ) (key : Option Name) (ts rest : List Mark) → ReadsKey d key ts rest → HaveSpans n ts → KeySpan n key × HaveSpans n rest
  key_spans d None ts rest r a = (tt, subst (HaveSpans n) r a)
  key_spans d (Some x) ts rest r a = let b = subst (HaveSpans n) r a in (b.0, b.1.1)

  mutual
    pub ex_spans : (l : Bool) (p d : ℕ) (e : Ex) (ts rest : List Mark) → ReadsEx l p d e ts rest → HaveSpans n ts → ExSpans n e × HaveSpans n rest
    ex_spans l p d (number pos k) ts rest r a = (tt, (subst (HaveSpans n) r a).1)
    ex_spans l p d (string pos end) ts rest r a = subst (HaveSpans n) r a
    ex_spans l p d (name x) ts rest r a = subst (HaveSpans n) r a
    ex_spans l p d (unary pos op e) ts rest r a = ex_spans l 6 (suc d) e r.2 rest r.6 (subst (HaveSpans n) r.4 a).1
    ex_spans l p d (binary pos op b c) ts rest r a =
        let i = ex_spans l (precedence op) d b ts (behind d b (Operator pos op) ∷ r.1) r.2.1 a in
        let k = ex_spans l (suc (precedence op)) d c r.1 rest r.3.1 i.1.1 in
        ((i.0, k.0), k.1)
    ex_spans l p d (paren pos e) ts rest r a =
        let i = ex_spans true 1 (suc d) e r.0 (inside RightParen d ∷ rest) r.2 (subst (HaveSpans n) r.1 a).1 in
        (i.0, i.1.1)
    ex_spans l p d (call f es spread) ts rest r a =
        let i = ex_spans l 7 d f ts (behind d f (LeftParen r.0) ∷ r.1) r.2.1 a in
        let k = arguments_spans d es spread r.1 rest r.3 i.1.1 in
        ((i.0, k.0), k.1)
    ex_spans l p d (selector e pos x) ts rest r a =
        let i = ex_spans l 7 d e ts (behind d e (Period pos) ∷ inside (Identifier x) d ∷ rest) r.1 a in
        ((i.0, i.1.1.0), i.1.1.1)
    ex_spans l p d (index e pos c) ts rest r a =
        let i = ex_spans l 7 d e ts (behind d e (LeftBracket pos) ∷ r.0) r.1.1 a in
        let k = ex_spans l 1 (suc d) c r.0 (inside RightBracket d ∷ rest) r.2.1 i.1.1 in
        ((i.0, k.0), k.1.1)
    ex_spans l p d (slice e pos low high) ts rest r a =
        let i = ex_spans l 7 d e ts (behind d e (LeftBracket pos) ∷ r.0) r.2.1 a in
        let k = bound_spans l (suc d) low r.0 (inside Colon (suc d) ∷ r.1) r.3 i.1.1 in
        let m = bound_spans l (suc d) high r.1 (inside RightBracket d ∷ rest) r.4 k.1.1 in
        ((i.0, k.0, m.0), m.1.1)
    ex_spans l p d (array_type pos len e) ts rest r a =
        let i = ex_spans l 1 (suc d) len r.0 (inside RightBracket d ∷ r.1) r.3.1 (subst (HaveSpans n) r.2 a).1 in
        let k = type_spans l (suc d) e r.1 rest r.4 i.1.1 in
        ((i.0, k.0), k.1)
    ex_spans l p d (slice_type pos e) ts rest r a = type_spans l (suc d) e r.0 rest r.2 (subst (HaveSpans n) r.1 a).1.1
    ex_spans l p d (literal t es) ts rest r a =
        let i = literal_type_spans l d t ts (inside (LeftBrace r.0) d ∷ r.1) r.2 a in
        let k = elements_spans l d es r.1 rest r.3 i.1.1 in
        ((i.0, k.0), k.1)
    ex_spans l p d (elements pos es) ts rest r a = elements_spans l d es r.1 rest r.3 (subst (HaveSpans n) r.2 a).1

    pub type_spans : (l : Bool) (d : ℕ) (e : Ex) (ts rest : List Mark) → ReadsType l d e ts rest → HaveSpans n ts → ExSpans n e × HaveSpans n rest
    type_spans l d (name x) ts rest r a = subst (HaveSpans n) r a
    type_spans l d (unary pos Star e) ts rest r a = type_spans l (suc d) e r.1 rest r.4 (subst (HaveSpans n) r.3 a).1
    type_spans l d (paren pos e) ts rest r a =
        let i = type_spans true (suc d) e r.0 (inside RightParen d ∷ rest) r.2 (subst (HaveSpans n) r.1 a).1 in
        (i.0, i.1.1)
    type_spans l d (array_type pos len e) ts rest r a =
        let i = ex_spans l 1 (suc d) len r.0 (inside RightBracket d ∷ r.1) r.3.1 (subst (HaveSpans n) r.2 a).1 in
        let k = type_spans l (suc d) e r.1 rest r.4 i.1.1 in
        ((i.0, k.0), k.1)
    type_spans l d (slice_type pos e) ts rest r a = type_spans l (suc d) e r.0 rest r.2 (subst (HaveSpans n) r.1 a).1.1
    type_spans l d e ts rest r a = absurd r

    literal_type_spans : (l : Bool) (d : ℕ) (e : Ex) (ts rest : List Mark) → ReadsLiteralType l d e ts rest → HaveSpans n ts → ExSpans n e × HaveSpans n rest
    literal_type_spans l d (name x) ts rest r a = subst (HaveSpans n) r.1 a
    literal_type_spans l d (array_type pos len e) ts rest r a =
        let i = ex_spans l 1 (suc d) len r.0 (inside RightBracket d ∷ r.1) r.3.1 (subst (HaveSpans n) r.2 a).1 in
        let k = type_spans l (suc d) e r.1 rest r.4 i.1.1 in
        ((i.0, k.0), k.1)
    literal_type_spans l d (slice_type pos e) ts rest r a = type_spans l (suc d) e r.0 rest r.2 (subst (HaveSpans n) r.1 a).1.1
    literal_type_spans l d e ts rest r a = absurd r

    bound_spans : (l : Bool) (d : ℕ) (e : Bound) (ts rest : List Mark) → ReadsBound l d e ts rest → HaveSpans n ts → BoundSpans n e × HaveSpans n rest
    bound_spans l d no_bound ts rest r a = (tt, subst (HaveSpans n) r a)
    bound_spans l d (bound_at e) ts rest r a = ex_spans l 1 d e ts rest r.1 a

    arguments_spans : (d : ℕ) (es : Exs) (spread : Bool) (ts rest : List Mark) → ReadsArguments d es spread ts rest → HaveSpans n ts → ExsSpans n es × HaveSpans n rest
    arguments_spans d none spread ts rest r a = (tt, (subst (HaveSpans n) r.1 a).1)
    arguments_spans d (some e es) spread ts rest r a =
        let i = ex_spans true 1 (suc d) e ts r.0 r.2 a in
        let k = more_spans true (suc d) es r.0 r.1 r.3 i.1 in
        ((i.0, k.0), arguments_end_spans r.4 k.1)

    pub more_spans : (l : Bool) (d : ℕ) (es : Exs) (ts rest : List Mark) → ReadsMore l d es ts rest → HaveSpans n ts → ExsSpans n es × HaveSpans n rest
    more_spans l d none ts rest r a = (tt, subst (HaveSpans n) r a)
    more_spans l d (some e es) ts rest r a =
        let i = ex_spans l 1 d e r.0 r.1 r.3 (subst (HaveSpans n) r.2 a).1 in
        let k = more_spans l d es r.1 rest r.4 i.1 in
        ((i.0, k.0), k.1)

    elements_spans : (l : Bool) (d : ℕ) (es : Elements) (ts rest : List Mark) → ReadsElements l d es ts rest → HaveSpans n ts → ElementsSpans n es × HaveSpans n rest
    elements_spans l d no_elements ts rest r a = (tt, (subst (HaveSpans n) r.1 a).1)
    elements_spans l d (element key e es) ts rest r a =
        let h = key_spans (suc d) key ts r.0 r.3 a in
        let i = ex_spans l 0 (suc d) e r.0 r.1 r.4.1 h.1 in
        let k = more_elements_spans l (suc d) es r.1 r.2 r.5 i.1 in
        ((h.0, i.0, k.0), elements_end_spans r.6 k.1)

    more_elements_spans : (l : Bool) (d : ℕ) (es : Elements) (ts rest : List Mark) → ReadsMoreElements l d es ts rest → HaveSpans n ts → ElementsSpans n es × HaveSpans n rest
    more_elements_spans l d no_elements ts rest r a = (tt, subst (HaveSpans n) r a)
    more_elements_spans l d (element key e es) ts rest r a =
        let h = key_spans d key r.0 r.1 r.4 (subst (HaveSpans n) r.3 a).1 in
        let i = ex_spans l 0 d e r.1 r.2 r.5.1 h.1 in
        let k = more_elements_spans l d es r.2 rest r.6 i.1 in
        ((h.0, i.0, k.0), k.1)

  -- of one value or more
  pub values_spans : (l : Bool) (d : ℕ) (es : Exs) (ts rest : List Mark) → ReadsExs l d es ts rest → HaveSpans n ts → ExsSpans n es × HaveSpans n rest
  values_spans l d none ts rest r a = absurd r
  values_spans l d (some e es) ts rest r a =
      let i = ex_spans l 1 d e ts r.1 r.2 a in
      let k = more_spans l d es r.1 rest r.3 i.1 in
      ((i.0, k.0), k.1)
