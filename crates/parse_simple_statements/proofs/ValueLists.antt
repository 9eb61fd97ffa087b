-- Lists of values from left to right: what may follow values that were read.
use Rattle.std.proofs.Common.{◌≡◌, ℕ, Bool, false, List, [], ◌∷◌, refl, sym, ap, subst}
use Rattle.syntax.specs.Expressions.{Ex, Exs, none, some}
use Rattle.syntax.specs.Lists.{appended, with_ex}
use Rattle.parse_expressions.specs.declared.terminal.Terminal.{Terminal}
use Rattle.parse_expressions.specs.declared.terminal.Terminal.TheVariants.{Comma}
use Rattle.parse_expressions.specs.Grammar.{Mark, inside, AreValues, ReadsValue, ReadsEx, ReadsExs, ReadsMore}
use Rattle.parse_expressions.specs.Machine.{Context, at_operand}
use Rattle.parse_expressions.proofs.Following.{Iff, Apart, GoesOn, ValidOpen}
use Rattle.parse_expressions.proofs.Following as expression
use Rattle.parse_expressions.proofs.Starts.{begins, begins_valid}

-- where a value stands
abbrev pub value_at : Bool → ℕ → Context
value_at l d = record { depth = d; literals = l; types = false }

-- one value, and then what Then says
pub record OneValue (l : Bool) (d : ℕ) (Then : Ex → List Mark → Type 0) (w : List Mark) : Type 0 where
  pub whole : Ex
  pub rest : List Mark
  pub reads : ReadsValue l d whole w rest
  pub follows : Then whole rest

-- one value or more
pub record Values (l : Bool) (d : ℕ) (Then : Exs → List Mark → Type 0) (w : List Mark) : Type 0 where
  pub whole : Exs
  pub rest : List Mark
  pub reads : ReadsExs l d whole w rest
  pub follows : Then whole rest

-- other values after es and e
pub record MoreValues (l : Bool) (d : ℕ) (Then : Exs → List Mark → Type 0) (es : Exs) (e : Ex) (m : List Mark) : Type 0 where
  pub others : Exs
  pub rest : List Mark
  pub values : AreValues others
  pub reads : ReadsMore l d others m rest
  pub follows : Then (appended es (some e others)) rest

appended_assoc : (a b c : Exs) → appended (appended a b) c ≡ appended a (appended b c)
appended_assoc none b c = refl
appended_assoc (some e a) b c = ap (some e) (appended_assoc a b c)

-- the value begins
pub value_begins : (l : Bool) (d : ℕ) (Then : Ex → List Mark → Type 0) (w : List Mark) → Iff (OneValue l d Then w) (expression.Rest (value_at l d) Then (at_operand []) w)
value_begins l d Then w = (
  λ h. (begins (value_at l d) Then w refl).0 (h.whole, h.rest, h.reads, h.follows),
  λ h. let v = (begins (value_at l d) Then w refl).1 h in record { whole = v.0; rest = v.1; reads = v.2; follows = v.3 },
)

module _ (l : Bool) (d : ℕ) (Then : Exs → List Mark → Type 0) where
  -- the first value begins
  pub values_begin : (w : List Mark) → Iff (Values l d Then w) (expression.Rest (value_at l d) (MoreValues l d Then none) (at_operand []) w)
  values_begin w = (
    λ h. to h.whole h.rest h.reads h.follows,
    λ h.
        let v = (value_begins l d (MoreValues l d Then none) w).1 h in
        let f = v.follows in
        record { whole = some v.whole f.others; rest = f.rest; reads = ((v.reads.0, f.values), v.rest, v.reads.1, f.reads); follows = f.follows },
  )
    where
      to : (es : Exs) (m : List Mark) → ReadsExs l d es w m → Then es m → expression.Rest (value_at l d) (MoreValues l d Then none) (at_operand []) w
      to none m r f = absurd r
      to (some e es) m r f = (value_begins l d (MoreValues l d Then none) w).0 (record { whole = e; rest = r.1; reads = (r.0.0, r.2); follows = record { others = es; rest = m; values = r.0.1; reads = r.3; follows = f } })

  -- a comma, and another value
  pub values_comma : (es : Exs) (e : Ex) (j : ℕ) (w : List Mark) → (Then (with_ex es e) (inside Comma j ∷ w) → ⊥) → Iff (MoreValues l d Then es e (inside Comma j ∷ w)) ((j ≡ d) × expression.Rest (value_at l d) (MoreValues l d Then (with_ex es e)) (at_operand []) w)
  values_comma es e j w never = (
    λ h. to h.others h.rest h.values h.reads h.follows,
    λ h.
        let v = (value_begins l d (MoreValues l d Then (with_ex es e)) w).1 h.1 in
        let f = v.follows in
        let grouped : appended (with_ex es e) (some v.whole f.others) ≡ appended es (some e (some v.whole f.others)) = appended_assoc es (some e none) (some v.whole f.others) in
        record { others = some v.whole f.others; rest = f.rest; values = (v.reads.0, f.values); reads = (w, v.rest, ap (λ (i : ℕ). inside Comma i ∷ w) h.0, v.reads.1, f.reads); follows = subst (λ (xs : Exs). Then xs f.rest) grouped f.follows },
  )
    where
      to : (others : Exs) (n : List Mark) → AreValues others → ReadsMore l d others (inside Comma j ∷ w) n → Then (appended es (some e others)) n → (j ≡ d) × expression.Rest (value_at l d) (MoreValues l d Then (with_ex es e)) (at_operand []) w
      to none n values r f = absurd (never (subst (λ (ts : List Mark). Then (with_ex es e) ts) (sym r) f))
      to (some g gs) n values r f =
          let same_w : r.0 ≡ w = cc (r.2) in
          let grouped : appended es (some e (some g gs)) ≡ appended (with_ex es e) (some g gs) = sym (appended_assoc es (some e none) (some g gs)) in
          (cc (r.2), (value_begins l d (MoreValues l d Then (with_ex es e)) w).0 (record { whole = g; rest = r.1; reads = (values.0, subst (λ (ts : List Mark). ReadsEx l 1 d g ts r.1) same_w r.3); follows = record { others = gs; rest = n; values = values.1; reads = r.4; follows = subst (λ (xs : Exs). Then xs n) grouped f } }))

  -- no other value
  pub values_other : (es : Exs) (e : Ex) (t : Terminal) (j : ℕ) (w : List Mark) → (t ≡ Comma → ⊥) → Iff (MoreValues l d Then es e (inside t j ∷ w)) (Then (with_ex es e) (inside t j ∷ w))
  values_other es e t j w other = (λ h. to h.others h.rest h.reads h.follows, λ f. record { others = none; rest = inside t j ∷ w; values = tt; reads = refl; follows = f })
    where
      to : (others : Exs) (n : List Mark) → ReadsMore l d others (inside t j ∷ w) n → Then (appended es (some e others)) n → Then (with_ex es e) (inside t j ∷ w)
      to none n r f = subst (λ (ts : List Mark). Then (with_ex es e) ts) (sym r) f
      to (some g gs) n r f = absurd (other (cc (r.2)))

  pub values_apart : (es : Exs) → ((xs : Exs) (t : Terminal) (j : ℕ) (w : List Mark) → GoesOn (value_at l d) t → Then xs (inside t j ∷ w) → ⊥) → Apart (value_at l d) (MoreValues l d Then es)
  values_apart es never = record { never = λ is e t j w on h. apart e t j w on h.others h.rest h.reads h.follows }
    where
      apart : (e : Ex) (t : Terminal) (j : ℕ) (w : List Mark) → GoesOn (value_at l d) t → (others : Exs) (n : List Mark) → ReadsMore l d others (inside t j ∷ w) n → Then (appended es (some e others)) n → ⊥
      apart e t j w on none n r f = never (with_ex es e) t j w on (subst (λ (ts : List Mark). Then (with_ex es e) ts) (sym r) f)
      apart e t j w on (some g gs) n r f = let is : t ≡ Comma = cc (r.2) in subst (GoesOn (value_at l d)) is on

  -- the text ends after a value
  pub values_end : (es : Exs) (e : Ex) → MoreValues l d Then es e [] → Then (with_ex es e) []
  values_end es e h = to h.others h.rest h.reads h.follows
    where
      to : (others : Exs) (n : List Mark) → ReadsMore l d others [] n → Then (appended es (some e others)) n → Then (with_ex es e) []
      to none n r f = subst (λ (ts : List Mark). Then (with_ex es e) ts) (sym r) f
      to (some g gs) n r f = absurd (cc (r.2))

pub value_valid : (l : Bool) (d : ℕ) → ValidOpen (value_at l d) (at_operand [])
value_valid l d = begins_valid (value_at l d) refl
