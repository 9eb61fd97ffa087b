-- An expression is a head that grows.
use Rattle.std.proofs.Common.{◌≡◌, ℕ, suc, max, ◌≤◌, Bool, List, ◌∷◌, ◌⊎◌, inl, inr, refl, sym, subst, ◌∙◌, arith}
use Rattle.base.specs.declared.pos.Pos.{Pos}
use Rattle.syntax.specs.declared.operator.ArithmeticOp.{ArithmeticOp}
use Rattle.syntax.specs.declared.operator.ArithmeticOp.TheVariants as arithmetic
use Rattle.syntax.specs.declared.operator.BinOp.{BinOp}
use Rattle.syntax.specs.declared.operator.BinOp.TheVariants.{Arithmetic, Compare, LogicalAnd, LogicalOr}
use Rattle.syntax.specs.Expressions.{Ex, number, string, name, unary, binary, paren, call, selector, index, slice, array_type, slice_type, literal, elements, Elements}
use Rattle.syntax.specs.Heights.{arithmetic_precedence, precedence, height}
use Rattle.parse_expressions.specs.declared.terminal.Terminal.{Terminal}
use Rattle.parse_expressions.specs.declared.terminal.Terminal.TheVariants.{Identifier, Operator, Period, LeftParen, LeftBracket, LeftBrace}
use Rattle.parse_expressions.specs.Grammar.{Mark, inside, behind, ReadsEx, ReadsLiteralType, ReadsElements}
use Rattle.parse_expressions.proofs.Growth.{tightness, IsLiteralType, MakesOf, Grows, whole, more}

arithmetic_small : (op : ArithmeticOp) → (1 ≤ arithmetic_precedence op) × (arithmetic_precedence op ≤ 5)
arithmetic_small arithmetic.Add = (omega arith, omega arith)
arithmetic_small arithmetic.Sub = (omega arith, omega arith)
arithmetic_small arithmetic.Or = (omega arith, omega arith)
arithmetic_small arithmetic.Xor = (omega arith, omega arith)
arithmetic_small op = (omega arith, omega arith)

pub precedence_small : (op : BinOp) → (1 ≤ precedence op) × (precedence op ≤ 5)
precedence_small (Arithmetic op) = arithmetic_small op
precedence_small (Compare op) = (omega arith, omega arith)
precedence_small LogicalAnd = (omega arith, omega arith)
precedence_small LogicalOr = (omega arith, omega arith)

-- what a terminal makes of an expression is not the elements of a literal
pub made_tight : (l : Bool) (d : ℕ) (c : Ex) (t : Terminal) (j : ℕ) (w : List Mark) (g : Ex) (rest : List Mark) → MakesOf l d c t j w g rest → 1 ≤ tightness g
made_tight l d c (Operator pos op) j w g rest m = subst (λ (x : Ex). 1 ≤ tightness x) (sym m.3) (precedence_small op).0
made_tight l d c (LeftParen pos) j w g rest m = subst (λ (x : Ex). 1 ≤ tightness x) (sym m.4) (omega arith)
made_tight l d c (Period pos) j w g rest m = subst (λ (x : Ex). 1 ≤ tightness x) (sym m.3) (omega arith)
made_tight l d c (LeftBracket pos) j w g rest m = elim m.2 [ inl i ↦ subst (λ (x : Ex). 1 ≤ tightness x) (sym i.1) (omega arith) | inr i ↦ subst (λ (x : Ex). 1 ≤ tightness x) (sym i.3) (omega arith) ]
made_tight l d c (LeftBrace pos) j w g rest m = subst (λ (x : Ex). 1 ≤ tightness x) (sym m.3) (omega arith)
made_tight l d c t j w g rest m = absurd m

pub grown_from : {l : Bool} {p d : ℕ} {c g : Ex} {ts rest : List Mark} → Grows l p d c ts g rest → p ≤ 7 → p ≤ tightness c
grown_from (whole fits) small = elim fits [ inl le ↦ le | inr is ↦ omega (arith, is, small) ]
grown_from (more t j w le is made tight grows) small = omega (arith, tight, grown_from grows small)

-- where a type is wanted nothing grows
pub type_same : {l : Bool} {p d : ℕ} {c g : Ex} {ts rest : List Mark} → Grows l p d c ts g rest → p ≡ 8 → (g ≡ c) × (rest ≡ ts)
type_same (whole fits) is = (refl, refl)
type_same (more t j w le is made tight grows) is_type = absurd (omega (arith, le, is_type))

-- the terminal t comes next and makes f of c
pub record Next (l : Bool) (p d : ℕ) (c : Ex) (t : Terminal) (j : ℕ) (w : List Mark) (g : Ex) (rest : List Mark) : Type 0 where
  pub made : Ex
  pub between : List Mark
  pub small : p ≤ 7
  pub makes : MakesOf l d c t j w made between
  pub tight : tightness made ≤ tightness c
  pub grows : Grows l p d made between g rest

pub next : {l : Bool} {p d : ℕ} {c g : Ex} {ts rest : List Mark} (t : Terminal) (j : ℕ) (w : List Mark) → Grows l p d c ts g rest → ts ≡ inside t j ∷ w → ((g ≡ c) × (rest ≡ inside t j ∷ w)) ⊎ Next l p d c t j w g rest
next t j w (whole fits) is = inl (refl, is)
next {l = l} {d = d} {c = c} t j w (more {f = f} {k = k} u i v small eq made tight grows) is =
    let both : inside u i ∷ v ≡ inside t j ∷ w = sym eq ∙ is in
    let same_t : u ≡ t = cc in
    let same_j : i ≡ j = cc in
    let same_w : v ≡ w = cc in
    inr (record { made = f; between = k; small = small; makes = subst (λ (x : Terminal). MakesOf l d c x j w f k) same_t (subst (λ (x : ℕ). MakesOf l d c u x w f k) same_j (subst (λ (x : List Mark). MakesOf l d c u i x f k) same_w made)); tight = tight; grows = grows })

-- and one more at the end
pub one_more : {l : Bool} {q d : ℕ} {h a : Ex} {ts k : List Mark} (p : ℕ) (t : Terminal) (j : ℕ) (w : List Mark) (f : Ex) (rest : List Mark) → Grows l q d h ts a k → q ≤ 7 → k ≡ inside t j ∷ w → MakesOf l d a t j w f rest → tightness f ≤ q → p ≤ tightness f → p ≤ 7 → Grows l p d h ts f rest
one_more p t j w f rest (whole fits) is_small is makes tight le small = elim fits [ inl holds ↦ more t j w small is makes (omega (arith, tight, holds)) (whole (inl le)) | inr is_type ↦ absurd (omega (arith, is_type, is_small)) ]
one_more p t j w f rest (more u i v q_small eq made q_tight grows) is_small is makes tight le small = more u i v small eq made q_tight (one_more p t j w f rest grows is_small is makes tight le small)

-- ---- heads

abbrev pub IsHead : Ex → Type 0
IsHead (number pos n) = Unit {0}
IsHead (string pos end) = Unit {0}
IsHead (name x) = Unit {0}
IsHead (unary pos op e) = Unit {0}
IsHead (paren pos e) = Unit {0}
IsHead (array_type pos len e) = Unit {0}
IsHead (slice_type pos e) = Unit {0}
IsHead (elements pos es) = Unit {0}
IsHead _ = ⊥

pub record Split (l : Bool) (p d : ℕ) (e : Ex) (ts rest : List Mark) : Type 0 where
  pub head : Ex
  pub middle : List Mark
  pub is_head : IsHead head
  pub reads : ReadsEx l 0 d head ts middle
  pub grows : Grows l p d head middle e rest

is_itself : (l : Bool) (p d : ℕ) (e : Ex) (ts rest : List Mark) → p ≤ tightness e → IsHead e → ReadsEx l 0 d e ts rest → Split l p d e ts rest
is_itself l p d e ts rest le is_head reads = record { head = e; middle = rest; is_head = is_head; reads = reads; grows = whole (inl le) }

longer : (l : Bool) (q p d : ℕ) (a : Ex) (ts : List Mark) (t : Terminal) (j : ℕ) (w : List Mark) (f : Ex) (rest : List Mark) → Split l q d a ts (inside t j ∷ w) → q ≤ 7 → MakesOf l d a t j w f rest → tightness f ≤ q → p ≤ tightness f → p ≤ 7 → Split l p d f ts rest
longer l q p d a ts t j w f rest s is_small makes tight le small = record { head = s.head; middle = s.middle; is_head = s.is_head; reads = s.reads; grows = one_more p t j w f rest s.grows is_small refl makes tight le small }

literal_split : (l : Bool) (p d : ℕ) (t : Ex) (es : Elements) (ts : List Mark) (pos : Pos) (m rest : List Mark) → p ≤ 7 → ReadsLiteralType l d t ts (inside (LeftBrace pos) d ∷ m) → ReadsElements l d es m rest → Split l p d (literal t es) ts rest
literal_split l p d (name x) es ts pos m rest le r s = record { head = name x; middle = inside (LeftBrace pos) d ∷ m; is_head = tt; reads = r.1; grows = more (LeftBrace pos) d m le refl (refl, r.0, es, refl, s) (omega arith) (whole (inl le)) }
literal_split l p d (array_type q len e) es ts pos m rest le r s = record { head = array_type q len e; middle = inside (LeftBrace pos) d ∷ m; is_head = tt; reads = r; grows = more (LeftBrace pos) d m le refl (refl, tt, es, refl, s) (omega arith) (whole (inl le)) }
literal_split l p d (slice_type q e) es ts pos m rest le r s = record { head = slice_type q e; middle = inside (LeftBrace pos) d ∷ m; is_head = tt; reads = r; grows = more (LeftBrace pos) d m le refl (refl, tt, es, refl, s) (omega arith) (whole (inl le)) }
literal_split l p d t es ts pos m rest le r s = absurd r

pub split : (l : Bool) (p d : ℕ) (e : Ex) (ts rest : List Mark) → p ≤ 7 → ReadsEx l p d e ts rest → Split l p d e ts rest
split l p d (number pos n) ts rest le r = is_itself l p d (number pos n) ts rest le tt r
split l p d (string pos end) ts rest le r = is_itself l p d (string pos end) ts rest le tt r
split l p d (name x) ts rest le r = is_itself l p d (name x) ts rest le tt r
split l p d (unary pos op e) ts rest le r = is_itself l p d (unary pos op e) ts rest r.0 tt (omega arith, r.1, r.2, r.3, r.4, r.5, r.6)
split l p d (binary pos op a b) ts rest le r = longer l (precedence op) p d a ts (Operator pos op) (max d (suc (height a))) r.1 (binary pos op a b) rest (split l (precedence op) d a ts (behind d a (Operator pos op) ∷ r.1) (omega (arith, precedence_small op)) r.2.1) (omega (arith, precedence_small op)) (refl, r.2.0, b, refl, r.3.0, r.3.1) (omega arith) r.0 le
split l p d (paren pos e) ts rest le r = is_itself l p d (paren pos e) ts rest le tt r
split l p d (call f es spread) ts rest le r = longer l 7 p d f ts (LeftParen r.0) (max d (suc (height f))) r.1 (call f es spread) rest (split l 7 d f ts (behind d f (LeftParen r.0) ∷ r.1) (omega arith) r.2.1) (omega arith) (refl, r.2.0, es, spread, refl, r.3) (omega arith) le le
split l p d (selector e pos x) ts rest le r = longer l 7 p d e ts (Period pos) (max d (suc (height e))) (inside (Identifier x) d ∷ rest) (selector e pos x) rest (split l 7 d e ts (behind d e (Period pos) ∷ inside (Identifier x) d ∷ rest) (omega arith) r.1) (omega arith) (refl, r.0, x, refl, refl) (omega arith) le le
split l p d (index e pos i) ts rest le r = longer l 7 p d e ts (LeftBracket pos) (max d (suc (height e))) r.0 (index e pos i) rest (split l 7 d e ts (behind d e (LeftBracket pos) ∷ r.0) (omega arith) r.1.1) (omega arith) (refl, r.1.0, inl (i, refl, r.2.0, r.2.1)) (omega arith) le le
split l p d (slice e pos low high) ts rest le r = longer l 7 p d e ts (LeftBracket pos) (max d (suc (height e))) r.0 (slice e pos low high) rest (split l 7 d e ts (behind d e (LeftBracket pos) ∷ r.0) (omega arith) r.2.1) (omega arith) (refl, r.2.0, inr (low, high, r.1, refl, r.3, r.4)) (omega arith) le le
split l p d (array_type pos len e) ts rest le r = is_itself l p d (array_type pos len e) ts rest le tt r
split l p d (slice_type pos e) ts rest le r = is_itself l p d (slice_type pos e) ts rest le tt r
split l p d (literal t es) ts rest le r = literal_split l p d t es ts r.0 r.1 rest le r.2 r.3
split l p d (elements pos es) ts rest le r = is_itself l p d (elements pos es) ts rest (omega (arith, r.0)) tt (refl, r.1, r.2, r.3)

-- ---- and back

-- c may be read in each place that it fits
abbrev pub Readable : Bool → ℕ → Ex → List Mark → List Mark → Type 0
Readable l d c ts m = (q : ℕ) → q ≤ tightness c → ReadsEx l q d c ts m

literal_back : (l : Bool) (q d : ℕ) (c : Ex) (es : Elements) (pos : Pos) (w ts rest : List Mark) → IsLiteralType l c → Readable l d c ts (inside (LeftBrace pos) d ∷ w) → ReadsElements l d es w rest → ReadsEx l q d (literal c es) ts rest
literal_back l q d (name x) es pos w ts rest is reads r = (pos, w, (is, reads 0 (omega arith)), r)
literal_back l q d (array_type at len e) es pos w ts rest is reads r = (pos, w, reads 0 (omega arith), r)
literal_back l q d (slice_type at e) es pos w ts rest is reads r = (pos, w, reads 0 (omega arith), r)
literal_back l q d t es pos w ts rest is reads r = absurd is

made_reads : (l : Bool) (d : ℕ) (c : Ex) (t : Terminal) (j : ℕ) (w : List Mark) (f : Ex) (ts rest : List Mark) → MakesOf l d c t j w f rest → tightness f ≤ tightness c → Readable l d c ts (inside t j ∷ w) → Readable l d f ts rest
made_reads l d c (Operator pos op) j w f ts rest made tight reads q le =
    subst (λ (x : Ex). ReadsEx l q d x ts rest) (sym made.3) (
      subst (λ (x : Ex). q ≤ tightness x) made.3 le,
      w,
      (made.1, subst (λ (i : ℕ). ReadsEx l (precedence op) d c ts (inside (Operator pos op) i ∷ w)) made.0 (reads (precedence op) (subst (λ (x : Ex). tightness x ≤ tightness c) made.3 tight))),
      (made.4, made.5),
    )
made_reads l d c (LeftParen pos) j w f ts rest made tight reads q le =
    subst (λ (x : Ex). ReadsEx l q d x ts rest) (sym made.4) (
      pos,
      w,
      (made.1, subst (λ (i : ℕ). ReadsEx l 7 d c ts (inside (LeftParen pos) i ∷ w)) made.0 (reads 7 (subst (λ (x : Ex). tightness x ≤ tightness c) made.4 tight))),
      made.5,
    )
made_reads l d c (Period pos) j w f ts rest made tight reads q le =
    let r : ReadsEx l 7 d c ts (inside (Period pos) j ∷ w) = reads 7 (subst (λ (x : Ex). tightness x ≤ tightness c) made.3 tight) in
    subst (λ (x : Ex). ReadsEx l q d x ts rest) (sym made.3) (
      made.1,
      subst (λ (v : List Mark). ReadsEx l 7 d c ts (behind d c (Period pos) ∷ v)) made.4 (subst (λ (i : ℕ). ReadsEx l 7 d c ts (inside (Period pos) i ∷ w)) made.0 r),
    )
made_reads l d c (LeftBracket pos) j w f ts rest made tight reads q le = elim made.2 [
  | inl i ↦
      subst (λ (x : Ex). ReadsEx l q d x ts rest) (sym i.1) (
        w,
        (made.1, subst (λ (n : ℕ). ReadsEx l 7 d c ts (inside (LeftBracket pos) n ∷ w)) made.0 (reads 7 (subst (λ (x : Ex). tightness x ≤ tightness c) i.1 tight))),
        (i.2, i.3),
      )
  | inr i ↦
      subst (λ (x : Ex). ReadsEx l q d x ts rest) (sym i.3) (
        w,
        i.2,
        (made.1, subst (λ (n : ℕ). ReadsEx l 7 d c ts (inside (LeftBracket pos) n ∷ w)) made.0 (reads 7 (subst (λ (x : Ex). tightness x ≤ tightness c) i.3 tight))),
        i.4,
        i.5,
      )
]
made_reads l d c (LeftBrace pos) j w f ts rest made tight reads q le =
    subst (λ (x : Ex). ReadsEx l q d x ts rest) (sym made.3) (literal_back l q d c made.2 pos w ts rest made.1 (λ p holds. subst (λ (i : ℕ). ReadsEx l p d c ts (inside (LeftBrace pos) i ∷ w)) made.0 (reads p holds)) made.4)
made_reads l d c t j w f ts rest made tight reads q le = absurd made

pub grown_reads : {l : Bool} {p d : ℕ} {c g : Ex} {m rest : List Mark} (ts : List Mark) → Grows l p d c m g rest → p ≤ 7 → Readable l d c ts m → ReadsEx l p d g ts rest
grown_reads ts (whole fits) small reads = elim fits [ inl le ↦ reads _ le | inr is ↦ absurd (omega (arith, is, small)) ]
grown_reads {l = l} {d = d} {c = c} ts (more {f = f} {k = k} t j w le is made tight grows) small reads =
    grown_reads ts grows small (made_reads l d c t j w f ts k made tight (λ q holds. subst (λ (v : List Mark). ReadsEx l q d c ts v) is (reads q holds)))
