-- How the arguments of a call and the elements of a literal go on and end.
use Rattle.std.proofs.Common.{◌≡◌, ℕ, suc, Bool, true, false, List, [], ◌∷◌, ◌⊎◌, inl, inr, Option, Some, None, refl, sym, ap, subst, ◌∙◌}
use Rattle.base.specs.declared.pos.Pos.{Pos}
use Rattle.syntax.specs.declared.expression.Name.{Name}
use Rattle.syntax.specs.Expressions.{Ex, name, call, Exs, none, some, Elements, no_elements, element}
use Rattle.syntax.specs.Lists.{appended, with_ex, elements_joined, with_element}
use Rattle.syntax.proofs.Rows.{appended_assoc, elements_assoc}
use Rattle.parse_expressions.specs.declared.terminal.Terminal.{Terminal}
use Rattle.parse_expressions.specs.declared.terminal.Terminal.TheVariants.{Identifier, Comma, Colon, Ellipsis, RightParen, RightBrace}
use Rattle.parse_expressions.specs.Grammar.{Mark, inside, IsValue, ReadsEx, ReadsMore, ReadsArguments, ReadsElements, ReadsMoreElements, ReadsKey, ClosesArguments, closing, comma_closing, spread_closing, spread_comma_closing, ClosesElements, elements_closing, elements_comma_closing}
use Rattle.parse_expressions.specs.Frames.{Container}
use Rattle.parse_expressions.proofs.Following.{ArgumentsEnd, SpreadEnd, ElementsEnd, KeyEnd, Behind, contained, Iff}

pub appended_none : (es : Exs) → appended es none ≡ es
appended_none none = refl
appended_none (some e es) = ap (some e) (appended_none es)

pub joined_none : (es : Elements) → elements_joined es no_elements ≡ es
joined_none no_elements = refl
joined_none (element key e es) = ap (element key e) (joined_none es)

-- ---- the end of arguments

abbrev pub ArgumentsCloseAt : ℕ → Bool → Terminal → ℕ → List Mark → List Mark → Type 0
ArgumentsCloseAt d spread RightParen j w n = (spread ≡ false) × (j ≡ d) × (w ≡ n)
ArgumentsCloseAt d spread Comma j w n = (spread ≡ false) × (j ≡ suc d) × (w ≡ inside RightParen d ∷ n)
ArgumentsCloseAt d spread Ellipsis j w n = (spread ≡ true) × (j ≡ suc d) × ((w ≡ inside RightParen d ∷ n) ⊎ (w ≡ inside Comma (suc d) ∷ inside RightParen d ∷ n))
ArgumentsCloseAt d spread t j w n = ⊥

close_at : {d : ℕ} {spread : Bool} {ts n : List Mark} (t : Terminal) (j : ℕ) (w : List Mark) → ClosesArguments d spread ts n → ts ≡ inside t j ∷ w → ArgumentsCloseAt d spread t j w n
close_at t j w (closing {d = d} {rest = n}) is = let at : RightParen ≡ t = cc in subst (λ (x : Terminal). ArgumentsCloseAt d false x j w n) at (refl, cc, cc)
close_at t j w (comma_closing {d = d} {rest = n}) is = let at : Comma ≡ t = cc in subst (λ (x : Terminal). ArgumentsCloseAt d false x j w n) at (refl, cc, cc)
close_at t j w (spread_closing {d = d} {rest = n}) is = let at : Ellipsis ≡ t = cc in subst (λ (x : Terminal). ArgumentsCloseAt d true x j w n) at (refl, cc, inl cc)
close_at t j w (spread_comma_closing {d = d} {rest = n}) is = let at : Ellipsis ≡ t = cc in subst (λ (x : Terminal). ArgumentsCloseAt d true x j w n) at (refl, cc, inr cc)

-- a terminal after an argument
abbrev pub EndsArgument : Terminal → Type 0
EndsArgument Comma = Unit {0}
EndsArgument Ellipsis = Unit {0}
EndsArgument RightParen = Unit {0}
EndsArgument _ = ⊥

closed_argument : (d : ℕ) (spread : Bool) (t : Terminal) (j : ℕ) (w n : List Mark) → ArgumentsCloseAt d spread t j w n → EndsArgument t
closed_argument d spread RightParen j w n c = tt
closed_argument d spread Comma j w n c = tt
closed_argument d spread Ellipsis j w n c = tt
closed_argument d spread t j w n c = absurd c

module _ (d : ℕ) (f : Ex) (es : Exs) (Up : Ex → List Mark → Type 0) where
  pub argument_first : (t : Terminal) (j : ℕ) (w : List Mark) → ArgumentsEnd d f es Up (inside t j ∷ w) → EndsArgument t
  argument_first t j w h = to h.others h.reads
    where
      to : (others : Exs) → ReadsMore true (suc d) others (inside t j ∷ w) h.between → EndsArgument t
      to none r = closed_argument d h.spread t j w h.rest (close_at t j w h.closes (sym r))
      to (some g gs) r = let at : Comma ≡ t = cc (r.2) in subst EndsArgument at tt

  -- after an argument and a comma
  abbrev pub ArgumentNext : List Mark → Type 0
  ArgumentNext w = Behind RightParen d Up (call f es false) w ⊎ ((g : Ex) × (m : List Mark) × ReadsEx true 1 (suc d) g w m × ArgumentsEnd d f (with_ex es g) Up m)

  pub argument_comma : (j : ℕ) (w : List Mark) → Iff (ArgumentsEnd d f es Up (inside Comma j ∷ w)) ((j ≡ suc d) × ArgumentNext w)
  argument_comma j w = (
    λ h. to h.others h.spread h.between h.rest h.reads h.closes h.up,
    λ h. elim h.1 [
      | inl a ↦ record { others = none; spread = false; between = inside Comma j ∷ w; rest = a.rest; reads = refl; closes = subst (λ (i : ℕ). ClosesArguments d false (inside Comma i ∷ w) a.rest) (sym h.0) (subst (λ (ts : List Mark). ClosesArguments d false (inside Comma (suc d) ∷ ts) a.rest) (sym a.mark) comma_closing); up = subst (λ (xs : Exs). Up (call f xs false) a.rest) (sym (appended_none es)) a.up }
      | inr v ↦ let c = v.3 in record { others = some v.0 c.others; spread = c.spread; between = c.between; rest = c.rest; reads = (w, v.1, ap (λ (i : ℕ). inside Comma i ∷ w) h.0, v.2, c.reads); closes = c.closes; up = subst (λ (xs : Exs). Up (call f xs c.spread) c.rest) (appended_assoc es (some v.0 none) c.others) c.up }
    ],
  )
    where
      to : (others : Exs) (spread : Bool) (k n : List Mark) → ReadsMore true (suc d) others (inside Comma j ∷ w) k → ClosesArguments d spread k n → Up (call f (appended es others) spread) n → (j ≡ suc d) × ArgumentNext w
      to none spread k n r c u =
          let i = close_at Comma j w c (sym r) in
          (i.1, inl (record { rest = n; mark = i.2; up = subst (λ (x : Bool). Up (call f es x) n) i.0 (subst (λ (xs : Exs). Up (call f xs spread) n) (appended_none es) u) }))
      to (some g gs) spread k n r c u =
          let same_w : r.0 ≡ w = cc (r.2) in
          (cc (r.2), inr (g, r.1, subst (λ (ts : List Mark). ReadsEx true 1 (suc d) g ts r.1) same_w r.3, record { others = gs; spread = spread; between = k; rest = n; reads = r.4; closes = c; up = subst (λ (xs : Exs). Up (call f xs spread) n) (sym (appended_assoc es (some g none) gs)) u }))

  pub argument_paren : (j : ℕ) (w : List Mark) → Iff (ArgumentsEnd d f es Up (inside RightParen j ∷ w)) ((j ≡ d) × Up (call f es false) w)
  argument_paren j w = (
    λ h. to h.others h.spread h.between h.rest h.reads h.closes h.up,
    λ h. record { others = none; spread = false; between = inside RightParen j ∷ w; rest = w; reads = refl; closes = subst (λ (i : ℕ). ClosesArguments d false (inside RightParen i ∷ w) w) (sym h.0) closing; up = subst (λ (xs : Exs). Up (call f xs false) w) (sym (appended_none es)) h.1 },
  )
    where
      to : (others : Exs) (spread : Bool) (k n : List Mark) → ReadsMore true (suc d) others (inside RightParen j ∷ w) k → ClosesArguments d spread k n → Up (call f (appended es others) spread) n → (j ≡ d) × Up (call f es false) w
      to none spread k n r c u =
          let i = close_at RightParen j w c (sym r) in
          (i.1, subst (λ (ts : List Mark). Up (call f es false) ts) (sym i.2) (subst (λ (x : Bool). Up (call f es x) n) i.0 (subst (λ (xs : Exs). Up (call f xs spread) n) (appended_none es) u)))
      to (some g gs) spread k n r c u = absurd (cc (r.2))

  pub argument_ellipsis : (j : ℕ) (w : List Mark) → Iff (ArgumentsEnd d f es Up (inside Ellipsis j ∷ w)) ((j ≡ suc d) × SpreadEnd d f es Up w)
  argument_ellipsis j w = (
    λ h. to h.others h.spread h.between h.rest h.reads h.closes h.up,
    λ h. record { others = none; spread = true; between = inside Ellipsis j ∷ w; rest = h.1.rest; reads = refl; closes = subst (λ (i : ℕ). ClosesArguments d true (inside Ellipsis i ∷ w) h.1.rest) (sym h.0) (spread_back h.1.rest h.1.closes); up = subst (λ (xs : Exs). Up (call f xs true) h.1.rest) (sym (appended_none es)) h.1.up },
  )
    where
      spread_back : (n : List Mark) → (w ≡ inside RightParen d ∷ n) ⊎ (w ≡ inside Comma (suc d) ∷ inside RightParen d ∷ n) → ClosesArguments d true (inside Ellipsis (suc d) ∷ w) n
      spread_back n (inl is) = subst (λ (ts : List Mark). ClosesArguments d true (inside Ellipsis (suc d) ∷ ts) n) (sym is) spread_closing
      spread_back n (inr is) = subst (λ (ts : List Mark). ClosesArguments d true (inside Ellipsis (suc d) ∷ ts) n) (sym is) spread_comma_closing

      to : (others : Exs) (spread : Bool) (k n : List Mark) → ReadsMore true (suc d) others (inside Ellipsis j ∷ w) k → ClosesArguments d spread k n → Up (call f (appended es others) spread) n → (j ≡ suc d) × SpreadEnd d f es Up w
      to none spread k n r c u =
          let i = close_at Ellipsis j w c (sym r) in
          (i.1, record { rest = n; closes = i.2; up = subst (λ (x : Bool). Up (call f es x) n) i.0 (subst (λ (xs : Exs). Up (call f xs spread) n) (appended_none es) u) })
      to (some g gs) spread k n r c u = absurd (cc (r.2))

  pub argument_some : ArgumentsEnd d f es Up [] → ⊥
  argument_some h = to h.others h.reads
    where
      no_close : {d : ℕ} {spread : Bool} {ts n : List Mark} → ClosesArguments d spread ts n → ts ≡ [] → ⊥
      no_close closing is = cc
      no_close comma_closing is = cc
      no_close spread_closing is = cc
      no_close spread_comma_closing is = cc

      to : (others : Exs) → ReadsMore true (suc d) others [] h.between → ⊥
      to none r = no_close h.closes (sym r)
      to (some g gs) r = cc (r.2)

-- the arguments of a call, from its opening parenthesis on
pub whole_call : (d : ℕ) (f : Ex) (Up : Ex → List Mark → Type 0) (w : List Mark) → Iff ((es : Exs) × (spread : Bool) × (k : List Mark) × ReadsArguments d es spread w k × Up (call f es spread) k) (ArgumentNext d f none Up w)
whole_call d f Up w = (
  λ h. to h.0 h.1 h.2 h.3 h.4,
  λ h. elim h [
    | inl a ↦ (none, false, a.rest, (refl, a.mark), a.up)
    | inr v ↦ let c = v.3 in (some v.0 c.others, c.spread, c.rest, (v.1, c.between, v.2, c.reads, c.closes), c.up)
  ],
)
  where
    to : (es : Exs) (spread : Bool) (k : List Mark) → ReadsArguments d es spread w k → Up (call f es spread) k → ArgumentNext d f none Up w
    to none spread k r u = inl (record { rest = k; mark = r.1; up = subst (λ (x : Bool). Up (call f none x) k) r.0 u })
    to (some e es) spread k r u = inr (e, r.0, r.2, record { others = es; spread = spread; between = r.1; rest = k; reads = r.3; closes = r.4; up = u })

-- ---- the end of elements

abbrev pub no_key : Option Name
no_key = None

abbrev pub ElementsCloseAt : ℕ → Terminal → ℕ → List Mark → List Mark → Type 0
ElementsCloseAt d (RightBrace pos) j w n = (j ≡ d) × (w ≡ n)
ElementsCloseAt d Comma j w n = (j ≡ suc d) × (pos : Pos) × (w ≡ inside (RightBrace pos) d ∷ n)
ElementsCloseAt d t j w n = ⊥

elements_at : {d : ℕ} {ts n : List Mark} (t : Terminal) (j : ℕ) (w : List Mark) → ClosesElements d ts n → ts ≡ inside t j ∷ w → ElementsCloseAt d t j w n
elements_at t j w (elements_closing {d = d} {pos = pos} {rest = n}) is = let at : RightBrace pos ≡ t = cc in subst (λ (x : Terminal). ElementsCloseAt d x j w n) at (cc, cc)
elements_at t j w (elements_comma_closing {d = d} {pos = pos} {rest = n}) is = let at : Comma ≡ t = cc in subst (λ (x : Terminal). ElementsCloseAt d x j w n) at (cc, pos, cc)

-- a terminal after an element
abbrev pub EndsElement : Terminal → Type 0
EndsElement Comma = Unit {0}
EndsElement (RightBrace pos) = Unit {0}
EndsElement _ = ⊥

closed_element : (d : ℕ) (t : Terminal) (j : ℕ) (w n : List Mark) → ElementsCloseAt d t j w n → EndsElement t
closed_element d (RightBrace pos) j w n c = tt
closed_element d Comma j w n c = tt
closed_element d t j w n c = absurd c

module _ (l : Bool) (d : ℕ) (c : Container) (es : Elements) (Up : Ex → List Mark → Type 0) where
  pub element_first : (t : Terminal) (j : ℕ) (w : List Mark) → ElementsEnd l d c es Up (inside t j ∷ w) → EndsElement t
  element_first t j w h = to h.others h.reads
    where
      to : (others : Elements) → ReadsMoreElements l (suc d) others (inside t j ∷ w) h.between → EndsElement t
      to no_elements r = closed_element d t j w h.rest (elements_at t j w h.closes (sym r))
      to (element key e gs) r = let at : Comma ≡ t = cc (r.3) in subst EndsElement at tt

  -- an element and what is after it
  pub record ElementRead (w : List Mark) : Type 0 where
    pub whole : Ex
    pub rest : List Mark
    pub reads : ReadsEx l 0 (suc d) whole w rest
    pub closes : (IsValue whole × ElementsEnd l d c (with_element es None whole) Up rest) ⊎ ((no_key ≡ None) × KeyEnd l d c es Up whole rest)

  -- after an opening brace, or an element and a comma
  abbrev pub ElementNext : List Mark → Type 0
  ElementNext w = ((pos : Pos) × (n : List Mark) × (w ≡ inside (RightBrace pos) d ∷ n) × Up (contained c es) n) ⊎ ElementRead w

  -- one more element
  element_read : (key : Option Name) (e : Ex) (others : Elements) (ts m n k r : List Mark) → ReadsKey (suc d) key ts m → IsValue e → ReadsEx l 0 (suc d) e m n → ReadsMoreElements l (suc d) others n k → ClosesElements d k r → Up (contained c (elements_joined es (element key e others))) r → ElementRead ts
  element_read None e others ts m n k r is value reads more ends up = record {
    whole = e;
    rest = n;
    reads = subst (λ (v : List Mark). ReadsEx l 0 (suc d) e v n) (sym is) reads;
    closes = inl (value, record { others = others; between = k; rest = r; reads = more; closes = ends; up = subst (λ (xs : Elements). Up (contained c xs) r) (sym (elements_assoc es (element None e no_elements) others)) up });
  }
  element_read (Some x) e others ts m n k r is value reads more ends up = record {
    whole = name x;
    rest = inside Colon (suc d) ∷ m;
    reads = is;
    closes = inr (refl, record { key = x; is_name = refl; behind = m; colon = refl; value = e; rest = n; is_value = value; reads = reads; closes = record { others = others; between = k; rest = r; reads = more; closes = ends; up = subst (λ (xs : Elements). Up (contained c xs) r) (sym (elements_assoc es (element (Some x) e no_elements) others)) up } });
  }

  -- and back
  pub record ElementBack (ts : List Mark) : Type 0 where
    pub key : Option Name
    pub value : Ex
    pub others : Elements
    pub behind : List Mark
    pub rest : List Mark
    pub between : List Mark
    pub end : List Mark
    pub key_reads : ReadsKey (suc d) key ts behind
    pub is_value : IsValue value
    pub reads : ReadsEx l 0 (suc d) value behind rest
    pub more : ReadsMoreElements l (suc d) others rest between
    pub closes : ClosesElements d between end
    pub up : Up (contained c (elements_joined es (element key value others))) end

  element_back : (ts : List Mark) → ElementRead ts → ElementBack ts
  element_back ts h = elim h.closes [
    | inl i ↦ record { key = None; value = h.whole; others = i.1.others; behind = ts; rest = h.rest; between = i.1.between; end = i.1.rest; key_reads = refl; is_value = i.0; reads = h.reads; more = i.1.reads; closes = i.1.closes; up = subst (λ (xs : Elements). Up (contained c xs) i.1.rest) (elements_assoc es (element None h.whole no_elements) i.1.others) i.1.up }
    | inr k ↦
        let i = k.1 in
        let read : ReadsEx l 0 (suc d) (name i.key) ts h.rest = subst (λ (x : Ex). ReadsEx l 0 (suc d) x ts h.rest) i.is_name h.reads in
        record { key = Some i.key; value = i.value; others = i.closes.others; behind = i.behind; rest = i.rest; between = i.closes.between; end = i.closes.rest; key_reads = read ∙ ap (λ (v : List Mark). inside (Identifier i.key) (suc d) ∷ v) i.colon; is_value = i.is_value; reads = i.reads; more = i.closes.reads; closes = i.closes.closes; up = subst (λ (xs : Elements). Up (contained c xs) i.closes.rest) (elements_assoc es (element (Some i.key) i.value no_elements) i.closes.others) i.closes.up }
  ]

  pub element_comma : (j : ℕ) (w : List Mark) → Iff (ElementsEnd l d c es Up (inside Comma j ∷ w)) ((j ≡ suc d) × ElementNext w)
  element_comma j w = (
    λ h. to h.others h.between h.rest h.reads h.closes h.up,
    λ h. elim h.1 [
      | inl a ↦ record { others = no_elements; between = inside Comma j ∷ w; rest = a.1; reads = refl; closes = subst (λ (i : ℕ). ClosesElements d (inside Comma i ∷ w) a.1) (sym h.0) (subst (λ (ts : List Mark). ClosesElements d (inside Comma (suc d) ∷ ts) a.1) (sym a.2) elements_comma_closing); up = subst (λ (xs : Elements). Up (contained c xs) a.1) (sym (joined_none es)) a.3 }
      | inr v ↦ let i = element_back w v in record { others = element i.key i.value i.others; between = i.between; rest = i.end; reads = (w, i.behind, i.rest, ap (λ (n : ℕ). inside Comma n ∷ w) h.0, i.key_reads, (i.is_value, i.reads), i.more); closes = i.closes; up = i.up }
    ],
  )
    where
      to : (others : Elements) (k n : List Mark) → ReadsMoreElements l (suc d) others (inside Comma j ∷ w) k → ClosesElements d k n → Up (contained c (elements_joined es others)) n → (j ≡ suc d) × ElementNext w
      to no_elements k n r end u =
          let i = elements_at Comma j w end (sym r) in
          (i.0, inl (i.1, n, i.2, subst (λ (xs : Elements). Up (contained c xs) n) (joined_none es) u))
      to (element key e gs) k n r end u =
          let same_w : r.0 ≡ w = cc (r.3) in
          (cc (r.3), inr (element_read key e gs w r.1 r.2 k n (subst (λ (ts : List Mark). ReadsKey (suc d) key ts r.1) same_w r.4) r.5.0 r.5.1 r.6 end u))

  pub element_brace : (pos : Pos) (j : ℕ) (w : List Mark) → Iff (ElementsEnd l d c es Up (inside (RightBrace pos) j ∷ w)) ((j ≡ d) × Up (contained c es) w)
  element_brace pos j w = (
    λ h. to h.others h.between h.rest h.reads h.closes h.up,
    λ h. record { others = no_elements; between = inside (RightBrace pos) j ∷ w; rest = w; reads = refl; closes = subst (λ (i : ℕ). ClosesElements d (inside (RightBrace pos) i ∷ w) w) (sym h.0) elements_closing; up = subst (λ (xs : Elements). Up (contained c xs) w) (sym (joined_none es)) h.1 },
  )
    where
      to : (others : Elements) (k n : List Mark) → ReadsMoreElements l (suc d) others (inside (RightBrace pos) j ∷ w) k → ClosesElements d k n → Up (contained c (elements_joined es others)) n → (j ≡ d) × Up (contained c es) w
      to no_elements k n r end u =
          let i = elements_at (RightBrace pos) j w end (sym r) in
          (i.0, subst (λ (ts : List Mark). Up (contained c es) ts) (sym i.1) (subst (λ (xs : Elements). Up (contained c xs) n) (joined_none es) u))
      to (element key e gs) k n r end u = absurd (cc (r.3))

  pub element_some : ElementsEnd l d c es Up [] → ⊥
  element_some h = to h.others h.reads
    where
      no_close : {d : ℕ} {ts n : List Mark} → ClosesElements d ts n → ts ≡ [] → ⊥
      no_close elements_closing is = cc
      no_close elements_comma_closing is = cc

      to : (others : Elements) → ReadsMoreElements l (suc d) others [] h.between → ⊥
      to no_elements r = no_close h.closes (sym r)
      to (element key e gs) r = cc (r.3)

-- the elements of a literal, from the opening brace on
pub whole_elements : (l : Bool) (d : ℕ) (c : Container) (Up : Ex → List Mark → Type 0) (w : List Mark) → Iff ((es : Elements) × (k : List Mark) × ReadsElements l d es w k × Up (contained c es) k) (ElementNext l d c no_elements Up w)
whole_elements l d c Up w = (
  λ h. to h.0 h.1 h.2 h.3,
  λ h. elim h [
    | inl a ↦ (no_elements, a.1, (a.0, a.2), a.3)
    | inr v ↦ let i = element_back l d c no_elements Up w v in (element i.key i.value i.others, i.end, (i.behind, i.rest, i.between, i.key_reads, (i.is_value, i.reads), i.more, i.closes), i.up)
  ],
)
  where
    to : (es : Elements) (k : List Mark) → ReadsElements l d es w k → Up (contained c es) k → ElementNext l d c no_elements Up w
    to no_elements k r u = inl (r.0, k, r.1, u)
    to (element key e es) k r u = inr (element_read l d c no_elements Up key e es w r.0 r.1 r.2 k r.3 r.4.0 r.4.1 r.5 r.6 u)
