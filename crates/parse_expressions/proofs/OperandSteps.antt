-- A terminal where an operand or a type is wanted divides the texts by it from the left.
use Rattle.std.proofs.Common.{◌≡◌, ℕ, suc, ◌≤◌, Bool, true, List, ◌∷◌, inl, inr, Option, Some, None, refl, sym, ap, subst, arith}
use Rattle.base.specs.declared.pos.Pos.{Pos}
use Rattle.syntax.specs.declared.operator.UnOp.TheVariants.{Star}
use Rattle.syntax.specs.Expressions.{Ex, number, string, name, unary, paren, array_type, slice_type, elements, Exs, Elements, no_elements}
use Rattle.parse_expressions.specs.declared.terminal.Terminal.{Terminal}
use Rattle.parse_expressions.specs.declared.terminal.Terminal.TheVariants.{Identifier, Number, String, LeftParen, RightParen, LeftBracket, RightBracket, LeftBrace}
use Rattle.parse_expressions.specs.Terminals.{Prefix, prefix, prefix_in}
use Rattle.parse_expressions.specs.Grammar.{Mark, inside, ReadsEx, ReadsType}
use Rattle.parse_expressions.specs.Frames.{Container, of_element, Frame, pointing, of_array, of_slice, enclosed_type, open_depth, allows}
use Rattle.parse_expressions.specs.Machine.{Context, at_argument, at_bracket, at_element, type_done, after_prefix, operand, after_type_prefix, type_operand}
use Rattle.parse_expressions.proofs.Growth.{tightness, whole}
use Rattle.parse_expressions.proofs.Splits.{grown_from, type_same, split, Readable, grown_reads}
use Rattle.parse_expressions.proofs.ListEnds.{whole_elements, ArgumentNext, ElementNext}
use Rattle.parse_expressions.proofs.Heads.{BracketAt, PrefixAt, HeadAt, head_at, bracket_reads, TypePrefixAt, TypeAt, type_at, bracket_type}
use Rattle.parse_expressions.proofs.Following.{level, Grown, Close, Have, Wants, WantsType, Rest, After, Iff}

pub iff_trans : (A B C : Type 0) → Iff A B → Iff B C → Iff A C
iff_trans A B C f g = (λ a. g.0 (f.0 a), λ c. f.1 (g.1 c))

-- where a type is wanted nothing grows
pub type_whole : (l : Bool) (p d : ℕ) (Up : Ex → List Mark → Type 0) (c : Ex) (m : List Mark) → p ≡ 8 → Iff (Grown l p d Up c m) (Up c m)
type_whole l p d Up c m is = (
  λ h. let i = type_same h.grows is in subst (λ (x : Ex). Up x m) i.0 (subst (λ (ts : List Mark). Up h.whole ts) i.1 h.closes),
  λ u. record { whole = c; rest = m; grows = whole (inr is); closes = u },
)

-- a brace begins an operand only where elements without a type may stand
abbrev pub BraceNeeds : Terminal → ℕ → Type 0
BraceNeeds (LeftBrace pos) p = 1 ≤ p
BraceNeeds t p = Unit {0}

module _ (b : Context) (K : Ex → List Mark → Type 0) where
  -- ---- brackets of a type

  pub bracket_read : (fs : List Frame) (pos : Pos) (w : List Mark) → Iff ((h : Ex) × (m : List Mark) × BracketAt (allows b.literals fs) (open_depth b.depth fs) pos w h m × Have b K fs h m) (Rest b K (at_bracket fs pos) w)
  bracket_read fs pos w = (
    λ h. elim h.2 [
      | inl i ↦ inr (record { whole = i.0; rest = inside RightBracket (open_depth b.depth fs) ∷ i.2; reads = i.4.1; closes = (i.4.0, i.2, refl, record { whole = i.1; rest = h.1; reads = i.5; up = subst (λ (x : Ex). Have b K fs x h.1) i.3 h.3 }) })
      | inr i ↦ inl (i.1, i.3, record { whole = i.0; rest = h.1; reads = i.4; up = subst (λ (x : Ex). Have b K fs x h.1) i.2 h.3 })
    ],
    λ h. elim h [
      | inl i ↦ let t = i.2 in (slice_type pos t.whole, t.rest, inr (t.whole, i.0, refl, i.1, t.reads), t.up)
      | inr v ↦ let c = v.closes in let t = c.3 in (array_type pos v.whole t.whole, t.rest, inl (v.whole, t.whole, c.1, refl, (c.0, subst (λ (ts : List Mark). ReadsEx (allows b.literals fs) 1 (suc (open_depth b.depth fs)) v.whole w ts) c.2 v.reads), t.reads), t.up)
    ],
  )

  -- ---- operands

  -- the head of an operand that begins with t
  pub record Headed (fs : List Frame) (t : Terminal) (j : ℕ) (w : List Mark) : Type 0 where
    pub head : Ex
    pub middle : List Mark
    pub at : HeadAt (allows b.literals fs) (open_depth b.depth fs) t j w head middle
    pub have : Have b K fs head middle

  pub headed : (fs : List Frame) (t : Terminal) (j : ℕ) (w : List Mark) → level b fs ≤ 6 → Wants b K fs (inside t j ∷ w) → Headed fs t j w
  headed fs t j w small h =
      let s = split (allows b.literals fs) (level b fs) (open_depth b.depth fs) h.whole (inside t j ∷ w) h.rest (omega (arith, small)) h.reads in
      record { head = s.head; middle = s.middle; at = head_at (allows b.literals fs) (open_depth b.depth fs) t j w s.head s.middle s.is_head s.reads; have = record { whole = h.whole; rest = h.rest; grows = s.grows; closes = h.closes } }

  wanted : (fs : List Frame) (c : Ex) (ts m : List Mark) → level b fs ≤ 6 → Have b K fs c m → Readable (allows b.literals fs) (open_depth b.depth fs) c ts m → Wants b K fs ts
  wanted fs c ts m small h reads = record { whole = h.whole; rest = h.rest; reads = grown_reads ts h.grows (omega (arith, small)) reads; closes = h.closes }

  prefix_step : (fs : List Frame) (t : Terminal) (j : ℕ) (w : List Mark) (p : Option Prefix) → level b fs ≤ 6 → prefix_in t ≡ p → Iff ((h : Ex) × (m : List Mark) × PrefixAt (allows b.literals fs) (open_depth b.depth fs) p j w h m × Have b K fs h m) (After b K (after_prefix fs p) (open_depth b.depth fs) t j w)
  prefix_step fs t j w None small is = (λ h. h.2, λ h. absurd h)
  prefix_step fs t j w (Some (prefix pos op)) small is = (
    λ h. let a = h.2 in (a.0, record { whole = a.1; rest = h.1; reads = a.4; closes = (a.3, subst (λ (x : Ex). Have b K fs x h.1) a.2 h.3) }),
    λ h. let v = h.1 in (unary pos op v.whole, v.rest, (h.0, v.whole, refl, v.closes.0, v.reads), v.closes.1),
  )

  prefix_wanted : (fs : List Frame) (t : Terminal) (j : ℕ) (w : List Mark) (p : Option Prefix) → level b fs ≤ 6 → prefix_in t ≡ p → After b K (after_prefix fs p) (open_depth b.depth fs) t j w → Wants b K fs (inside t j ∷ w)
  prefix_wanted fs t j w None small is h = absurd h
  prefix_wanted fs t j w (Some (prefix pos op)) small is h =
      let v = h.1 in
      wanted fs (unary pos op v.whole) (inside t j ∷ w) v.rest small v.closes.1 (λ q le. (le, t, w, is, ap (λ (i : ℕ). inside t i ∷ w) h.0, v.closes.0, v.reads))

  prefix_operand : (fs : List Frame) (t : Terminal) (j : ℕ) (w : List Mark) → level b fs ≤ 6 → ((h : Ex) (m : List Mark) → HeadAt (allows b.literals fs) (open_depth b.depth fs) t j w h m → PrefixAt (allows b.literals fs) (open_depth b.depth fs) (prefix_in t) j w h m) → Iff (Wants b K fs (inside t j ∷ w)) (After b K (after_prefix fs (prefix_in t)) (open_depth b.depth fs) t j w)
  prefix_operand fs t j w small at = (
    λ h. let i = headed fs t j w small h in (prefix_step fs t j w (prefix_in t) small refl).0 (i.head, i.middle, at i.head i.middle i.at, i.have),
    λ h. prefix_wanted fs t j w (prefix_in t) small refl h,
  )

  -- the marks of an operand, up to the nesting of the first one
  nested : (l : Bool) (q d : ℕ) (c : Ex) (t : Terminal) (j : ℕ) (w m : List Mark) → j ≡ d → ReadsEx l q d c (inside t d ∷ w) m → ReadsEx l q d c (inside t j ∷ w) m
  nested l q d c t j w m is r = subst (λ (i : ℕ). ReadsEx l q d c (inside t i ∷ w) m) (sym is) r

  no_brace : (fs : List Frame) (pos : Pos) (j : ℕ) (w : List Mark) → 1 ≤ level b fs → level b fs ≤ 6 → Wants b K fs (inside (LeftBrace pos) j ∷ w) → ⊥
  no_brace fs pos j w least small h =
      let i = headed fs (LeftBrace pos) j w small h in
      let le : level b fs ≤ tightness i.head = grown_from i.have.grows (omega (arith, small)) in
      let low : level b fs ≤ 0 = subst (λ (x : Ex). level b fs ≤ tightness x) i.at.2 le in
      omega (arith, low, least)

  pub operand_step : (fs : List Frame) (t : Terminal) (j : ℕ) (w : List Mark) → level b fs ≤ 6 → BraceNeeds t (level b fs) → Iff (Wants b K fs (inside t j ∷ w)) (After b K (operand fs t) (open_depth b.depth fs) t j w)
  operand_step fs (Number pos n) j w small least = (
    λ h. let i = headed fs (Number pos n) j w small h in (i.at.0, subst (λ (x : Ex). Have b K fs x w) i.at.1 (subst (λ (ts : List Mark). Have b K fs i.head ts) (sym i.at.2) i.have)),
    λ h. wanted fs (number pos n) (inside (Number pos n) j ∷ w) w small h.1 (λ q le. ap (λ (i : ℕ). inside (Number pos n) i ∷ w) h.0),
  )
  operand_step fs (String pos end) j w small least = (
    λ h. let i = headed fs (String pos end) j w small h in (i.at.0, subst (λ (x : Ex). Have b K fs x w) i.at.1 (subst (λ (ts : List Mark). Have b K fs i.head ts) (sym i.at.2) i.have)),
    λ h. wanted fs (string pos end) (inside (String pos end) j ∷ w) w small h.1 (λ q le. ap (λ (i : ℕ). inside (String pos end) i ∷ w) h.0),
  )
  operand_step fs (Identifier x) j w small least = (
    λ h. let i = headed fs (Identifier x) j w small h in (i.at.0, subst (λ (y : Ex). Have b K fs y w) i.at.1 (subst (λ (ts : List Mark). Have b K fs i.head ts) (sym i.at.2) i.have)),
    λ h. wanted fs (name x) (inside (Identifier x) j ∷ w) w small h.1 (λ q le. ap (λ (i : ℕ). inside (Identifier x) i ∷ w) h.0),
  )
  operand_step fs (LeftParen pos) j w small least = (
    λ h. let i = headed fs (LeftParen pos) j w small h in (i.at.0, record { whole = i.at.1; rest = inside RightParen (open_depth b.depth fs) ∷ i.middle; reads = i.at.3; closes = record { rest = i.middle; mark = refl; up = subst (λ (x : Ex). Have b K fs x i.middle) i.at.2 i.have } }),
    λ h.
        let v = h.1 in
        let c = v.closes in
        let r : ReadsEx true 1 (suc (open_depth b.depth fs)) v.whole w (inside RightParen (open_depth b.depth fs) ∷ c.rest) = subst (λ (ts : List Mark). ReadsEx true 1 (suc (open_depth b.depth fs)) v.whole w ts) c.mark v.reads in
        wanted fs (paren pos v.whole) (inside (LeftParen pos) j ∷ w) c.rest small c.up (λ q le. (w, ap (λ (i : ℕ). inside (LeftParen pos) i ∷ w) h.0, r)),
  )
  operand_step fs (LeftBracket pos) j w small least = (
    λ h. let i = headed fs (LeftBracket pos) j w small h in (i.at.0, (bracket_read fs pos w).0 (i.head, i.middle, i.at.1, i.have)),
    λ h.
        let i = (bracket_read fs pos w).1 h.1 in
        wanted fs i.0 (inside (LeftBracket pos) j ∷ w) i.1 small i.3 (λ q le. nested (allows b.literals fs) q (open_depth b.depth fs) i.0 (LeftBracket pos) j w i.1 h.0 (bracket_reads (allows b.literals fs) (open_depth b.depth fs) pos w i.0 i.1 i.2 q)),
  )
  operand_step fs (LeftBrace pos) j w small least = (λ h. absurd (no_brace fs pos j w least small h), λ h. absurd h)
  operand_step fs t j w small least = prefix_operand fs t j w small (λ h m a. a)

  -- ---- elements without a type

  pub element_next : (fs : List Frame) (c : Container) (es : Elements) (w : List Mark) → Iff (ElementNext (allows b.literals fs) (open_depth b.depth fs) c es (Have b K fs) w) (Rest b K (at_element fs c es) w)
  element_next fs c es w = (
    λ h. elim h [ inl a ↦ inl a | inr v ↦ inr (record { whole = v.whole; rest = v.rest; reads = v.reads; closes = v.closes }) ],
    λ h. elim h [ inl a ↦ inl a | inr v ↦ inr (record { whole = v.whole; rest = v.rest; reads = v.reads; closes = v.closes }) ],
  )

  pub brace_step : (fs : List Frame) (pos : Pos) (j : ℕ) (w : List Mark) → level b fs ≡ 0 → Iff (Wants b K fs (inside (LeftBrace pos) j ∷ w)) ((j ≡ open_depth b.depth fs) × Rest b K (at_element fs (of_element pos) no_elements) w)
  brace_step fs pos j w zero_level = (
    λ h.
        let i = headed fs (LeftBrace pos) j w (omega (arith, zero_level)) h in
        (i.at.0, (element_next fs (of_element pos) no_elements w).0 ((whole_elements (allows b.literals fs) (open_depth b.depth fs) (of_element pos) (Have b K fs) w).0 (i.at.1, i.middle, i.at.3, subst (λ (x : Ex). Have b K fs x i.middle) i.at.2 i.have))),
    λ h.
        let i = (whole_elements (allows b.literals fs) (open_depth b.depth fs) (of_element pos) (Have b K fs) w).1 ((element_next fs (of_element pos) no_elements w).1 h.1) in
        wanted fs (elements pos i.0) (inside (LeftBrace pos) j ∷ w) i.1 (omega (arith, zero_level)) i.3 (λ q le. (omega (arith, le), w, ap (λ (n : ℕ). inside (LeftBrace pos) n ∷ w) h.0, i.2)),
  )

  pub argument_next : (fs : List Frame) (f : Ex) (es : Exs) (w : List Mark) → Iff (ArgumentNext (open_depth b.depth fs) f es (Have b K fs) w) (Rest b K (at_argument fs f es) w)
  argument_next fs f es w = (
    λ h. elim h [ inl a ↦ inl a | inr v ↦ inr (record { whole = v.0; rest = v.1; reads = v.2; closes = v.3 }) ],
    λ h. elim h [ inl a ↦ inl a | inr v ↦ inr (v.whole, v.rest, v.reads, v.closes) ],
  )

  -- ---- types

  -- after a type, whose prefixes inside the same type are closed
  pub type_ends : (fs : List Frame) (e : Ex) (m : List Mark) → Iff (Have b K fs e m) (Rest b K (type_done fs e) m)
  type_ends (pointing pos ∷ fs) e m = iff_trans _ _ _ (type_whole (allows b.literals fs) 8 (suc (open_depth b.depth fs)) (Close b K (pointing pos ∷ fs)) e m refl) (type_ends fs (unary pos Star e) m)
  type_ends (of_array pos len ∷ fs) e m = iff_trans _ _ _ (type_whole (allows b.literals fs) 8 (suc (open_depth b.depth fs)) (Close b K (of_array pos len ∷ fs)) e m refl) (type_ends fs (array_type pos len e) m)
  type_ends (of_slice pos ∷ fs) e m = iff_trans _ _ _ (type_whole (allows b.literals fs) 8 (suc (open_depth b.depth fs)) (Close b K (of_slice pos ∷ fs)) e m refl) (type_ends fs (slice_type pos e) m)
  type_ends (enclosed_type pos ∷ fs) e m = type_whole true 8 (suc (open_depth b.depth fs)) (Close b K (enclosed_type pos ∷ fs)) e m refl
  type_ends fs e m = (λ h. h, λ h. h)

  have_close : (fs : List Frame) (e : Ex) (m : List Mark) → level b fs ≡ 8 → Iff (Have b K fs e m) (Close b K fs e m)
  have_close fs e m is = type_whole (allows b.literals fs) (level b fs) (open_depth b.depth fs) (Close b K fs) e m is

  type_prefix_step : (fs : List Frame) (t : Terminal) (j : ℕ) (w : List Mark) (p : Option Prefix) → level b fs ≡ 8 → prefix_in t ≡ p → Iff ((e : Ex) × (m : List Mark) × TypePrefixAt (allows b.literals fs) (open_depth b.depth fs) p j w e m × Close b K fs e m) (After b K (after_type_prefix fs p) (open_depth b.depth fs) t j w)
  type_prefix_step fs t j w (Some (prefix pos Star)) level_is is = (
    λ h. let a = h.2 in (a.0, record { whole = a.1; rest = h.1; reads = a.3; up = (have_close fs (unary pos Star a.1) h.1 level_is).1 (subst (λ (x : Ex). Close b K fs x h.1) a.2 h.3) }),
    λ h. let v = h.1 in (unary pos Star v.whole, v.rest, (h.0, v.whole, refl, v.reads), (have_close fs (unary pos Star v.whole) v.rest level_is).0 v.up),
  )
  type_prefix_step fs t j w p level_is is = (λ h. absurd h.2, λ h. absurd h)

  type_prefix_wanted : (fs : List Frame) (t : Terminal) (j : ℕ) (w : List Mark) (p : Option Prefix) → level b fs ≡ 8 → prefix_in t ≡ p → After b K (after_type_prefix fs p) (open_depth b.depth fs) t j w → WantsType b K fs (inside t j ∷ w)
  type_prefix_wanted fs t j w (Some (prefix pos Star)) level_is is h =
      let v = h.1 in
      record { whole = unary pos Star v.whole; rest = v.rest; reads = (t, w, is, ap (λ (i : ℕ). inside t i ∷ w) h.0, v.reads); up = (have_close fs (unary pos Star v.whole) v.rest level_is).0 v.up }
  type_prefix_wanted fs t j w p level_is is h = absurd h

  prefix_type_operand : (fs : List Frame) (t : Terminal) (j : ℕ) (w : List Mark) → level b fs ≡ 8 → ((e : Ex) (m : List Mark) → TypeAt (allows b.literals fs) (open_depth b.depth fs) t j w e m → TypePrefixAt (allows b.literals fs) (open_depth b.depth fs) (prefix_in t) j w e m) → Iff (WantsType b K fs (inside t j ∷ w)) (After b K (after_type_prefix fs (prefix_in t)) (open_depth b.depth fs) t j w)
  prefix_type_operand fs t j w level_is at = (
    λ h. (type_prefix_step fs t j w (prefix_in t) level_is refl).0 (h.whole, h.rest, at h.whole h.rest (type_at (allows b.literals fs) (open_depth b.depth fs) t j w h.whole h.rest h.reads), h.up),
    λ h. type_prefix_wanted fs t j w (prefix_in t) level_is refl h,
  )

  pub type_step : (fs : List Frame) (t : Terminal) (j : ℕ) (w : List Mark) → level b fs ≡ 8 → Iff (WantsType b K fs (inside t j ∷ w)) (After b K (type_operand fs t) (open_depth b.depth fs) t j w)
  type_step fs (Identifier x) j w level_is = (
    λ h.
        let i = type_at (allows b.literals fs) (open_depth b.depth fs) (Identifier x) j w h.whole h.rest h.reads in
        (i.0, (type_ends fs (name x) w).0 ((have_close fs (name x) w level_is).1 (subst (λ (y : Ex). Close b K fs y w) i.1 (subst (λ (ts : List Mark). Close b K fs h.whole ts) (sym i.2) h.up)))),
    λ h. record { whole = name x; rest = w; reads = ap (λ (i : ℕ). inside (Identifier x) i ∷ w) h.0; up = (have_close fs (name x) w level_is).0 ((type_ends fs (name x) w).1 h.1) },
  )
  type_step fs (LeftParen pos) j w level_is = (
    λ h.
        let i = type_at (allows b.literals fs) (open_depth b.depth fs) (LeftParen pos) j w h.whole h.rest h.reads in
        (i.0, record { whole = i.1; rest = inside RightParen (open_depth b.depth fs) ∷ h.rest; reads = i.3; up = record { rest = h.rest; mark = refl; up = (have_close fs (paren pos i.1) h.rest level_is).1 (subst (λ (x : Ex). Close b K fs x h.rest) i.2 h.up) } }),
    λ h.
        let v = h.1 in
        let c = v.up in
        record { whole = paren pos v.whole; rest = c.rest; reads = (w, ap (λ (i : ℕ). inside (LeftParen pos) i ∷ w) h.0, subst (λ (ts : List Mark). ReadsType true (suc (open_depth b.depth fs)) v.whole w ts) c.mark v.reads); up = (have_close fs (paren pos v.whole) c.rest level_is).0 c.up },
  )
  type_step fs (LeftBracket pos) j w level_is = (
    λ h.
        let i = type_at (allows b.literals fs) (open_depth b.depth fs) (LeftBracket pos) j w h.whole h.rest h.reads in
        (i.0, (bracket_read fs pos w).0 (h.whole, h.rest, i.1, (have_close fs h.whole h.rest level_is).1 h.up)),
    λ h.
        let i = (bracket_read fs pos w).1 h.1 in
        record { whole = i.0; rest = i.1; reads = subst (λ (n : ℕ). ReadsType (allows b.literals fs) (open_depth b.depth fs) i.0 (inside (LeftBracket pos) n ∷ w) i.1) (sym h.0) (bracket_type (allows b.literals fs) (open_depth b.depth fs) pos w i.0 i.1 i.2); up = (have_close fs i.0 i.1 level_is).0 i.3 },
  )
  type_step fs t j w level_is = prefix_type_operand fs t j w level_is (λ e m a. a)
