-- A terminal that comes next.
use Rattle.std.proofs.Common.{◌≡◌, ℕ, List, [], ◌∷◌, ◌⊎◌, inl, inr, ap, subst}
use Rattle.base.specs.declared.pos.Pos.{Pos}
use Rattle.parse_expressions.specs.declared.terminal.Terminal.{Terminal}
use Rattle.parse_expressions.specs.Grammar.{Mark, inside}
use Rattle.parse_expressions.proofs.Following.{Iff}

-- the terminal t inside of d brackets, and then what Then says
pub record Next (t : Terminal) (d : ℕ) (Then : List Mark → Type 0) (m : List Mark) : Type 0 where
  pub rest : List Mark
  pub mark : m ≡ inside t d ∷ rest
  pub follows : Then rest

-- the same of a terminal with a position
pub record NextAt (t : Pos → Terminal) (d : ℕ) (Then : Pos → List Mark → Type 0) (m : List Mark) : Type 0 where
  pub pos : Pos
  pub rest : List Mark
  pub mark : m ≡ inside (t pos) d ∷ rest
  pub follows : Then pos rest

pub next_read : (t : Terminal) (d : ℕ) (Then : List Mark → Type 0) (j : ℕ) (w : List Mark) → Iff (Next t d Then (inside t j ∷ w)) ((j ≡ d) × Then w)
next_read t d Then j w = (
  λ h. let same_w : h.rest ≡ w = cc (h.mark) in (cc (h.mark), subst Then same_w h.follows),
  λ h. record { rest = w; mark = ap (λ (i : ℕ). inside t i ∷ w) h.0; follows = h.1 },
)

-- no other terminal
pub next_other : (t : Terminal) (d : ℕ) (Then : List Mark → Type 0) (x : Terminal) (j : ℕ) (w : List Mark) → (x ≡ t → ⊥) → Next t d Then (inside x j ∷ w) → ⊥
next_other t d Then x j w other h = other (cc (h.mark))

pub next_some : (t : Terminal) (d : ℕ) (Then : List Mark → Type 0) → Next t d Then [] → ⊥
next_some t d Then h = cc (h.mark)

pub next_at_read : (t : Pos → Terminal) (d : ℕ) (Then : Pos → List Mark → Type 0) (q : Pos) (j : ℕ) (w : List Mark) → ((p : Pos) → t p ≡ t q → p ≡ q) → Iff (NextAt t d Then (inside (t q) j ∷ w)) ((j ≡ d) × Then q w)
next_at_read t d Then q j w same = (
  λ h.
      let same_w : h.rest ≡ w = cc (h.mark) in
      let same_q : h.pos ≡ q = same h.pos (cc (h.mark)) in
      (cc (h.mark), subst (λ (p : Pos). Then p w) same_q (subst (λ (ts : List Mark). Then h.pos ts) same_w h.follows)),
  λ h. record { pos = q; rest = w; mark = ap (λ (i : ℕ). inside (t q) i ∷ w) h.0; follows = h.1 },
)

pub next_at_other : (t : Pos → Terminal) (d : ℕ) (Then : Pos → List Mark → Type 0) (x : Terminal) (j : ℕ) (w : List Mark) → ((p : Pos) → x ≡ t p → ⊥) → NextAt t d Then (inside x j ∷ w) → ⊥
next_at_other t d Then x j w other h = other h.pos (cc (h.mark))

pub next_at_some : (t : Pos → Terminal) (d : ℕ) (Then : Pos → List Mark → Type 0) → NextAt t d Then [] → ⊥
next_at_some t d Then h = cc (h.mark)

-- ---- equivalences

pub iff_same : (A : Type 0) → Iff A A
iff_same A = (λ a. a, λ a. a)

pub iff_trans : (A B C : Type 0) → Iff A B → Iff B C → Iff A C
iff_trans A B C f g = (λ a. g.0 (f.0 a), λ c. f.1 (g.1 c))

pub iff_never : (A : Type 0) → (A → ⊥) → Iff A ⊥
iff_never A never = (never, λ h. absurd h)

pub and_then : (P A B : Type 0) → Iff A B → Iff (P × A) (P × B)
and_then P A B i = (λ h. (h.0, i.0 h.1), λ h. (h.0, i.1 h.1))

-- one of two alternatives, where the other cannot be
pub only_left : (A B C : Type 0) → (B → ⊥) → Iff A C → Iff (A ⊎ B) C
only_left A B C never i = (λ h. elim h [ inl a ↦ i.0 a | inr b ↦ absurd (never b) ], λ c. inl (i.1 c))

pub only_right : (A B C : Type 0) → (A → ⊥) → Iff B C → Iff (A ⊎ B) C
only_right A B C never i = (λ h. elim h [ inl a ↦ absurd (never a) | inr b ↦ i.0 b ], λ c. inr (i.1 c))

pub neither : (A B : Type 0) → (A → ⊥) → (B → ⊥) → A ⊎ B → ⊥
neither A B never nor h = elim h [ inl a ↦ never a | inr b ↦ nor b ]
