-- Two faults of the same tokens are one.
use Rattle.std.proofs.Common.{◌≡◌, ◌≢◌, ℕ, zero, suc, ◌+◌, ◌<◌, ◌≤◌, List, [], ◌∷◌, ◌++◌, length, take, inl, inr, refl, sym, ap, subst, ◌∙◌, append_assoc, arith}
use Rattle.std.proofs.lemmas.List.{length-take-le, length-append, length-map}
use Rattle.std.proofs.lemmas.Bool.{cases_lt}
use Rattle.base.specs.declared.pos.Pos.{Pos}
use Rattle.scan_go.specs.declared.token.Token.{Token}
use Rattle.parse_expressions.specs.declared.terminal.Terminal.{Terminal}
use Rattle.parse_expressions.specs.Grammar.{Mark, terminal_in, terminals_in}
use Rattle.parse_expressions.specs.Terminals.{terminals_of}
use Rattle.parse_go.specs.declared.fault.ParseFault.{ParseFault}
use Rattle.parse_go.specs.declared.fault.ParseFault.TheVariants as fault
use Rattle.parse_go.specs.Grammar.{IsShallow}
use Rattle.parse_go.specs.Faults.{Begins, IsUnexpected, LastIsDeep, IsTooDeep, pos_in, IsFirstFault}

-- what a longer front has after a shorter one
longer_front : (i j : ℕ) (ts : List Terminal) → i ≤ j → (between : List Terminal) × (take j ts ≡ take i ts ++ between)
longer_front zero j ts le = (take j ts, refl)
longer_front (suc i) zero ts le = absurd (omega arith)
longer_front (suc i) (suc j) [] le = ([], refl)
longer_front (suc i) (suc j) (t ∷ ts) le = let m = longer_front i j ts (omega arith) in (m.0, ap (λ (l : List Terminal). t ∷ l) m.1)

-- a text that begins with the longer front begins with the shorter one
begins_less : (i j : ℕ) (ts : List Terminal) → i ≤ j → Begins (take j ts) → Begins (take i ts)
begins_less i j ts le h =
    let m = longer_front i j ts le in
    (h.0, h.1, m.0 ++ h.2, h.3 ∙ ap (λ (l : List Terminal). l ++ h.2) m.1 ∙ append_assoc (take i ts) m.0 h.2, h.4)

shallow_not_deep : (k m : ℕ) (ms : List Mark) → k ≤ m → LastIsDeep (take k ms) → IsShallow (take m ms) → ⊥
shallow_not_deep zero m ms le deep shallow = deep
shallow_not_deep (suc k) zero ms le deep shallow = absurd (omega arith)
shallow_not_deep (suc k) (suc m) [] le deep shallow = deep
shallow_not_deep (suc zero) (suc m) (a ∷ ms) le deep shallow = omega (arith, deep, shallow.0)
shallow_not_deep (suc (suc k)) (suc m) (a ∷ []) le deep shallow = omega (arith, deep, shallow.0)
shallow_not_deep (suc (suc k)) (suc zero) (a ∷ b ∷ ms) le deep shallow = absurd (omega arith)
shallow_not_deep (suc (suc k)) (suc (suc m)) (a ∷ b ∷ ms) le deep shallow = shallow_not_deep (suc k) (suc m) (b ∷ ms) (omega arith) deep.1 shallow.1

-- the first mark that passes the limit is one
deep_once : (k m : ℕ) (ms : List Mark) → k < m → m ≤ length ms → LastIsDeep (take k ms) → LastIsDeep (take m ms) → ⊥
deep_once zero m ms lt le first second = first
deep_once (suc k) zero ms lt le first second = absurd (omega arith)
deep_once (suc k) (suc m) [] lt le first second = first
deep_once (suc k) (suc zero) (a ∷ ms) lt le first second = absurd (omega arith)
deep_once (suc k) (suc (suc m)) (a ∷ []) lt le first second = absurd (omega arith)
deep_once (suc zero) (suc (suc m)) (a ∷ b ∷ ms) lt le first second = omega (arith, first, second.0)
deep_once (suc (suc k)) (suc (suc m)) (a ∷ b ∷ ms) lt le first second = deep_once (suc k) (suc m) (b ∷ ms) (omega arith) (omega arith) first.1 second.1

-- a text that begins with these terminals is no shorter
text_length : (ms : List Mark) (k : ℕ) (ts rest : List Terminal) → k ≤ length ts → terminals_in ms ≡ take k ts ++ rest → k ≤ length ms
text_length ms k ts rest le is = omega (arith, length-map ms terminal_in, ap length is, length-append (take k ts) rest, length-take-le k ts le)

module _ (ts : List Terminal) (i j : ℕ) where
  unexpected_once : IsUnexpected ts i → IsUnexpected ts j → i < j → ⊥
  unexpected_once a b lt = a.terminal (omega (arith, b.within)) (begins_less (i + 1) j ts (omega arith) b.before)

  too_deep_once : IsTooDeep ts i → IsTooDeep ts j → i < j → ⊥
  too_deep_once a b lt =
      let h = b.begins in
      let m = longer_front (i + 1) (j + 1) ts (omega arith) in
      let begins_first : terminals_in h.0 ≡ take (i + 1) ts ++ (m.0 ++ h.2) = h.3 ∙ ap (λ (l : List Terminal). l ++ h.2) m.1 ∙ append_assoc (take (i + 1) ts) m.0 h.2 in
      let first_length : length (take (i + 1) ts) ≡ i + 1 = length-take-le (i + 1) ts (omega (arith, b.within)) in
      let second_length : length (take (j + 1) ts) ≡ j + 1 = length-take-le (j + 1) ts (omega (arith, b.within)) in
      deep_once (i + 1) (j + 1) h.0 (omega arith) (text_length h.0 (j + 1) ts h.2 (omega (arith, b.within)) h.3)
      (subst (λ (k : ℕ). LastIsDeep (take k h.0)) first_length (a.deep h.0 h.1 (m.0 ++ h.2) begins_first h.4))
      (subst (λ (k : ℕ). LastIsDeep (take k h.0)) second_length (b.deep h.0 h.1 h.2 h.3 h.4))

  deep_before : IsUnexpected ts i → IsTooDeep ts j → j < i → ⊥
  deep_before a b lt =
      let h = a.before in
      let m = longer_front (j + 1) i ts (omega arith) in
      let begins_first : terminals_in h.0 ≡ take (j + 1) ts ++ (m.0 ++ h.2) = h.3 ∙ ap (λ (l : List Terminal). l ++ h.2) m.1 ∙ append_assoc (take (j + 1) ts) m.0 h.2 in
      let first_length : length (take (j + 1) ts) ≡ j + 1 = length-take-le (j + 1) ts (omega (arith, b.within)) in
      let second_length : length (take i ts) ≡ i = length-take-le i ts a.within in
      shallow_not_deep (j + 1) i h.0 (omega arith)
      (subst (λ (k : ℕ). LastIsDeep (take k h.0)) first_length (b.deep h.0 h.1 (m.0 ++ h.2) begins_first h.4))
      (subst (λ (k : ℕ). IsShallow (take k h.0)) second_length (a.shallow h.0 h.1 h.2 h.3 h.4))

  unexpected_or_deep : IsUnexpected ts i → IsTooDeep ts j → ⊥
  unexpected_or_deep a b =
      elim (cases_lt j i) [
        | inl lt ↦ deep_before a b lt
        | inr le ↦ a.terminal (omega (arith, b.within)) (begins_less (i + 1) (j + 1) ts (omega arith) b.begins)
      ]

unexpected_at_one : (ts : List Terminal) (i j : ℕ) → IsUnexpected ts i → IsUnexpected ts j → i ≡ j
unexpected_at_one ts i j a b =
    elim (cases_lt i j) [
      | inl lt ↦ absurd (unexpected_once ts i j a b lt)
      | inr le ↦ elim (cases_lt j i) [ inl lt ↦ absurd (unexpected_once ts j i b a lt) | inr ge ↦ omega arith ]
    ]

too_deep_at_one : (ts : List Terminal) (i j : ℕ) → IsTooDeep ts i → IsTooDeep ts j → i ≡ j
too_deep_at_one ts i j a b =
    elim (cases_lt i j) [
      | inl lt ↦ absurd (too_deep_once ts i j a b lt)
      | inr le ↦ elim (cases_lt j i) [ inl lt ↦ absurd (too_deep_once ts j i b a lt) | inr ge ↦ omega arith ]
    ]

pub one_fault : (tokens : List Token) (end : Pos) (f g : ParseFault) → IsFirstFault tokens end f → IsFirstFault tokens end g → f ≢ fault.NoMemory → g ≢ fault.NoMemory → f ≡ g
one_fault tokens end fault.NoMemory g h k not_f not_g = absurd (not_f refl)
one_fault tokens end f fault.NoMemory h k not_f not_g = absurd (not_g refl)
one_fault tokens end (fault.Unexpected p) (fault.Unexpected q) h k not_f not_g =
    ap fault.Unexpected (h.1 ∙ ap (pos_in tokens end) (unexpected_at_one (terminals_of tokens) h.0 k.0 h.2 k.2) ∙ sym k.1)
one_fault tokens end (fault.TooDeep p) (fault.TooDeep q) h k not_f not_g =
    ap fault.TooDeep (h.1 ∙ ap (pos_in tokens end) (too_deep_at_one (terminals_of tokens) h.0 k.0 h.2 k.2) ∙ sym k.1)
one_fault tokens end (fault.Unexpected p) (fault.TooDeep q) h k not_f not_g = absurd (unexpected_or_deep (terminals_of tokens) h.0 k.0 h.2 k.2)
one_fault tokens end (fault.TooDeep p) (fault.Unexpected q) h k not_f not_g = absurd (unexpected_or_deep (terminals_of tokens) k.0 h.0 k.2 h.2)
