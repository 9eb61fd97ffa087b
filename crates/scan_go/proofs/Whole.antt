-- The tokens of a whole text, found from left to right, and that they are unique.
use Rattle.std.proofs.Common.{◌≡◌, ℕ, ◌+◌, ◌<◌, ◌≤◌, List, [], ◌∷◌, ◌++◌, length, drop, Ok, Err, refl, sym, ap, subst, ◌∙◌, append_assoc, arith}
use Rattle.std.proofs.lemmas.List.{append-nil, drop-drop, drop_all, length-drop}
use Rattle.scan_go.specs.declared.token.Kind.{Kind}
use Rattle.scan_go.specs.declared.lexeme.Lexeme.{Lexeme}
use Rattle.scan_go.specs.declared.piece.Piece.{Piece}
use Rattle.scan_go.specs.declared.piece.Piece.TheVariants as piece
use Rattle.scan_go.specs.declared.fault.FaultKind.{FaultKind}
use Rattle.scan_go.specs.Pieces.{piece_at}
use Rattle.scan_go.specs.Tokens.{Cut, Found, with_front, found_in, Lexes, InOrder, mark_len}

-- Whatever the text has from here on completes what was found.
pub record SoFar (text : List ℕ) (found : List Lexeme) (place : ℕ) : Type 0 where
  pub within : place ≤ length text
  pub ordered : (more : List Lexeme) → InOrder place more (length text) → InOrder 0 (found ++ more) (length text)
  pub completes : (ps : List Piece) → Cut (drop place text) ps → Lexes text (with_front found (found_in place ps))

front-nil : (f : Found) → with_front [] f ≡ f
front-nil (Ok ls) = refl
front-nil (Err e) = refl

front-front : (a b : List Lexeme) (f : Found) → with_front a (with_front b f) ≡ with_front (a ++ b) f
front-front a b (Ok ls) = ap Ok (sym (append_assoc a b ls))
front-front a b (Err e) = refl

-- spans in order from a later place on
earlier : (a b : ℕ) (ls : List Lexeme) (n : ℕ) → a ≤ b → InOrder b ls n → InOrder a ls n
earlier a b [] n le order = omega arith
earlier a b (l ∷ ls) n le order = (omega (arith, order.0), order.1, order.2)

pub at_start : (text : List ℕ) → mark_len text ≤ length text → SoFar text [] (mark_len text)
at_start text within = record {
  within = within;
  ordered = λ more order. earlier 0 (mark_len text) more (length text) (omega arith) order;
  completes = λ ps cut. (ps, cut, sym (front-nil (found_in (mark_len text) ps)));
}

module _ (text : List ℕ) (found : List Lexeme) (place : ℕ) (so_far : SoFar text found place) (more : place < length text) where
  not_at_end : 0 < length (drop place text)
  not_at_end = omega (arith, length-drop place text)

  pub after_gap : (n : ℕ) → piece_at (drop place text) ≡ piece.Gap n → n ≤ length (drop place text) → SoFar text found (place + n)
  after_gap n is fits = record {
    within = omega (arith, length-drop place text);
    ordered = λ more order. so_far.ordered more (earlier place (place + n) more (length text) (omega arith) order);
    completes = λ ps cut. so_far.completes (piece.Gap n ∷ ps) (not_at_end, is, subst (λ (r : List ℕ). Cut r ps) (sym (drop-drop n place text)) cut);
  }

  pub after_token : (k : Kind) (n : ℕ) → piece_at (drop place text) ≡ piece.Token k n → 0 < n → n ≤ length (drop place text) → SoFar text (found ++ record { kind = k; start = place; end = place + n } ∷ []) (place + n)
  after_token k n is some fits = record {
    within = omega (arith, length-drop place text);
    ordered = λ more order.
        let token : Lexeme = record { kind = k; start = place; end = place + n } in
        subst (λ (ls : List Lexeme). InOrder 0 ls (length text)) (sym (append_assoc found (token ∷ []) more)) (so_far.ordered (token ∷ more) (omega arith, omega arith, order));
    completes = λ ps cut.
        let token : List Lexeme = record { kind = k; start = place; end = place + n } ∷ [] in
        subst (Lexes text) (front-front found token (found_in (place + n) ps)) (so_far.completes (piece.Token k n ∷ ps) (not_at_end, is, subst (λ (r : List ℕ). Cut r ps) (sym (drop-drop n place text)) cut));
  }

  pub at_fault : (f : FaultKind) (n : ℕ) → piece_at (drop place text) ≡ piece.Fault f n → n < length (drop place text) → (place + n < length text) × Lexes text (Err (f, place + n))
  at_fault f n is fits = (omega (arith, length-drop place text), so_far.completes (piece.Fault f n ∷ []) (not_at_end, is, refl))

pub order_at_end : (text : List ℕ) (found : List Lexeme) (place : ℕ) → SoFar text found place → InOrder 0 found (length text)
order_at_end text found place so_far = subst (λ (ls : List Lexeme). InOrder 0 ls (length text)) (append-nil found) (so_far.ordered [] so_far.within)

pub at_end : (text : List ℕ) (found : List Lexeme) (place : ℕ) → SoFar text found place → length text ≤ place → Lexes text (Ok found)
at_end text found place so_far done = subst (λ (ls : List Lexeme). Lexes text (Ok ls)) (append-nil found) (so_far.completes [] (drop_all place text done))

-- ---- one answer

cut_once : (rest : List ℕ) (ps qs : List Piece) → Cut rest ps → Cut rest qs → ps ≡ qs
cut_once rest [] [] p q = refl
cut_once rest [] (piece.Gap n ∷ qs) p q = absurd (omega (arith, q.0, ap length p))
cut_once rest [] (piece.Token k n ∷ qs) p q = absurd (omega (arith, q.0, ap length p))
cut_once rest [] (piece.Fault f n ∷ qs) p q = absurd (omega (arith, q.0, ap length p))
cut_once rest (piece.Gap n ∷ ps) [] p q = absurd (omega (arith, p.0, ap length q))
cut_once rest (piece.Token k n ∷ ps) [] p q = absurd (omega (arith, p.0, ap length q))
cut_once rest (piece.Fault f n ∷ ps) [] p q = absurd (omega (arith, p.0, ap length q))
cut_once rest (piece.Gap n ∷ ps) (piece.Gap m ∷ qs) p q =
    let same : n ≡ m = cc (p.1, q.1) in
    let rests = cut_once (drop n rest) ps qs p.2 (subst (λ (k : ℕ). Cut (drop k rest) qs) (sym same) q.2) in
    cc (same, rests)
cut_once rest (piece.Gap n ∷ ps) (piece.Token k m ∷ qs) p q = absurd (cc (p.1, q.1))
cut_once rest (piece.Gap n ∷ ps) (piece.Fault f m ∷ qs) p q = absurd (cc (p.1, q.1))
cut_once rest (piece.Token j n ∷ ps) (piece.Gap m ∷ qs) p q = absurd (cc (p.1, q.1))
cut_once rest (piece.Token j n ∷ ps) (piece.Token k m ∷ qs) p q =
    let same : n ≡ m = cc (p.1, q.1) in
    let kinds : j ≡ k = cc (p.1, q.1) in
    let rests = cut_once (drop n rest) ps qs p.2 (subst (λ (i : ℕ). Cut (drop i rest) qs) (sym same) q.2) in
    cc (same, kinds, rests)
cut_once rest (piece.Token j n ∷ ps) (piece.Fault f m ∷ qs) p q = absurd (cc (p.1, q.1))
cut_once rest (piece.Fault e n ∷ ps) (piece.Gap m ∷ qs) p q = absurd (cc (p.1, q.1))
cut_once rest (piece.Fault e n ∷ ps) (piece.Token k m ∷ qs) p q = absurd (cc (p.1, q.1))
cut_once rest (piece.Fault e n ∷ ps) (piece.Fault f m ∷ qs) p q = cc (p.1, q.1, p.2, q.2)

pub one_answer : (text : List ℕ) (a b : Found) → Lexes text a → Lexes text b → a ≡ b
one_answer text a b p q = sym p.2 ∙ ap (found_in (mark_len text)) (cut_once (drop (mark_len text) text) p.0 q.0 p.1 q.1) ∙ q.2
