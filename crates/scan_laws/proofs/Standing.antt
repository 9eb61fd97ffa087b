-- The tokens of a text, where they stand.
use Rattle.std.proofs.Common.{◌≡◌, ℕ, ◌+◌, ◌-◌, ◌<◌, ◌≤◌, Bool, true, false, cond, List, [], ◌∷◌, ◌++◌, length, take, drop, Option, Some, Ok, Err, refl, sym, ap, subst, ◌∙◌, inl, inr, arith}
use Rattle.std.specs.Prelude.{◌⊎◌, ◌&&◌}
use Rattle.std.specs.List.{All, AllByRecursion, Contains, prefix_len}
use Rattle.std.proofs.lemmas.List.{length-take, length-drop, drop-drop}
use Rattle.std.proofs.lemmas.List.Elements.{All-from_recursion, All-contains}
use Rattle.std.proofs.lemmas.List.Sums.{prefix_len-le-length}
use Rattle.scan_go.specs.declared.lexeme.Lexeme.{Lexeme}
use Rattle.scan_go.specs.declared.piece.Piece.{Piece}
use Rattle.scan_go.specs.declared.piece.Piece.TheVariants as piece
use Rattle.scan_go.specs.declared.spelling.Op.{Op}
use Rattle.scan_go.specs.declared.spelling.Op.TheVariants as op
use Rattle.scan_go.specs.declared.token.Kind.{Kind}
use Rattle.scan_go.specs.declared.token.Kind.TheVariants as kind
use Rattle.scan_go.specs.declared.token.Token.{Token}
use Rattle.scan_go.specs.Characters.{is_within_line}
use Rattle.scan_go.specs.Lines.{closes_line, ends_line, gap_after, semicolon_at, with_semicolons}
use Rattle.scan_go.specs.Pieces.{piece_at}
use Rattle.scan_go.specs.Tokens.{Cut, Found, with_front, found_in, mark_len}
use Rattle.scan_go.proofs.LongestOperator.{longest}
use Rattle.scan_go.proofs.Spans.{offset_at}
use Rattle.scan_laws.specs.Forms.{Skips, nothing}
use Rattle.scan_laws.specs.Laws.{MadeOf, end, token, inserted, IsTokenOf, IsWhole, IsLongest, OnlySpacesAndCommentsBetween, NamesAreWhole, KeywordsAreSpelled, OperatorsAreLongest, NumbersAreLiterals, StringsAreLiterals}
use Rattle.scan_laws.proofs.Gaps.{skips-skips}
use Rattle.scan_laws.proofs.Pieces.{OfKind, Says, Said, says}

-- ---- tokens with their spans alone

-- a token stands within the text, and is what its kind says
abbrev Stands : List ℕ → Kind → ℕ → ℕ → Type 0
Stands text k start end' = (start ≤ end') × (end' ≤ length text) × OfKind k (drop start text) (end' - start)

-- from a place on, a text is made of these tokens, of spaces and of comments
data Made (text : List ℕ) : ℕ → List Lexeme → Type 0 where
  ends : {place : ℕ} → Skips (drop place text) [] → Made text place []
  more : {place : ℕ} {l : Lexeme} {ls : List Lexeme} → Skips (drop place text) (drop l.start text) → Stands text l.kind l.start l.end → Made text l.end ls → Made text place (l ∷ ls)

after_front : (front : List Lexeme) (f : Found) (ls : List Lexeme) → with_front front f ≡ Ok ls → (others : List Lexeme) × (f ≡ Ok others) × (front ++ others ≡ ls)
after_front front (Ok others) ls is = (others, refl, cc is)
after_front front (Err e) ls is = absurd (cc is)

stands : (text : List ℕ) (place : ℕ) (k : Kind) (n : ℕ) → 0 < length (drop place text) → piece_at (drop place text) ≡ piece.Token k n → Stands text k place (place + n)
stands text place k n some is =
    let rest : List ℕ = drop place text in
    let said : Says rest (piece.Token k n) = (subst (Said rest) is (says rest)).said in
    let len : n ≡ place + n - place = omega arith in
    (omega arith, omega (arith, some, said.0, length-drop place text), subst (OfKind k rest) len said.1)

made : (text : List ℕ) (from place : ℕ) (ps : List Piece) (ls : List Lexeme) → Skips (drop from text) (drop place text) → Cut (drop place text) ps → found_in place ps ≡ Ok ls → Made text from ls
made text from place [] ls skips cut is =
    let e : [] ≡ ls = cc is in
    subst (Made text from) e (ends (subst (Skips (drop from text)) cut skips))
made text from place (piece.Gap n ∷ ps) ls skips cut is =
    let gap : Skips (drop place text) (drop n (drop place text)) = (subst (Said (drop place text)) cut.1 (says (drop place text))).said in
    let e : drop n (drop place text) ≡ drop (place + n) text = drop-drop n place text in
    made text from (place + n) ps ls (skips-skips skips (subst (Skips (drop place text)) e gap)) (subst (λ (r : List ℕ). Cut r ps) e cut.2) is
made text from place (piece.Token k n ∷ ps) ls skips cut is =
    let l : Lexeme = record { kind = k; start = place; end = place + n } in
    let f = after_front (l ∷ []) (found_in (place + n) ps) ls is in
    let e : drop n (drop place text) ≡ drop (place + n) text = drop-drop n place text in
    subst (Made text from) f.2
    (more skips (stands text place k n cut.0 cut.1) (made text (place + n) (place + n) ps f.0 nothing (subst (λ (r : List ℕ). Cut r ps) e cut.2) f.1))
made text from place (piece.Fault e n ∷ ps) ls skips cut is = absurd (cc is)

-- ---- tokens with their positions, the inserted semicolons among them

-- an inserted semicolon, or a token that stands
abbrev Holds : List ℕ → Token → Type 0
Holds text t = ((t.kind ≡ kind.Op op.Semicolon) × (t.pos.offset ≡ t.end)) ⊎ Stands text t.kind t.pos.offset t.end

record Whole (text : List ℕ) (place : ℕ) (ts : List Token) : Type 0 where
  made_of : MadeOf text place ts
  all : AllByRecursion (Holds text) ts

semicolon_within : (text : List ℕ) (l : Lexeme) (ls : List Lexeme) → l.end ≤ length text → l.end + prefix_len is_within_line (gap_after text l ls) ≤ length text
semicolon_within text l [] le = omega (arith, le, prefix_len-le-length is_within_line (drop l.end text), length-drop l.end text)
semicolon_within text l (m ∷ ls) le =
    omega (arith, le, prefix_len-le-length is_within_line (take (m.start - l.end) (drop l.end text)), length-take (m.start - l.end) (drop l.end text), length-drop l.end text)

with_semicolon : (text : List ℕ) (place q : ℕ) (ts : List Token) (t : Bool) → q ≤ length text → Whole text place ts → Whole text place (cond t (semicolon_at text q ∷ []) [] ++ ts)
with_semicolon text place q ts true le w =
    let here = offset_at text q le in
    record { made_of = inserted refl here w.made_of; all = (inl (refl, here), w.all) }
with_semicolon text place q ts false le w = w

whole : (text : List ℕ) (place : ℕ) (ls : List Lexeme) → Made text place ls → Whole text place (with_semicolons text ls)
whole text place [] (ends skips) = record { made_of = end skips; all = tt }
whole text place (l ∷ ls) (more skips stand rests) =
    let at = offset_at text l.start (omega (arith, stand.0, stand.1)) in
    let gap = gap_after text l ls in
    let after = with_semicolon text l.end (l.end + prefix_len is_within_line gap) (with_semicolons text ls) (closes_line l.kind && ends_line gap ls) (semicolon_within text l ls stand.1) (whole text l.end ls rests) in
    record {
      made_of = token (subst (λ (o : ℕ). Skips (drop place text) (drop o text)) (sym at) skips) after.made_of;
      all = (inr (subst (λ (o : ℕ). Stands text l.kind o l.end) (sym at) stand), after.all);
    }

-- ---- the laws

pub only_spaces : OnlySpacesAndCommentsBetween
only_spaces text tokens are =
    let start = mark_len text in
    let w = whole text start are.1.0 (made text start start are.1.1.0 are.1.0 nothing are.1.1.1 are.1.1.2) in
    subst (MadeOf text start) (sym are.1.2) w.made_of

holds : (text : List ℕ) (t : Token) → IsTokenOf text t → Holds text t
holds text t is =
    let are = is.1 in
    let start = mark_len text in
    let w = whole text start are.1.0 (made text start start are.1.1.0 are.1.0 nothing are.1.1.1 are.1.1.2) in
    All-contains (Holds text) is.0 t (All-from_recursion (Holds text) is.0 (subst (AllByRecursion (Holds text)) (sym are.1.2) w.all)) is.2

-- a token that has a byte, or is no operator, stands
stands_as : (text : List ℕ) (t : Token) (k : Kind) → t.kind ≡ k → (k ≡ kind.Op op.Semicolon → t.pos.offset ≡ t.end → ⊥) → IsTokenOf text t → OfKind k (drop t.pos.offset text) (t.end - t.pos.offset)
stands_as text t k same never is = elim (holds text t is) [
  | inl empty ↦ absurd (never (sym same ∙ empty.0) empty.1)
  | inr stand ↦ subst (λ (j : Kind). OfKind j (drop t.pos.offset text) (t.end - t.pos.offset)) same stand.2
]

pub names : NamesAreWhole
names text t is same = let of = stands_as text t kind.Name same (λ e _. cc e) is in record { letter = of.letter; others = of.others; stops = of.stops }

pub keywords : KeywordsAreSpelled
keywords text t k is same = let of = stands_as text t (kind.Keyword k) same (λ e _. cc e) is in (of.0, record { letter = of.1.letter; others = of.1.others; stops = of.1.stops })

pub operators : OperatorsAreLongest
operators text t x is same some =
    let of = stands_as text t (kind.Op x) same (λ _ e. omega (arith, some, e)) is in
    record { spelled = of.0; longest = λ y begins. longest (drop t.pos.offset text) x y of.1 begins }

pub numbers : NumbersAreLiterals
numbers text t v is same = let of = stands_as text t (kind.Number v) same (λ e _. cc e) is in record { integer = of.0; longest = of.1 }

pub strings : StringsAreLiterals
strings text t is same = stands_as text t kind.String same (λ e _. cc e) is
