-- The spans of the tokens follow one another, and lie within the text.
use Rattle.std.proofs.Common.{◌≡◌, ℕ, ◌+◌, ◌-◌, ◌<◌, ◌≤◌, Bool, true, false, cond, List, [], ◌∷◌, ◌++◌, length, take, drop, refl, inl, inr, arith}
use Rattle.std.specs.Prelude.{zero, suc, slice_index_or, ◌&&◌, ◌==◌}
use Rattle.std.specs.List.{prefix_len}
use Rattle.std.proofs.lemmas.List.{length-take, length-drop}
use Rattle.std.proofs.lemmas.Bool.{cases_Bool}
use Rattle.std.proofs.lemmas.List.Sums.{prefix_len-le-length}
use Rattle.scan_go.specs.TokenList.{IsWithin, most_bytes}
use Rattle.base.specs.declared.pos.Pos.{Pos}
use Rattle.scan_go.specs.declared.lexeme.Lexeme.{Lexeme}
use Rattle.scan_go.specs.declared.token.Token.{Token}
use Rattle.scan_go.specs.Characters.{is_within_line}
use Rattle.scan_go.specs.Tokens.{InOrder}
use Rattle.scan_go.specs.Lines.{text_start, pos_step, pos_after, pos_at, closes_line, gap_after, ends_line, semicolon_at, with_semicolons, AreSpans, IsSpan}

step_offset : (p : Pos) (b : ℕ) → (pos_step p b).offset ≡ p.offset + 1
step_offset p b = elim (cases_Bool (b == 10)) [
  | inl is ↦ rw is refl
  | inr is ↦ rw is refl
]

offset_after : (p : Pos) (bytes : List ℕ) → (pos_after p bytes).offset ≡ p.offset + length bytes
offset_after p [] = omega arith
offset_after p (b ∷ bytes) = omega (arith, offset_after (pos_step p b) bytes, step_offset p b)

pub offset_at : (text : List ℕ) (n : ℕ) → n ≤ length text → (pos_at text n).offset ≡ n
unfolding pos_at
offset_at text n le = omega (arith, offset_after text_start (take n text), length-take n text)

order_within : (place : ℕ) (ls : List Lexeme) (n : ℕ) → InOrder place ls n → place ≤ n
order_within place [] n order = order
order_within place (l ∷ ls) n order = omega (arith, order_within l.end ls n order.2, order.0, order.1)

-- the end of the line after a token lies before the next token
line_end_before : (text : List ℕ) (l : Lexeme) (ls : List Lexeme) → InOrder l.end ls (length text) → InOrder (l.end + prefix_len is_within_line (gap_after text l ls)) ls (length text)
line_end_before text l [] order = omega (arith, prefix_len-le-length is_within_line (drop l.end text), length-drop l.end text)
line_end_before text l (m ∷ ls) order = (omega (arith, order.0, prefix_len-le-length is_within_line (take (m.start - l.end) (drop l.end text)), length-take (m.start - l.end) (drop l.end text)), order.1, order.2)

-- a semicolon that may be inserted before the others
with_inserted : (text : List ℕ) (place q : ℕ) (rest : List Token) (t : Bool) → place ≤ q → q ≤ length text → AreSpans place rest (length text) → AreSpans q rest (length text)
    → AreSpans place (cond t (semicolon_at text q ∷ []) [] ++ rest) (length text)
with_inserted text place q rest true le within whole after = (omega (arith, offset_at text q within), omega (arith, offset_at text q within), after)
with_inserted text place q rest false le within whole after = whole

spans_of : (text : List ℕ) (place : ℕ) (ls : List Lexeme) → InOrder place ls (length text) → AreSpans place (with_semicolons text ls) (length text)
spans_of text place [] order = order
spans_of text place (l ∷ ls) order =
    let within : l.end ≤ length text = order_within l.end ls (length text) order.2 in
    let start : (pos_at text l.start).offset ≡ l.start = offset_at text l.start (omega (arith, order.1)) in
    let gap = gap_after text l ls in
    let q = l.end + prefix_len is_within_line gap in
    let after = line_end_before text l ls order.2 in (
      omega (arith, order.0),
      omega (arith, order.1),
      with_inserted text l.end q (with_semicolons text ls) (closes_line l.kind && ends_line gap ls) (omega arith) (order_within q ls (length text) after)
          (spans_of text l.end ls order.2) (spans_of text q ls after),
    )

pub within : (text : List ℕ) (ls : List Lexeme) → length text ≤ most_bytes → InOrder 0 ls (length text) → IsWithin text (with_semicolons text ls)
within text ls short order = record { short = short; spans = spans_of text 0 ls order }

spans_within : (place : ℕ) (ts : List Token) (n : ℕ) → AreSpans place ts n → place ≤ n
spans_within place [] n spans = spans
spans_within place (t ∷ ts) n spans = omega (arith, spans.0, spans.1, spans_within t.end ts n spans.2)

pub all_spans : (place : ℕ) (ts : List Token) (n : ℕ) → AreSpans place ts n → (k : ℕ) (d : Token) → k < length ts → IsSpan n (slice_index_or ts k d)
all_spans place [] n spans k d lt = absurd (omega arith)
all_spans place (t ∷ ts) n spans zero d lt = (spans.1, spans_within t.end ts n spans.2)
all_spans place (t ∷ ts) n spans (suc k) d lt = all_spans t.end ts n spans.2 k d (omega arith)
