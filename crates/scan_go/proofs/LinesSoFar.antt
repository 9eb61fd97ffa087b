-- Positions and inserted semicolons from left to right.
use Rattle.std.proofs.Common.{◌≡◌, ℕ, ◌+◌, ◌-◌, ◌≤◌, List, [], ◌∷◌, ◌++◌, take, drop, refl, sym, ap, ◌∙◌, arith}
use Rattle.std.proofs.lemmas.List.{take-append-drop, take-take, drop-take}
use Rattle.scan_go.specs.declared.lexeme.Lexeme.{Lexeme}
use Rattle.base.specs.declared.pos.Pos.{Pos}
use Rattle.scan_go.specs.Tokens.{InOrder}
use Rattle.scan_go.specs.Lines.{text_start, pos_step, pos_at, pos_after}

after_both : (p : Pos) (a b : List ℕ) → pos_after (pos_after p a) b ≡ pos_after p (a ++ b)
after_both p [] b = refl
after_both p (x ∷ a) b = after_both (pos_step p x) a b

split_take : (n k : ℕ) (xs : List ℕ) → take n xs ++ take k (drop n xs) ≡ take (n + k) xs
split_take n k xs =
    let e = take-append-drop n (take (n + k) xs) in
    let front : take n (take (n + k) xs) ≡ take n xs = take-take n (n + k) xs (omega arith) in
    let back : drop n (take (n + k) xs) ≡ take k (drop n xs) = drop-take n k xs in
    ap (λ (l : List ℕ). l ++ take k (drop n xs)) (sym front) ∙ ap (λ (l : List ℕ). take n (take (n + k) xs) ++ l) (sym back) ∙ e

pub pos_later : (text : List ℕ) (p : Pos) (m : ℕ) → p ≡ pos_at text p.offset → p.offset ≤ m → pos_after p (take (m - p.offset) (drop p.offset text)) ≡ pos_at text m
unfolding pos_at
pos_later text p m is le =
    let n = p.offset in
    let k = m - n in
    let total : n + k ≡ m = omega arith in
    ap (λ (q : Pos). pos_after q (take k (drop n text))) is ∙ after_both (text_start) (take n text) (take k (drop n text)) ∙ ap (pos_after (text_start)) (split_take n k text) ∙ ap (λ (i : ℕ). pos_after (text_start) (take i text)) total

pub order_within : (place : ℕ) (ls : List Lexeme) (n : ℕ) → InOrder place ls n → place ≤ n
order_within place [] n order = order
order_within place (l ∷ ls) n order = omega (arith, order_within l.end ls n order.2, order.0, order.1)

pub order_end : (place : ℕ) (l : Lexeme) (ls : List Lexeme) (n : ℕ) → InOrder place (l ∷ ls) n → (l.start ≤ n) × (l.end ≤ n)
order_end place l ls n order = (omega (arith, order_within l.end ls n order.2, order.1), order_within l.end ls n order.2)
