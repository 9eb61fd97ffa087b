-- The value of digits only grows.
use Rattle.std.proofs.Common.{◌≡◌, ℕ, ◌+◌, ◌*◌, ◌<◌, ◌≤◌, Bool, true, false, cond, List, [], ◌∷◌, get_or, drop, length, sym, ap, ◌∙◌, arith}
use Rattle.std.specs.Prelude.{fold, ◌^◌}
use Rattle.std.proofs.lemmas.List.{drop_more}
use Rattle.std.specs.Char.{is_digit, digit_value}
use Rattle.scan_go.specs.declared.number_base.Base.{Base}
use Rattle.scan_go.specs.declared.number_base.Base.TheVariants as number_base
use Rattle.scan_go.specs.Numbers.{radix, add_digit, value}

grown : (b : Base) (t : Bool) (v d : ℕ) → v ≤ cond t (radix b * v + d) v
grown number_base.Binary true v d = omega arith
grown number_base.Octal true v d = omega arith
grown number_base.Decimal true v d = omega arith
grown number_base.Hexadecimal true v d = omega arith
grown b false v d = omega arith

pub grows : (b : Base) (v : ℕ) (run : List ℕ) → v ≤ fold (add_digit b) v run
grows b v [] = omega arith
grows b v (c ∷ run) = omega (arith, grown b (is_digit c (radix b)) v (digit_value c), grows b (add_digit b v c) run)

pub too_big : (b : Base) (run : List ℕ) (i v : ℕ) → i < length run → fold (add_digit b) v (drop i run) ≡ value b run
    → (add_digit b v (get_or run i 0) < 2 ^ 127 → ⊥) → value b run < 2 ^ 127 → ⊥
too_big b run i v lt so_far large below =
    let c = get_or run i 0 in
    let e : fold (add_digit b) (add_digit b v c) (drop (i + 1) run) ≡ value b run = ap (fold (add_digit b) v) (sym (drop_more run i 0 lt)) ∙ so_far in
    large (omega (arith, grows b (add_digit b v c) (drop (i + 1) run), e))
