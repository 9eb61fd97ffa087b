-- The words of values by their places among others.
use Rattle.std.proofs.Common.{◌≡◌, ℕ, zero, suc, ◌+◌, ◌<◌, ◌≤◌, List, [], ◌∷◌, drop, get_or, length, map, refl, sym, ap, ◌∙◌, arith}
use Rattle.std.specs.Prelude.{slice_index}
use Rattle.base.specs.declared.ids.TypeId.{TypeId}
use Rattle.typed_syntax.specs.Types.{TypeTree, width}
use Rattle.typed.specs.declared.expr.Expr.{Expr}
use Rattle.typed_syntax.specs.Syntax.{Program, type_in, all_width, each_width, value_widths, wide}
use Rattle.typed.specs.View.{ex_of, exs_of}
use Rattle.program_code.specs.Code.{first_width, other_widths}

pub nth_width : (known : List TypeTree) (types : List TypeId) (i : ℕ) (t : TypeId) → i < length types → t ≡ get_or types i t → slice_index (each_width (map (λ t. type_in known t.0) types)) i ≡ width (type_in known t.0)
nth_width known [] i t l is = absurd (omega (arith, l))
nth_width known (x ∷ types) zero t l is = ap (λ (y : TypeId). width (type_in known y.0)) (sym is)
nth_width known (x ∷ types) (suc i) t l is = nth_width known types i t (omega (arith, l)) is

pub past_widths : (known : List TypeTree) (types : List TypeId) (i : ℕ) → length types ≤ i → slice_index (each_width (map (λ t. type_in known t.0) types)) i ≡ 0
past_widths known [] i l = refl
past_widths known (x ∷ types) zero l = absurd (omega (arith, l))
past_widths known (x ∷ types) (suc i) l = past_widths known types i (omega (arith, l))

pub nth_value : (p : Program) (es : List Expr) (i : ℕ) (e : Expr) → i < length es → e ≡ get_or es i e → slice_index (value_widths p (exs_of es)) i ≡ wide p (ex_of e)
nth_value p [] i e l is = absurd (omega (arith, l))
nth_value p (x ∷ es) zero e l is = ap (λ (y : Expr). wide p (ex_of y)) (sym is)
nth_value p (x ∷ es) (suc i) e l is = nth_value p es i e (omega (arith, l)) is

pub past_values : (p : Program) (es : List Expr) (i : ℕ) → length es ≤ i → slice_index (value_widths p (exs_of es)) i ≡ 0
past_values p [] i l = refl
past_values p (x ∷ es) zero l = absurd (omega (arith, l))
past_values p (x ∷ es) (suc i) l = past_values p es i (omega (arith, l))

-- from one on
pub first_drop : (ns : List ℕ) (i : ℕ) → first_width (drop i ns) ≡ slice_index ns i
first_drop [] zero = refl
first_drop [] (suc i) = refl
first_drop (n ∷ ns) zero = refl
first_drop (n ∷ ns) (suc i) = first_drop ns i

others_drop : (ns : List ℕ) (i : ℕ) → other_widths (drop i ns) ≡ drop (suc i) ns
others_drop [] zero = refl
others_drop [] (suc i) = refl
others_drop (n ∷ ns) zero = refl
others_drop (n ∷ ns) (suc i) = others_drop ns i

pub other_drop : (ns : List ℕ) (i : ℕ) → other_widths (drop i ns) ≡ drop (i + 1) ns
other_drop ns i = let one : suc i ≡ i + 1 = omega arith in others_drop ns i ∙ ap (λ k. drop k ns) one

-- the words of types from one on
drop_width : (known : List TypeTree) (types : List TypeId) (i : ℕ) → all_width (map (λ t. type_in known t.0) (drop i types)) ≡ slice_index (each_width (map (λ t. type_in known t.0) types)) i + all_width (map (λ t. type_in known t.0) (drop (suc i) types))
drop_width known [] zero = refl
drop_width known [] (suc i) = refl
drop_width known (t ∷ types) zero = refl
drop_width known (t ∷ types) (suc i) = drop_width known types i

pub width_behind : (known : List TypeTree) (types : List TypeId) (i : ℕ) → all_width (map (λ t. type_in known t.0) (drop i types)) ≡ slice_index (each_width (map (λ t. type_in known t.0) types)) i + all_width (map (λ t. type_in known t.0) (drop (i + 1) types))
width_behind known types i =
    let one : suc i ≡ i + 1 = omega arith in
    drop_width known types i ∙ ap (λ k. slice_index (each_width (map (λ t. type_in known t.0) types)) i + all_width (map (λ t. type_in known t.0) (drop k types))) one
