-- The names that some expressions are, one expression after the other.
use Rattle.std.proofs.Common.{◌≡◌, ℕ, zero, suc, ◌+◌, ◌<◌, ◌≤◌, List, [], ◌∷◌, ◌++◌, length, get_or, drop, Option, Some, None, refl, ap, ◌∙◌, sym, append_assoc, append-nil, arith}
use Rattle.std.specs.Option.{option_map}
use Rattle.std.proofs.Math.Seq.{drop-cons}
use Rattle.syntax.specs.declared.expression.Name.{Name}
use Rattle.syntax.specs.declared.expression.Expr.{Expr}
use Rattle.syntax.specs.declared.expression.Expr.TheVariants as expr
use Rattle.syntax.specs.Expressions.{Exs, some, ex_of, exs_of}
use Rattle.parse_simple_statements.specs.Simples.{names_in}

-- what is found where these names stand before
abbrev pub behind : List Name → Option (List Name) → Option (List Name)
behind before o = option_map (λ (xs : List Name). before ++ xs) o

nothing_before : (o : Option (List Name)) → o ≡ behind [] o
nothing_before None = refl
nothing_before (Some xs) = refl

one_more : (before : List Name) (x : Name) (o : Option (List Name)) → behind before (option_map (λ (xs : List Name). x ∷ xs) o) ≡ behind (before ++ x ∷ []) o
one_more before x None = refl
one_more before x (Some xs) = ap Some (sym (append_assoc before (x ∷ []) xs))

is_no_name : (e : Expr) (es : Exs) → ((x : Name) → e ≡ expr.Name x → ⊥) → names_in (some (ex_of e) es) ≡ None
is_no_name (expr.Name x) es other = absurd (other x refl)
is_no_name e es other = refl

from_one : {A : Type 0} (xs : List A) (i : ℕ) (x : A) → i < length xs → x ≡ get_or xs i x → drop i xs ≡ x ∷ drop (i + 1) xs
from_one xs i x l is =
    let one : suc i ≡ i + 1 = omega arith in
    drop-cons xs i x l ∙ ap (λ y. y ∷ drop (suc i) xs) (sym is) ∙ ap (λ j. x ∷ drop j xs) one

nothing_left : {A : Type 0} (xs : List A) (i : ℕ) → (i < length xs → ⊥) → drop i xs ≡ []
nothing_left [] zero h = refl
nothing_left [] (suc i) h = refl
nothing_left (x ∷ xs) zero h = absurd (h (omega arith))
nothing_left (x ∷ xs) (suc i) h = nothing_left xs i (λ l. h (omega (arith, l)))

pub found_first : (es : List Expr) → names_in (exs_of es) ≡ behind [] (names_in (exs_of es))
found_first es = nothing_before (names_in (exs_of es))

pub found_more : (values : List Expr) (i : ℕ) (e : Expr) (x : Name) (before : List Name) → i < length values → e ≡ get_or values i e → e ≡ expr.Name x → names_in (exs_of values) ≡ behind before (names_in (exs_of (drop i values))) → names_in (exs_of values) ≡ behind (before ++ x ∷ []) (names_in (exs_of (drop (i + 1) values)))
found_more values i e x before l is named h = h ∙ ap (λ (l : List Expr). behind before (names_in (exs_of l))) (from_one values i e l is) ∙ ap (λ (d : Expr). behind before (names_in (some (ex_of d) (exs_of (drop (i + 1) values))))) named ∙ one_more before x (names_in (exs_of (drop (i + 1) values)))

pub found_none : (values : List Expr) (i : ℕ) (e : Expr) (before : List Name) → i < length values → e ≡ get_or values i e → ((x : Name) → e ≡ expr.Name x → ⊥) → names_in (exs_of values) ≡ behind before (names_in (exs_of (drop i values))) → names_in (exs_of values) ≡ None
found_none values i e before l is other h = h ∙ ap (λ (l : List Expr). behind before (names_in (exs_of l))) (from_one values i e l is) ∙ ap (behind before) (is_no_name e (exs_of (drop (i + 1) values)) other)

all_found : (before : List Name) → behind before (Some []) ≡ Some before
all_found before = ap Some (append-nil before)

pub found_all : (values : List Expr) (i : ℕ) (before : List Name) → length values ≤ i → names_in (exs_of values) ≡ behind before (names_in (exs_of (drop i values))) → names_in (exs_of values) ≡ Some before
found_all values i before l h = h ∙ ap (λ (l : List Expr). behind before (names_in (exs_of l))) (nothing_left values i (λ (m : i < length values). omega (arith, l, m))) ∙ all_found before
